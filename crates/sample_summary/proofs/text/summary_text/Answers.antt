use Rattle.std.proofs.Common.{◌≡◌, ◌∙◌, List, ap, sym, subst, length, map, max, not}
use Rattle.std.specs.Prelude.{sum_by, decimal, ◌||◌, ◌==◌}
use Rattle.std.specs.List.{range_with_len, count_by, fold}
use Rattle.std.proofs.lemmas.List.{length-map}
use Rattle.cell_lists.specs.EntryLists.{lists_of}
use Rattle.letters.specs.declared.Letter.TheVariants.{U, V, W, X}
use Rattle.complex_box.specs.Box.{box_ends}
use Rattle.points.specs.Points.{is_source, place}
use Rattle.points.specs.declared.Point.{Point}
use Rattle.quadtree.specs.Tree.{AreInGrid, is_over}
use Rattle.quadtree.specs.TreeModel.{size, node_of, IsTree}
use Rattle.report_lines.specs.Report.{work_line}
use Rattle.tree_field.specs.Field.{targets, target_box, target_boxes}
use Rattle.tree_field.specs.Work.{pairs, translations}
use Rattle.tree_field.specs.Lists.{AreTreeLists}
use Rattle.sample_summary.specs.Summary.{entry_count, width}
use Rattle.sample_summary.proofs.Counting.{cells_are, leaves_are, entries_are}
use Rattle.sample_summary.proofs.Grid.{points_in_grid}
use Rattle.sample_summary.proofs.Lines.{in_order}
use Rattle.sample_summary.proofs.text.summary_text.Goals as goal

pub returns : goal.returns
returns g c these given =
    let tree = c.args.field.now.basis.tree in
    let lists = c.args.field.now.basis.lists in
    let values = c.args.field.now.values in
    let points : List Point = c.args.points.now in
    let cap = c.args.cap in
    let h = c.requires.solved.is_tree in
    let are = c.requires.solved.lists_are in
    let a = subst (λ n. AreTreeLists n points cap these) (sym c.requires.grid) given in
    let is_tree = c.tree.ensures in
    let are_lists = c.lists.ensures in
    let inside : AreInGrid tree.grid points = points_in_grid tree points cap (subst IsTree is_tree c.prepend_tree.ensures.tree) h in
    let over = c.requires.solved.over these a in
    let as_many : length values ≡ length (targets points) =
    sym (length-map values box_ends) ∙ ap length over.values_are ∙ length-map (targets points) (λ p. target_box points cap g.row.P these (place p)) in
    rw (
      c.prepend_sample.ensures,
      c.prepend_points.ensures.text,
      c.targets.ensures ∙ as_many,
      c.prepend_tree.ensures.text,
      ap (λ tree. count_by (λ n. (node_of tree n).is_leaf) (range_with_len 0 (size tree))) is_tree ∙ leaves_are tree lists points cap these inside h are a,
      ap size is_tree ∙ cells_are tree lists points cap these inside h are a,
      c.prepend_lists.ensures.text,
      ap (λ lists. sum_by (λ list. length list) (lists_of lists U)) are_lists ∙ entries_are tree lists points cap these inside h are a U,
      ap (λ lists. sum_by (λ list. length list) (lists_of lists V)) are_lists ∙ entries_are tree lists points cap these inside h are a V,
      ap (λ lists. sum_by (λ list. length list) (lists_of lists W)) are_lists ∙ entries_are tree lists points cap these inside h are a W,
      ap (λ lists. sum_by (λ list. length list) (lists_of lists X)) are_lists ∙ entries_are tree lists points cap these inside h are a X,
      c.prepend_work.ensures.text,
      c.translations.ensures ∙ over.translations_are,
      c.pairs.ensures ∙ over.pairs_are,
      c.prepend_widest.ensures.text,
      c.of.ensures.re ∙ ap (λ boxes. fold max 0 (map (λ b. width b.re) boxes)) over.values_are,
      c.of.ensures.im ∙ ap (λ boxes. fold max 0 (map (λ b. width b.im) boxes)) over.values_are,
      c.prepend_word.ensures,
      c.new-text.ensures,
    )
    (in_order (decimal c.args.seed) (decimal (length points)) (decimal g.row.P) (decimal cap) (decimal (count_by (λ p. is_source p.kind) points)) (decimal (length (targets points)))
    (decimal (length these.cells)) (decimal (count_by (λ c. not (is_over points cap c) || (c.level == c.grid)) these.cells))
    (decimal (entry_count these U)) (decimal (entry_count these V)) (decimal (entry_count these W)) (decimal (entry_count these X)) (work_line (translations points these) (pairs points these))
    (decimal (fold max 0 (map (λ b. width b.re) (target_boxes points cap g.row.P these)))) (decimal (fold max 0 (map (λ b. width b.im) (target_boxes points cap g.row.P these)))))

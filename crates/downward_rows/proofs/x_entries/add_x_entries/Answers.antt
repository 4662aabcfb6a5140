use Rattle.std.proofs.Common.{ℕ, ◌≡◌, ◌+◌, ◌*◌, ◌^◌, List, length, get_or, take, ap, ◌∙◌, subst, sym, arith}
use Rattle.std.specs.Prelude.{All}
use Rattle.std.proofs.Math.Seq.{take-length}
use Rattle.exact_math.specs.Ends.{add_box}
use Rattle.cell_name.specs.Cell.{square}
use Rattle.cell_lists.proofs.TreeNumbers.{read_at}
use Rattle.cell_lists.specs.ListAt.{list_at}
use Rattle.soundness.proofs.RowTotals.{wider}
use Rattle.letters.specs.declared.Letter.TheVariants.{X}
use Rattle.quadtree.specs.TreeModel.{size, square_of, node_of}
use Rattle.row_recursions.specs.Rows.{row_of}
use Rattle.soundness.specs.Computed.{total_row}
use Rattle.field_basis.specs.Basis.{IsBasis}
use Rattle.downward_rows.specs.Entries.{IsFarCell, x_entry}
use Rattle.downward_rows.proofs.EntryPlaces.{far_entries}
use Rattle.downward_rows.proofs.Lists.{listed, number_in}
use Rattle.downward_rows.proofs.Totals.{none_added, one_added}
use Rattle.downward_rows.proofs.XEntries.{positions_far, few_positions, positions_read}
use Rattle.downward_rows.proofs.x_entries.add_x_entries.Goals as goal

pub x_list-c-items-requires : goal.x_list-c-items-requires
x_list-c-items-requires g c =
    let b = c.args.basis.now in
    let s : IsBasis g.row.P b = subst (IsBasis g.row.P) c.basis.view_is c.basis.invariant in
    let h = listed g.row.P b s X c.args.n c.requires.cell in
    omega (arith, h, ap (λ b. length b.lists.x) c.basis.view_is)

pub loop-c-init : goal.loop-c-init
loop-c-init g c = record {
  len = c.requires.len;
  adds = none_added g.row.P (x_entry c.args.basis.now c.args.n) c.x_list-c-items.result.now (row_of c.args.into.now);
  size = wider g.row.P (2 ^ 91) (2 ^ 91 + 2 ^ 84 * 0) (row_of c.args.into.now) (omega arith) c.requires.sum;
}

pub members-requires : goal.members-requires
members-requires g c =
    let b = c.args.basis.now in
    let s : IsBasis g.row.P b = subst (IsBasis g.row.P) c.basis.view_is c.basis.invariant in
    let same = c.x_list-c-items.ensures ∙ ap (λ b. list_at b.lists.x c.args.n) c.basis.view_is in
    let h = number_in g.row.P b s X c.args.n c.requires.cell c.x_list-c-items.result.now same c.loop-c.c-index 0 c.loop-c-test.true in
    omega (arith, h, ap (λ b. size b.tree) c.basis.view_is)

pub add_positions-requires-clause-far : goal.add_positions-requires-clause-far
add_positions-requires-clause-far g c =
    let b = c.args.basis.now in
    let s : IsBasis g.row.P b = subst (IsBasis g.row.P) c.basis.view_is c.basis.invariant in
    let same = c.x_list-c-items.ensures ∙ ap (λ b. list_at b.lists.x c.args.n) c.basis.view_is in
    let entries = far_entries g.row.P b s c.args.n c.requires.cell in
    let k = get_or c.x_list-c-items.result.now c.loop-c.c-index 0 in
    let Q : List ℕ → Type 0 = λ l. All (IsFarCell b.tree b.points (square_of b.tree c.args.n)) l in
    let far : IsFarCell b.tree b.points (square_of b.tree c.args.n) k = subst Q (sym same) entries.far c.loop-c.c-index 0 c.loop-c-test.true in
    let points = c.deref.ensures.value ∙ ap (λ b. b.points) c.basis.view_is in
    let cell = read_at b.tree c.cells.result.now c.args.n c.index-cells-n.result (c.cells.ensures.all ∙ ap (λ b. b.tree.cells) c.basis.view_is) c.requires.cell c.index-cells-n.is in
    let members = c.members.ensures ∙ ap (λ b. (node_of b.tree k).members) c.basis.view_is in
    positions_far g.row.P b s c.args.n c.requires.cell k far c.deref.result.now points (square c.index-cells-n.result) cell c.members.result.now members

pub add_positions-requires-clause-length : goal.add_positions-requires-clause-length
add_positions-requires-clause-length g c =
    let b = c.args.basis.now in
    let s : IsBasis g.row.P b = subst (IsBasis g.row.P) c.basis.view_is c.basis.invariant in
    let same = c.x_list-c-items.ensures ∙ ap (λ b. list_at b.lists.x c.args.n) c.basis.view_is in
    let entries = far_entries g.row.P b s c.args.n c.requires.cell in
    let k = get_or c.x_list-c-items.result.now c.loop-c.c-index 0 in
    let Q : List ℕ → Type 0 = λ l. All (IsFarCell b.tree b.points (square_of b.tree c.args.n)) l in
    let far : IsFarCell b.tree b.points (square_of b.tree c.args.n) k = subst Q (sym same) entries.far c.loop-c.c-index 0 c.loop-c-test.true in
    let points = c.deref.ensures.value ∙ ap (λ b. b.points) c.basis.view_is in
    let cell = read_at b.tree c.cells.result.now c.args.n c.index-cells-n.result (c.cells.ensures.all ∙ ap (λ b. b.tree.cells) c.basis.view_is) c.requires.cell c.index-cells-n.is in
    let members = c.members.ensures ∙ ap (λ b. (node_of b.tree k).members) c.basis.view_is in
    few_positions g.row.P b s c.args.n c.requires.cell k far c.deref.result.now points (square c.index-cells-n.result) cell c.members.result.now members

pub add_positions-requires-clause-sum : goal.add_positions-requires-clause-sum
add_positions-requires-clause-sum g c =
    let b = c.args.basis.now in
    let s : IsBasis g.row.P b = subst (IsBasis g.row.P) c.basis.view_is c.basis.invariant in
    let same = c.x_list-c-items.ensures ∙ ap (λ b. list_at b.lists.x c.args.n) c.basis.view_is in
    let entries = far_entries g.row.P b s c.args.n c.requires.cell in
    wider g.row.P (2 ^ 91 + 2 ^ 84 * c.loop-c.c-index) (2 ^ 109) (row_of c.loop-c.into) (omega (arith, entries.few, ap (λ l. length l) same, c.loop-c-test.true)) c.loop-c.invariant.size

pub loop-c-preserved : goal.loop-c-preserved
loop-c-preserved g c =
    let b = c.args.basis.now in
    let s : IsBasis g.row.P b = subst (IsBasis g.row.P) c.basis.view_is c.basis.invariant in
    let same = c.x_list-c-items.ensures ∙ ap (λ b. list_at b.lists.x c.args.n) c.basis.view_is in
    let entries = far_entries g.row.P b s c.args.n c.requires.cell in
    let k = get_or c.x_list-c-items.result.now c.loop-c.c-index 0 in
    let Q : List ℕ → Type 0 = λ l. All (IsFarCell b.tree b.points (square_of b.tree c.args.n)) l in
    let far : IsFarCell b.tree b.points (square_of b.tree c.args.n) k = subst Q (sym same) entries.far c.loop-c.c-index 0 c.loop-c-test.true in
    let points = c.deref.ensures.value ∙ ap (λ b. b.points) c.basis.view_is in
    let cell = read_at b.tree c.cells.result.now c.args.n c.index-cells-n.result (c.cells.ensures.all ∙ ap (λ b. b.tree.cells) c.basis.view_is) c.requires.cell c.index-cells-n.is in
    let members = c.members.ensures ∙ ap (λ b. (node_of b.tree k).members) c.basis.view_is in
    record {
      len = c.add_positions.ensures.len;
      adds = one_added g.row.P (x_entry b c.args.n) c.x_list-c-items.result.now c.loop-c.c-index 0 (row_of c.args.into.now) (row_of c.loop-c.into) (row_of c.add_positions.new.into) c.loop-c-test.true c.loop-c.invariant.adds
          (λ j h. c.add_positions.ensures.adds j h ∙ ap (add_box (row_of c.loop-c.into j)) (positions_read g.row.P b s c.args.n c.requires.cell k far c.deref.result.now points (square c.index-cells-n.result) cell c.members.result.now members j));
      size = wider g.row.P (2 ^ 91 + 2 ^ 84 * c.loop-c.c-index + 2 ^ 84) (2 ^ 91 + 2 ^ 84 * (c.loop-c.c-index + 1)) (row_of c.add_positions.new.into) (omega arith)
          (c.add_positions.ensures.size (2 ^ 91 + 2 ^ 84 * c.loop-c.c-index) c.loop-c.invariant.size);
    }

pub returns-clause-adds : goal.returns-clause-adds
returns-clause-adds g c = λ k h.
    let b = c.args.basis.now in
    let same = c.x_list-c-items.ensures ∙ ap (λ b. list_at b.lists.x c.args.n) c.basis.view_is in
    let last : c.loop-c.c-index ≡ length c.x_list-c-items.result.now = omega arith in
    c.loop-c.invariant.adds k h
    ∙ ap (λ l. add_box (row_of c.args.into.now k) (total_row (x_entry b c.args.n) l k)) (ap (λ m. take m c.x_list-c-items.result.now) last ∙ take-length c.x_list-c-items.result.now ∙ same)

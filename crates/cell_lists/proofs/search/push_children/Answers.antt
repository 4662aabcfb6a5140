-- The cell at the place touches, and its quarters are appended, or it doesn't.
use Rattle.std.proofs.Common.{◌≡◌, ◌<◌, ◌++◌, ◌+◌, ℕ, List, length, sym, ap, ◌∙◌, subst, arith}
use Rattle.std.specs.Prelude.{Contains, slice_index}
use Rattle.std.proofs.lemmas.Bool.{false≢true}
use Rattle.std.proofs.lemmas.List.{get_or_default}
use Rattle.cell_name.specs.Cell.{square}
use Rattle.quadtree.specs.TreeModel.{square_of}
use Rattle.cell_lists.specs.Walks.{AreNumbers, IsChild, AddsChildren}
use Rattle.cell_lists.proofs.TreeNumbers.{read_at, below_length}
use Rattle.cell_lists.proofs.CellNumbers.{touch_from_test}
use Rattle.cell_lists.proofs.WalkSteps.{adds_none, adds_kept, read_in_tree, adds_row, read_before, no_shorter, children_numbers, children_whole}
use Rattle.cell_lists.proofs.search.push_children.Goals as goal
use Rattle.cell_lists.proofs.search.push_children.Goals.{then-touches+in_ok-extend_from_slice, else-touches}

pub loop-at-init : goal.loop-at-init
loop-at-init c = adds_none c.args.tree.now c.args.b c.args.start c.args.found.now.items c.requires.numbers

pub bounds-cells-c : goal.bounds-cells-c
bounds-cells-c c =
    let lt : c.loop-at.at < length c.args.found.now.items = omega arith in
    let in_tree = read_in_tree c.args.tree.now c.args.b c.args.start c.loop-at.at c.args.found.now.items c.loop-at.found.items c.index.result.now lt c.loop-at.invariant c.index.ensures in
    below_length c.args.tree.now c.cells-cells.result.now c.index.result.now c.cells-cells.ensures.all in_tree

pub bounds-cells-b : goal.bounds-cells-b
bounds-cells-b c = below_length c.args.tree.now c.cells-cells.result.now c.args.b c.cells-cells.ensures.all c.requires.cell

pub children-requires : goal.children-requires
children-requires c =
    let lt : c.loop-at.at < length c.args.found.now.items = omega arith in
    read_in_tree c.args.tree.now c.args.b c.args.start c.loop-at.at c.args.found.now.items c.loop-at.found.items c.index.result.now lt c.loop-at.invariant c.index.ensures

pub loop-at-preserved : goal.loop-at-preserved
loop-at-preserved c =
    let tree = c.args.tree.now in
    let b : ℕ = c.args.b in
    let at : ℕ = c.loop-at.at in
    let n : ℕ = c.index.result.now in
    let was : List ℕ = c.args.found.now.items in
    let now : List ℕ = c.loop-at.found.items in
    let lt : at < length was = omega arith in
    let longer = no_shorter tree b c.args.start at was now c.loop-at.invariant in
    let inside : at < length now = omega (arith, longer) in
    let here : n ≡ slice_index now at = c.index.ensures ∙ get_or_default now at n 0 inside in
    let before : n ≡ slice_index was at = here ∙ read_before tree b c.args.start at was now lt c.loop-at.invariant in
    let in_tree = read_in_tree tree b c.args.start at was now n lt c.loop-at.invariant c.index.ensures in
    elim c.if-touches.branch [
      | then-touches+in_ok-extend_from_slice w ↦
          let P : List ℕ → Type 0 = λ l. AreNumbers tree l in
          let Q : List ℕ → Type 0 = λ l. (k : ℕ) → IsChild tree n k → Contains l k in
          let R : ℕ → Type 0 = λ m. (k : ℕ) → IsChild tree m k → Contains w.children.result.now k in
          let items : c.if-touches.found.items ≡ now ++ w.children.result.now = ap (λ v. v.items) w.found-is ∙ w.in_ok-extend_from_slice.ensures.items in
          adds_row tree b c.args.start at was now c.if-touches.found.items w.children.result.now (subst P (sym w.children.ensures) (children_numbers tree c.cells-cells.ensures.tree n in_tree)) (subst R before (subst Q (sym w.children.ensures) (λ k child. children_whole tree c.cells-cells.ensures.tree n k in_tree child))) items c.loop-at.invariant
      | else-touches w ↦
          let ex : square c.index-cells-c.result ≡ square_of tree (slice_index was at) = read_at tree c.cells-cells.result.now n c.index-cells-c.result c.cells-cells.ensures.all in_tree c.index-cells-c.is ∙ ap (square_of tree) before in
          let ey : square c.index-cells-b.result ≡ square_of tree b = read_at tree c.cells-cells.result.now b c.index-cells-b.result c.cells-cells.ensures.all c.requires.cell c.index-cells-b.is in
          let kept = adds_kept tree b c.args.start at was now lt (λ t. false≢true (sym w.if-touches.false ∙ touch_from_test tree (square c.index-cells-c.result) (square c.index-cells-b.result) (slice_index was at) b c.touches.result ex ey c.touches.ensures t)) c.loop-at.invariant in
          let V : List ℕ → Type 0 = λ l. AddsChildren tree b c.args.start (at + 1) was l in
          subst V (sym (ap (λ v. v.items) w.found-is)) kept
    ]

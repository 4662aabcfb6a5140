-- A cell that touches is kept.
use Rattle.std.proofs.Common.{◌≡◌, ◌++◌, [], ◌∷◌, ◌<◌, ℕ, List, sym, ap, ◌∙◌, arith, append-nil}
use Rattle.std.specs.Prelude.{slice_index}
use Rattle.std.proofs.lemmas.Bool.{false≢true}
use Rattle.std.proofs.lemmas.List.Elements.{Contains-push}
use Rattle.cell_name.specs.Cell.{square}
use Rattle.quadtree.specs.TreeModel.{size, square_of}
use Rattle.cell_lists.proofs.TreeNumbers.{read_at}
use Rattle.cell_lists.proofs.CellNumbers.{touch_from_test}
use Rattle.cell_lists.proofs.WalkSteps.{keeps_more, keeps_all, one_number}
use Rattle.cell_lists.proofs.search.find_touching.Goals as goal
use Rattle.cell_lists.proofs.search.find_touching.Goals.{then-touches+in_ok-push, else-touches}

pub loop-c-preserved : goal.loop-c-preserved
loop-c-preserved c =
    let tree = c.args.tree.now in
    let b : ℕ = c.args.b in
    let found : List ℕ = c.args.found.now in
    let count : ℕ = c.loop-c.c-index in
    let n : ℕ = slice_index found count in
    let lt : n < size tree = c.requires.numbers count 0 (omega arith) in
    elim c.if-touches.branch [
      | then-touches+in_ok-push w ↦
          let grown : c.if-touches.touching.items ≡ c.loop-c.touching.items ++ n ∷ [] = ap (λ v. v.items) w.touching-is ∙ w.in_ok-push.ensures.items in
          keeps_more tree b found count c.loop-c.touching.items c.if-touches.touching.items (n ∷ []) c.loop-c.invariant grown (one_number tree n lt) (λ _. Contains-push [] n)
      | else-touches w ↦
          let grown : c.if-touches.touching.items ≡ c.loop-c.touching.items ++ [] = ap (λ v. v.items) w.touching-is ∙ sym (append-nil c.loop-c.touching.items) in
          let ex : square c.index-cells-c.result ≡ square_of tree n = read_at tree c.cells-cells.result.now n c.index-cells-c.result c.cells-cells.ensures.all lt c.index-cells-c.is in
          let ey : square c.index-cells-b.result ≡ square_of tree b = read_at tree c.cells-cells.result.now b c.index-cells-b.result c.cells-cells.ensures.all c.requires.cell c.index-cells-b.is in
          keeps_more tree b found count c.loop-c.touching.items c.if-touches.touching.items [] c.loop-c.invariant grown (λ k d inside. absurd (omega arith))
          (λ t. absurd (false≢true (sym w.if-touches.false ∙ touch_from_test tree (square c.index-cells-c.result) (square c.index-cells-b.result) n b c.touches.result ex ey c.touches.ensures t)))
    ]

pub returns-clause-whole : goal.returns-clause-whole
returns-clause-whole c n listed t = keeps_all c.args.tree.now c.args.b c.args.found.now c.loop-c.c-index c.loop-c.touching.items (omega arith) c.loop-c.invariant n listed t

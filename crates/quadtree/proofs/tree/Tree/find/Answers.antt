-- A tree's cells ascend, so the search finds the cell where it is among them.
use Rattle.std.proofs.Common.{◌≡◌, List, map}
use Rattle.std.specs.List.Sorted.{IsBinarySearchResult}
use Rattle.std.proofs.lemmas.List.Elements.{All-weaker}
use Rattle.cell_name.specs.declared.cell.Cell.{Cell}
use Rattle.cell_name.specs.Cell.{square}
use Rattle.cell_name.specs.Square.{Square}
use Rattle.quadtree.specs.Tree.{IsTreeCell}
use Rattle.quadtree.proofs.Searches.{HaveGrid, cell_cmp, found}
use Rattle.quadtree.proofs.tree.Tree.find.Goals as goal

pub returns : goal.returns
returns c =
    let cells : List Cell = c.self.inside.cells.items in
    let is = c.self.invariant.is_tree.is_tree in
    let of_grid : HaveGrid c.self.inside.grid (map square cells) = All-weaker (IsTreeCell c.self.inside.grid c.self.invariant.is_tree.points c.self.invariant.is_tree.cap) (λ (s : Square). s.grid ≡ c.self.inside.grid) (λ s k. k.of_grid) (map square cells) is.cells_are.each in
    let e : c.deref.result.now ≡ cells = c.deref.ensures.value in
    let p : IsBinarySearchResult (λ y. cell_cmp y c.args.c) c.deref.result.now c.binary_search.result = c.binary_search.ensures.position in
    let b = c.binary_search.ensures.bound in
    rw (← c.self.view_is) (found c.self.inside.grid cells c.args.c of_grid is.cells_are.ascending c.binary_search.result c.ok.result c.ok.ensures.value (rw e at b) (rw e at p))

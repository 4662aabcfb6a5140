-- The points of a tree lie in the grid, since each lies in a leaf of it.
use Rattle.std.proofs.Common.{ℕ, ◌<◌, List, get_or, ℤ, sym, subst, arith}
use borrow.Author.Differences.{ints}
use Rattle.std.proofs.lemmas.Option.{slice_get-get_or}
use Rattle.cell_name.specs.Square.{Square, IsInGrid, Holds}
use Rattle.cell_name.proofs.Cells.{IsCellName, IsInsideGrid, inside_from_name, square_at-name}
use Rattle.limits.proofs.Grids.{grid_positive}
use Rattle.quadtree.proofs.TreeChildren.{tree_cell_at}
use Rattle.points.specs.declared.Point.{Point}
use Rattle.quadtree.specs.Tree.{AreInGrid}
use Rattle.quadtree.specs.TreeModel.{TreeModel, square_of, leaf_of, IsTree, IsTreeOf}
use Rattle.quadtree.proofs.Parents.{cell_of_point}

in_cell : (c : Square) (x y : ℤ) → IsInsideGrid c → Holds c x y → IsInGrid c.grid x y
in_cell c x y inside held = record {
  west = omega (arith, ints, inside.west, held.west);
  east = omega (arith, ints, inside.east, held.east);
  south = omega (arith, ints, inside.south, held.south);
  north = omega (arith, ints, inside.north, held.north);
}

pub points_in_grid : (tree : TreeModel) (points : List Point) (cap : ℕ) → IsTree tree → IsTreeOf tree points cap → AreInGrid tree.grid points
points_in_grid tree points cap is h = λ k d lt.
    let p : Point = get_or points k d in
    let c : Square = square_of tree (leaf_of tree k) in
    let leaf = h.leaves_are k p (slice_get-get_or points k d lt) in
    let here = tree_cell_at tree is.points is.cap (leaf_of tree k) is.is_tree leaf.in_range in
    let some = grid_positive tree.grid h.known_grid in
    let o = cell_of_point tree.grid is.points c here.of_grid is.in_grid here.occupied in
    let name : IsCellName c = subst IsCellName (sym o.is_cell) (square_at-name tree.grid c.level o.point.x o.point.y some here.level_in_grid o.given.in_grid) in
    let positive : 0 < c.grid = subst (λ n. 0 < n) (sym here.of_grid) some in
    subst (λ n. IsInGrid n p.x p.y) here.of_grid (in_cell c p.x p.y (inside_from_name c positive name) leaf.held)

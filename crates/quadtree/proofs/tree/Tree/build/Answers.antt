-- A list within the limits lies in the grid of its version, and its tree has all of the cells.
use Rattle.std.proofs.Common.{ℕ, ◌≡◌, List, sym, ◌∙◌, subst}
use Rattle.limits.specs.Limits.{IsGrid, grid_of, most_cells}
use Rattle.limits.proofs.Grids.{version_has_grid}
use Rattle.points.specs.declared.Point.{Point}
use Rattle.quadtree.specs.Faults.{NoneIsCrowded, HasTree, HasMoreCells}
use Rattle.quadtree.specs.Tree.{AreInGrid}
use Rattle.quadtree.specs.TreeModel.{TreeModel, IsTreeOf}
use Rattle.quadtree.proofs.Limits.{in_grid}
use Rattle.quadtree.proofs.Whole.{no_more_cells}
use Rattle.quadtree.proofs.tree.Tree.build.Goals as goal

pub accepted-requires-clause-known_grid : goal.accepted-requires-clause-known_grid
accepted-requires-clause-known_grid c = subst IsGrid (sym c.grid_of-grid.ensures) (version_has_grid c.args.points.now.version)

pub accepted-requires-clause-in_grid : goal.accepted-requires-clause-in_grid
accepted-requires-clause-in_grid c =
    let grid : ℕ = grid_of c.args.points.now.version in
    let P : List Point → Type 0 = λ l. AreInGrid c.grid_of-grid.result l in
    let G : ℕ → Type 0 = λ g. AreInGrid g c.args.points.now.list in
    subst P (sym c.points-list.ensures) (subst G (sym c.grid_of-grid.ensures) (in_grid grid c.args.points.now.list c.requires.list.within.range))

-- a tree has all cells of the tree, so its list has a tree
has_tree : (grid : ℕ) (points : List Point) (cap : ℕ) (tree : TreeModel) → tree.grid ≡ grid → NoneIsCrowded grid points → IsTreeOf tree points cap → HasTree grid points cap
has_tree grid points cap tree of_grid none is =
    let H : ℕ → Type 0 = λ g. HasMoreCells g points cap (most_cells g) → ⊥ in
    record { none_crowded = none; no_more = subst H of_grid (no_more_cells tree points cap is) }

pub returns-clause-has_tree : goal.returns-clause-has_tree
returns-clause-has_tree c =
    let tree : TreeModel = c.in_ok-assembled.field-0 in
    let P : List Point → Type 0 = λ l. IsTreeOf tree l c.args.cap in
    let N : List Point → Type 0 = λ l. NoneIsCrowded c.grid_of-grid.result l in
    let G : ℕ → Type 0 = λ g. NoneIsCrowded g c.args.points.now.list in
    has_tree (grid_of c.args.points.now.version) c.args.points.now.list c.args.cap tree (c.in_ok-assembled.ensures.grid ∙ c.grid_of-grid.ensures)
    (subst G c.grid_of-grid.ensures (subst N c.points-list.ensures c.in_ok-splits.ensures.none_crowded))
    (subst P c.points-list.ensures c.in_ok-assembled.ensures.tree)

-- A parent has the targets of its children.
use Rattle.std.proofs.Common.{ℕ, ◌<◌, List, sym, subst}
use Rattle.std.specs.Prelude.{IsTrue}
use Rattle.cell_name.specs.Square.{Square}
use Rattle.cell_lists.proofs.CellNumbers.{level_positive, parent_before, level_in_grid}
use Rattle.points.specs.declared.Point.{Point}
use Rattle.quadtree.specs.TreeModel.{TreeModel, size, square_of, node_of, IsTree}
use Rattle.quadtree.specs.Tree.{has_target}
use Rattle.quadtree.proofs.Occupants.{has_target-parent}

pub target_of_parent : (tree : TreeModel) → IsTree tree → (points : List Point) (n : ℕ) → 0 < n → n < size tree → IsTrue (has_target points (square_of tree n)) → IsTrue (has_target points (square_of tree (node_of tree n).parent))
target_of_parent tree some points n lo lt t =
    let Q : Square → Type 0 = λ c. IsTrue (has_target points c) in
    subst Q (sym (parent_before tree some n lo lt).is_parent) (has_target-parent points (square_of tree n) (level_positive tree some n lo lt) (level_in_grid tree some n lt) t)

-- A place of a leaf is far from the cells of the leaf's W entries.
use Rattle.std.proofs.Common.{◌≡◌, ◌∙◌, ◌*◌, ◌<◌, sym, arith, ℕ, ℤ, List, length, get_or}
use Rattle.exact_math.specs.Gaussian.{gaussian}
use Rattle.exact_math.specs.Within.{GaussianBeyond}
use Rattle.cell_name.specs.Square.{Square, side, Holds}
use Rattle.cell_name.proofs.Cells.{Touches-sym}
use Rattle.cell_lists.specs.ListAt.{list_at}
use Rattle.field_basis.specs.Basis.{BasisModel, IsBasis}
use Rattle.letters.specs.declared.Letter.TheVariants.{W}
use Rattle.quadtree.specs.TreeModel.{size, square_of}
use Rattle.row_recursions.proofs.Geometry.{far_places}
use Rattle.soundness.specs.Squares.{offset}
use Rattle.target_values.proofs.Numbers.{entry_at}

pub far_from : (P : ℕ) (b : BasisModel) → IsBasis P b → (n : ℕ) → n < size b.tree → (items : List ℕ) → items ≡ list_at b.lists.w n → (i : ℕ) → i < length items → (x y : ℤ) → Holds (square_of b.tree n) x y
    → GaussianBeyond (3 * side (square_of b.tree (get_or items i 0))) (offset (square_of b.tree (get_or items i 0)) (gaussian x y))
far_from P b is n lt items are i l x y held =
    let e = entry_at P b is W n lt items are i l in
    let first = e.pair.0.in_tree in
    let second = e.pair.1 in
    let a = e.pair.2 in
    let from : Square = square_of b.tree n in
    let to : Square = square_of b.tree (get_or items i 0) in
    far_places from to x y (first.of_grid ∙ sym second.of_grid) (omega (arith, a.deeper)) (omega (arith, second.level_in_grid, second.of_grid)) (λ w. a.apart (Touches-sym from to w)) held

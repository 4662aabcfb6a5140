-- What the entry of a cell can lose, as it is computed.
use Rattle.std.proofs.Common.{ℕ, ◌≡◌, ◌+◌, ◌^◌, ◌<◌, ◌≤◌, ℤ, pos, ◌+ℤ◌, unsigned_abs, to_z, of_z, get_or, sym, ap, ap₂, ◌∙◌, subst, arith}
use Rattle.std.specs.Int.{w128}
use Rattle.std.proofs.lemmas.Int.{ints}
use Rattle.truncation.specs.Tails.{single_loss}
use Rattle.cell_name.specs.Square.{Square, side}
use Rattle.field_basis.specs.Basis.{BasisModel, IsBasis}
use Rattle.field_basis.specs.Weights.{IsWeight}
use Rattle.quadtree.specs.TreeModel.{size, square_of}
use Rattle.target_values.specs.Values.{loss_of_cell}

-- the sum of two radii, as it is computed
pub lost_is : (radius r : ℤ) (m n : ℕ) → radius ≡ pos m → r ≡ pos n → m ≤ 2 ^ 90 → n ≤ 2 ^ 90 → to_z w128 (of_z w128 (to_z w128 (of_z w128 radius) +ℤ to_z w128 (of_z w128 r))) ≡ pos (m + n)
lost_is radius r m n d e small few =
    let a : to_z w128 (of_z w128 radius) ≡ pos m = omega (arith, ints, d, small) in
    let b : to_z w128 (of_z w128 r) ≡ pos n = omega (arith, ints, e, few) in
    omega (arith, ints, a, b, small, few)

-- what the entry of a cell can lose, from its weight and its side as they are read
module _ (P : ℕ) (b : BasisModel) (is : IsBasis P b) (n : ℕ) (lt : n < size b.tree) (w : ℤ) (here : w ≡ get_or b.weights n (pos 0)) where
  pub weight_small : IsWeight w
  weight_small = subst IsWeight (sym here) (is.weights_small n (pos 0) (omega (arith, is.weight_each, lt)))

  pub loss_is : (s : ℤ) (q : Square) → s ≡ pos (side q) → q ≡ square_of b.tree n → single_loss P (unsigned_abs w) (unsigned_abs s) ≡ loss_of_cell P b n
  loss_is s q e same = ap₂ (λ w s. single_loss P (unsigned_abs w) (unsigned_abs s)) (here ∙ is.weights_are.each n lt) (e ∙ ap (λ (q : Square). pos (side q)) same)

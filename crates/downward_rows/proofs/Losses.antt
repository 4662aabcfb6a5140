-- What entries can lose, one more at a time.
use Rattle.std.specs.Int.{div_ceil}
use Rattle.std.proofs.Common.{ℕ, ◌+◌, ◌*◌, ◌^◌, ◌<◌, ◌≤◌, ◌≡◌, List, length, get_or, take, ap, ap₂, ◌∙◌, arith, ℤ, pos, SFits, w64, to_z, of_z}
use Rattle.std.specs.Prelude.{sum_by, unsigned_abs, ◌≤ℤ◌, slice_index_or}
use Rattle.std.proofs.Math.Seq.{take-length}
use Rattle.std.proofs.lemmas.Int.{ints, to_z-of_z}
use Rattle.std.proofs.lemmas.List.{get_or_default}
use Rattle.std.proofs.lemmas.List.Sums.{sum_by_more, sum_by_more_le}
use Rattle.cell_name.specs.Cell.{square}
use Rattle.cell_name.specs.Square.{Square, side}
use Rattle.cell_name.specs.declared.cell.Cell.{Cell}
use Rattle.limits.specs.Limits.{most_weight, widest_grid}
use Rattle.quadtree.specs.TreeModel.{size, square_of}
use Rattle.tree_field.specs.Field.{weight_in}
use Rattle.field_basis.specs.Basis.{BasisModel, IsBasis}
use Rattle.field_basis.specs.Weights.{IsWeight}
use mir.Syntax.{w128}

-- the weight of a cell c, as it is read, and what an entry of it can lose at a side s with such a tail
module _ (P : ℕ) (b : BasisModel) (is : IsBasis P b) (c : ℕ) (lt : c < size b.tree) where
  abbrev here : ℕ
  here = weight_in b.points P (square_of b.tree c)

  inside : c < length b.weights
  inside = omega (arith, lt, is.weight_each)

  weight_read : (w : ℤ) → w ≡ get_or b.weights c w → w ≡ pos here
  weight_read w e = e ∙ get_or_default b.weights c w (pos 0) inside ∙ is.weights_are.each c lt

  weight_small : here ≤ most_weight widest_grid
  weight_small =
      let e = is.weights_are.each c lt in
      let h : IsWeight (slice_index_or b.weights c (pos 0)) = is.weights_small c (pos 0) inside in
      let u = h.most in
      omega (arith, ints, e, u)

  pub weight_least : (w : ℤ) → w ≡ get_or b.weights c w → pos 0 ≤ℤ to_z w128 (of_z w128 w)
  weight_least w e =
      let v = weight_read w e in
      let u = weight_small in
      let f : SFits w128 w = omega (arith, ints, v, u) in
      let r = to_z-of_z w128 w f in
      omega (arith, ints, v, r)

  pub loss_read : (tail s : ℕ) (w z : ℤ) → w ≡ get_or b.weights c w → z ≡ pos s → pos 1 ≤ℤ z → z ≤ℤ pos (2 ^ widest_grid)
      → div_ceil (unsigned_abs (to_z w128 (of_z w128 w)) * tail) (unsigned_abs (to_z w64 (of_z w64 z))) ≡ div_ceil (here * tail) s
  loss_read tail s w z e d low high =
      let v = weight_read w e in
      let u = weight_small in
      let f : SFits w128 w = omega (arith, ints, v, u) in
      let g : SFits w64 z = omega (arith, ints) in
      ap₂ (λ x y. div_ceil (unsigned_abs x * tail) (unsigned_abs y)) (to_z-of_z w128 w f ∙ v) (to_z-of_z w64 z g ∙ d)

-- there is room for one entry more, since all entries together lose little
pub room_for : (f : ℕ → ℕ) (xs ys : List ℕ) (i d old was x : ℕ) → i < length xs → xs ≡ ys → was ≡ old + sum_by f (take i xs) → x ≡ f (get_or xs i d) → sum_by f ys ≤ 2 ^ 77 → old ≤ 2 ^ 92 → was + x < 2 ^ 100
room_for f xs ys i d old was x lt s a e all room = let m = sum_by_more_le f xs i d lt in omega (arith, m, ap (sum_by f) s)

pub one_loss : (f : ℕ → ℕ) (xs : List ℕ) (i d old was new x : ℕ) → i < length xs → was ≡ old + sum_by f (take i xs) → new ≡ was + x → x ≡ f (get_or xs i d) → new ≡ old + sum_by f (take (i + 1) xs)
one_loss f xs i d old was new x lt a b e = let m = sum_by_more f xs i d lt in omega (arith, m)

pub all_losses : (f : ℕ → ℕ) (xs ys : List ℕ) (n old new : ℕ) → n ≡ length xs → xs ≡ ys → new ≡ old + sum_by f (take n xs) → new ≡ old + sum_by f ys
all_losses f xs ys n old new e s h = h ∙ ap (λ l. old + sum_by f l) (ap (λ m. take m xs) e ∙ take-length xs ∙ s)

-- the side of a cell, as it is read
pub side_is : (z : ℤ) (cell : Cell) (c : Square) → z ≡ pos (side (square cell)) → square cell ≡ c → z ≡ pos (side c)
side_is z cell c e s = e ∙ ap (λ q. pos (side q)) s

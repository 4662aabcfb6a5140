-- The steps of a local row's value: of a row m of P boxes that are at most 2^90 in size, at a place in a cell of side 2^bits.
use Rattle.std.proofs.Common.{◌≡◌, sym, ap, ap₂, ◌∙◌, subst, ℕ, suc, ◌+◌, ◌-◌, ◌*◌, ◌^◌, ◌≤◌, ◌<◌, arith, pos}
use Rattle.std.proofs.Math.Pow.{pow_mono}
use Rattle.exact_math.specs.Ends.{BoxEnds, BoxEndsWithin, add_box, gscale_box, quot_box, gquot_box}
use Rattle.exact_math.specs.Gaussian.{Gaussian}
use Rattle.exact_math.specs.Orders.{IsOrder}
use Rattle.exact_math.proofs.WholeSizes.{within-weaker}
use Rattle.exact_math.proofs.Orders.{order_bounds}
use Rattle.complex_box.specs.Box.{GscaleFits}
use Rattle.complex_box.proofs.Sizes.{box_wider, add_box_within, gscale_fits}
use Rattle.exact_math.specs.Within.{GaussianWithin}
use Rattle.limits.specs.Limits.{widest_grid}
use Rattle.row_recursions.specs.Rows.{local_round}
use Rattle.row_recursions.specs.Sizes.{RowWithin}
use Rattle.row_recursions.proofs.Equations.{local_round-next}
use Rattle.row_recursions.proofs.RowSizes.{box_gquot_within, local_round_within, power_positive}

pub doubled : (bits : ℕ) → 2 ^ (bits + 1) ≡ 2 * 2 ^ bits
doubled bits = let e : 2 ^ (bits + 1) ≡ 2 ^ suc bits = ap (λ n. 2 ^ n) {x = bits + 1} {y = suc bits} (omega arith) in let f : 2 ^ suc bits ≡ 2 * 2 ^ bits = omega arith in e ∙ f

module _ (P bits : ℕ) (m : ℕ → BoxEnds) (o : Gaussian) (order : IsOrder P) (small : bits ≤ widest_grid) (near : GaussianWithin (2 ^ bits) o) (bounded : RowWithin P (2 ^ 90) m) where
  -- the value so far
  pub value_within : (n : ℕ) (v : BoxEnds) → n < P → v ≡ local_round P m (2 ^ bits) o n → BoxEndsWithin (2 ^ 95) v
  value_within n v h e =
      let few = order_bounds P order in
      subst (BoxEndsWithin (2 ^ 95)) (sym e)
      (box_wider (n * 2 ^ 90) (2 ^ 95) _ (omega arith) (local_round_within P (2 ^ 90) (2 ^ bits) o m (power_positive bits) near bounded n (omega arith)))

  -- its product with the offset
  pub product_fits : (n : ℕ) (v : BoxEnds) → n < P → v ≡ local_round P m (2 ^ bits) o n → GscaleFits v o
  product_fits n v h e =
      let l : 2 ^ bits ≤ 2 ^ widest_grid = pow_mono small in
      gscale_fits (2 ^ 95) (2 ^ widest_grid) v o (value_within n v h e) (within-weaker l near.re) (within-weaker l near.im) (omega arith)

  -- what it makes in sides
  step_is : (v w q : BoxEnds) → w ≡ gscale_box v o → q ≡ quot_box w (pos (2 ^ (bits + 1))) → q ≡ gquot_box v o (pos (2 * 2 ^ bits))
  step_is v w q i j = j ∙ ap₂ (λ b n. quot_box b (pos n)) i (doubled bits)

  pub sum_fits : (n : ℕ) (v w q r : BoxEnds) → n < P → v ≡ local_round P m (2 ^ bits) o n → w ≡ gscale_box v o → q ≡ quot_box w (pos (2 ^ (bits + 1))) → r ≡ m (P - 1 - n) → BoxEndsWithin (2 ^ 126) (add_box q r)
  sum_fits n v w q r h e i j f =
      let p = power_positive bits in
      box_wider (2 ^ 95 + 2 ^ 90) (2 ^ 126) (add_box q r) (omega arith)
      (add_box_within (2 ^ 95) (2 ^ 90) q r
      (subst (BoxEndsWithin (2 ^ 95)) (sym (step_is v w q i j)) (box_gquot_within (2 ^ 95) (2 ^ bits) (2 ^ bits) (2 * 2 ^ bits) v o (omega arith) (omega arith) near.re near.im (value_within n v h e)))
      (subst (BoxEndsWithin (2 ^ 90)) (sym f) (bounded (P - 1 - n) (omega arith))))

  -- one step
  pub value_next : (n : ℕ) (v w q r t : BoxEnds) → v ≡ local_round P m (2 ^ bits) o n → w ≡ gscale_box v o → q ≡ quot_box w (pos (2 ^ (bits + 1))) → r ≡ m (P - 1 - n) → t ≡ add_box q r
      → t ≡ local_round P m (2 ^ bits) o (n + 1)
  value_next n v w q r t e i j f k =
      k ∙ ap₂ add_box (step_is v w q i j ∙ ap (λ b. gquot_box b o (pos (2 * 2 ^ bits))) e) f ∙ sym (local_round-next P m (2 ^ bits) o n)

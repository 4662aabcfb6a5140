-- The zero box under the operations on boxes.
use Rattle.std.proofs.Common.{◌≡◌, refl, ap, ◌∙◌, arith, ℤ, pos, negsuc, ◌+ℤ◌, ◌*ℤ◌, ◌≤ℤ◌}
use Rattle.std.proofs.lemmas.Int.{ints}
use Rattle.exact_math.specs.Ends.{BoxEnds, add_ends, sub_ends, zero_box, add_box, scale_ends, scale_box, gscale_box, quot_box, gquot_box}
use Rattle.exact_math.specs.Gaussian.{Gaussian}
use Rattle.exact_math.specs.Rounding.{floor_div}

zero_times : (k : ℤ) → scale_ends (record { lo = (pos 0); hi = (pos 0) }) k ≡ (record { lo = (pos 0); hi = (pos 0) })
zero_times k = let e : pos 0 *ℤ k ≡ pos 0 = omega (arith, ints) in rw e refl

pub zero_scaled : (k : ℤ) → scale_box zero_box k ≡ zero_box
zero_scaled k = λ i. record { re = zero_times k i; im = zero_times k i }

pub zero_gscaled : (g : Gaussian) → gscale_box zero_box g ≡ zero_box
zero_gscaled g = λ i. record { re = sub_ends (zero_times g.re i) (zero_times g.im i); im = add_ends (zero_times g.im i) (zero_times g.re i) }

zero_floor : (d : ℤ) → pos 1 ≤ℤ d → floor_div (pos 0) d ≡ pos 0
zero_floor (pos n) h = omega (arith, ints)
zero_floor (negsuc n) h = absurd (omega (arith, ints))

pub zero_over : (d : ℤ) → pos 1 ≤ℤ d → quot_box zero_box d ≡ zero_box
zero_over d h = let e = zero_floor d h in rw e refl

pub zero_turned : (g : Gaussian) (d : ℤ) → pos 1 ≤ℤ d → gquot_box zero_box g d ≡ zero_box
zero_turned g d h = ap (λ b. quot_box b d) (zero_gscaled g) ∙ zero_over d h

pub zero_right : (b : BoxEnds) → add_box b zero_box ≡ b
zero_right b = λ i. record { re = record { lo = whole b.re.lo i; hi = whole b.re.hi i }; im = record { lo = whole b.im.lo i; hi = whole b.im.hi i } }
  where
    whole : (a : ℤ) → a +ℤ pos 0 ≡ a
    whole a = omega (arith, ints)

pub zero_left : (b : BoxEnds) → add_box zero_box b ≡ b
zero_left b = λ i. record { re = record { lo = whole b.re.lo i; hi = whole b.re.hi i }; im = record { lo = whole b.im.lo i; hi = whole b.im.hi i } }
  where
    whole : (a : ℤ) → pos 0 +ℤ a ≡ a
    whole a = omega (arith, ints)

-- Products of intervals with 1 and -1, and of boxes with 2.
use Rattle.std.proofs.Common.{◌≡◌, sym, subst, ℕ, ◌+◌, ◌*◌, ◌^◌, arith, Bool, true, false, ℤ, pos, negsuc, ◌+ℤ◌, ◌*ℤ◌, ◌≤ℤ◌}
use Rattle.std.proofs.lemmas.Int.{ints, clamps}
use Rattle.std.specs.Int.{int_min, int_max}
use Rattle.exact_math.specs.Ends.{Ends, EndsWithin, add_ends, sub_ends, scale_ends, add_box, scale_box}
use Rattle.exact_math.specs.Within.{Within, GaussianWithin}
use Rattle.fixed_interval.proofs.Sizes.{ends_wider, add_within, sub_within, scale_within}
use Rattle.fixed_interval.specs.Interval.{ends_of}
use Rattle.fixed_interval.specs.declared.Interval.{Interval}
use Rattle.complex_box.specs.Box.{box_ends}
use Rattle.complex_box.specs.declared.CBox.{CBox}
use Rattle.cell_name.specs.declared.cell.Quadrant.{Quadrant}
use Rattle.row_recursions.specs.Cells.{sign, quadrant_of}

-- x + x
twice_is : (x : Interval) → add_ends (ends_of x) (ends_of x) ≡ scale_ends (ends_of x) (pos 2)
twice_is x = λ i. record { lo = low x.lo x.hi x.ordered i; hi = high x.lo x.hi x.ordered i }
  where
    low : (l h : ℤ) → l ≤ℤ h → l +ℤ l ≡ int_min (l *ℤ pos 2) (h *ℤ pos 2)
    low l h o = omega (arith, ints, clamps)

    high : (l h : ℤ) → l ≤ℤ h → h +ℤ h ≡ int_max (l *ℤ pos 2) (h *ℤ pos 2)
    high l h o = omega (arith, ints, clamps)

pub doubled_is : (b : CBox) → add_box (box_ends b) (box_ends b) ≡ scale_box (box_ends b) (pos 2)
doubled_is b = λ i. record { re = twice_is b.re i; im = twice_is b.im i }

-- sizes
pub signed_within : (n : ℕ) (p : Bool) (e x : Ends) → x ≡ scale_ends e (sign p) → EndsWithin n e → EndsWithin n x
signed_within n p e x f w = subst (EndsWithin n) (sym f) (one n p w)
  where
    one : (n : ℕ) (p : Bool) → EndsWithin n e → EndsWithin n (scale_ends e (sign p))
    one n true w = ends_wider (n * 1) n _ (omega arith) (scale_within 1 n (pos 1) e (record { above = omega (arith, ints); below = omega (arith, ints) }) w)
    one n false w = ends_wider (n * 1) n _ (omega arith) (scale_within 1 n (negsuc 0) e (record { above = omega (arith, ints); below = omega (arith, ints) }) w)

pub difference_fits : (x y : Ends) → EndsWithin (2 ^ 120) x → EndsWithin (2 ^ 120) y → EndsWithin (2 ^ 126) (sub_ends x y)
difference_fits x y v w = ends_wider (2 ^ 120 + 2 ^ 120) (2 ^ 126) _ (omega arith) (sub_within (2 ^ 120) (2 ^ 120) x y v w)

pub sum_fits : (x y : Ends) → EndsWithin (2 ^ 120) x → EndsWithin (2 ^ 120) y → EndsWithin (2 ^ 126) (add_ends x y)
sum_fits x y v w = ends_wider (2 ^ 120 + 2 ^ 120) (2 ^ 126) _ (omega arith) (add_within (2 ^ 120) (2 ^ 120) x y v w)

-- a quadrant
pub unit_quadrant : (q : Quadrant) → GaussianWithin 1 (quadrant_of q)
unit_quadrant q = record { re = one q.right; im = one q.top }
  where
    one : (b : Bool) → Within 1 (sign b)
    one true = record { above = omega (arith, ints); below = omega (arith, ints) }
    one false = record { above = omega (arith, ints); below = omega (arith, ints) }

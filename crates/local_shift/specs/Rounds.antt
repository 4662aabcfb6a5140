-- A round of Horner's scheme on a row of coefficients. No public contract cites it.
use Rattle.std.specs.Prelude.{ℕ, zero, suc, pos}
use Rattle.exact_math.specs.Ends.{BoxEnds, add_box, scale_box, gscale_box, quot_box}
use Rattle.exact_math.specs.Gaussian.{Gaussian}

-- the polynomial m of the child's variable times (2 T + q)/4, plus the coefficient c
abbrev pub next_row : BoxEnds → Gaussian → (ℕ → BoxEnds) → ℕ → BoxEnds
next_row c q m zero = add_box c (quot_box (gscale_box (m zero) q) (pos 4))
next_row c q m (suc k) = quot_box (add_box (gscale_box (m (suc k)) q) (scale_box (m k) (pos 2))) (pos 4)

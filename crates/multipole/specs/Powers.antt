-- The slopes of a place in sides. No public contract cites it.
use Rattle.std.specs.Prelude.{ℕ, zero, suc, ◌^◌, pos}
use Rattle.exact_math.specs.Ends.{BoxEnds, zero_box, scale_box}
use Rattle.exact_math.specs.Gaussian.{Gaussian}
use Rattle.row_recursions.specs.Rows.{powers}

-- nothing, and then k times the power of o/2^n before
abbrev pub slopes : BoxEnds → Gaussian → ℕ → ℕ → BoxEnds
slopes b o n zero = zero_box
slopes b o n (suc k) = scale_box (powers b o (2 ^ n) k) (pos (suc k))

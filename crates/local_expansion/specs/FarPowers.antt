-- The coefficients of a far pole and of a far dipole, by the powers of a ratio m/zeta. No public contract cites it.
use Rattle.std.specs.Prelude.{ℕ, suc, pos}
use Rattle.exact_math.specs.Ends.{BoxEnds, neg_box, scale_box}
use Rattle.exact_math.specs.Gaussian.{Gaussian}
use Rattle.row_recursions.specs.Rows.{far_powers}

-- the coefficients of a pole: less the power after each
abbrev pub far_poles : BoxEnds → ℕ → Gaussian → ℕ → BoxEnds
far_poles b m zeta l = neg_box (far_powers b m zeta (suc l))

-- those of a dipole: l + 1 times the power l + 2
abbrev pub far_dipoles : BoxEnds → ℕ → Gaussian → ℕ → BoxEnds
far_dipoles b m zeta l = scale_box (far_powers b m zeta (suc (suc l))) (pos (suc l))

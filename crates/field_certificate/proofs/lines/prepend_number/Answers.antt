use Rattle.std.proofs.Common.{◌+◌, ◌<◌, ◌^◌, ℤ, pos, negsuc, arith, ap, sym, ◌∷◌, ◌++◌}
use Rattle.std.proofs.lemmas.Int.{to_z-of_z, ints}
use Rattle.std.specs.Int.{w128}
use Rattle.std.specs.Prelude.{FitsSigned}
use Rattle.number_text.proofs.NumbersText.{int_text-decimal}
use lib.Signed.{mag}
use Rattle.field_certificate.proofs.lines.prepend_number.Goals as goal

few_digits : (z : ℤ) → FitsSigned w128 z → mag z + 1 < 10 ^ 64
few_digits (pos n) fits = omega (arith, ints, fits)
few_digits (negsuc n) fits = omega (arith, ints, fits)

pub returns-clause-text : goal.returns-clause-text
returns-clause-text g c =
    rw (c.prepend.ensures, c.prepend_wide_int.ensures.text, to_z-of_z w128 c.args.z c.ranges.z)
    (ap (λ t. 32 ∷ (t ++ c.args.line.now)) (sym (int_text-decimal c.args.z (few_digits c.args.z c.ranges.z))))

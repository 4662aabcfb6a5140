-- The terms of the direct sum: what one source contributes at the distance delta, target minus source.
use Rattle.std.specs.Prelude.{◌*ℤ◌}
use Rattle.exact_math.specs.Gaussian.{Gaussian, mul_gaussian, conj, norm_gaussian}
use Rattle.exact_math.specs.Ratio.{ComplexRatio}

-- a/delta, as a conj delta over norm delta
abbrev pub pole_term : Gaussian → Gaussian → ComplexRatio
pole_term a delta = let w = mul_gaussian a (conj delta) in record { re = w.re; im = w.im; denominator = norm_gaussian delta }

-- b/delta^2, as b (conj delta)^2 over the square of norm delta
abbrev pub dipole_term : Gaussian → Gaussian → ComplexRatio
dipole_term b delta =
    let w = mul_gaussian b (mul_gaussian (conj delta) (conj delta)) in record { re = w.re; im = w.im; denominator = norm_gaussian delta *ℤ norm_gaussian delta }

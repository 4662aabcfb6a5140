-- The cut terms of one source, as fractions of whole numbers: what the expansions of order P hold in place of the term of the direct sum.
use Rattle.std.specs.Prelude.{ℕ, suc, pos}
use Rattle.exact_math.specs.Gaussian.{Gaussian, scale_gaussian}
use Rattle.exact_math.specs.Ratio.{ComplexRatio, whole_complex, neg_complex, ◌*ᶜ◌, reciprocal, invert}
use Rattle.exact_math.specs.Sums.{pow_complex, slope_complex, sum_complex, natural_complex}
use Rattle.exact_math.specs.TruncatedKernel.{truncated_kernel, truncated_slope}

-- g/2
abbrev pub halved : Gaussian → ComplexRatio
halved g = record { re = g.re; im = g.im; denominator = pos 2 }

-- ---- two cells of one side, d = s e apart: with x = u/d and y = -v/d, where o = 2 u is the doubled offset of the source and q = 2 v that of the target

-- (a/d) T(x, y), the sum of C(k + l, k) x^k y^l over k < P and l < P times a/d
abbrev pub pair_pole_cut : ℕ → ℕ → Gaussian → Gaussian → Gaussian → Gaussian → ComplexRatio
pair_pole_cut P s e o q a =
    let d = reciprocal (scale_gaussian s e) in
    let x = halved o *ᶜ d in
    let y = neg_complex (halved q *ᶜ d) in
    whole_complex a *ᶜ d *ᶜ truncated_kernel P x y

-- (b/d^2) T'(x, y), the sum of k C(k + l, k) x^(k - 1) y^l over k < P and l < P times b/d^2
abbrev pub pair_dipole_cut : ℕ → ℕ → Gaussian → Gaussian → Gaussian → Gaussian → ComplexRatio
pair_dipole_cut P s e o q b =
    let d = reciprocal (scale_gaussian s e) in
    let x = halved o *ᶜ d in
    let y = neg_complex (halved q *ᶜ d) in
    whole_complex b *ᶜ (d *ᶜ d) *ᶜ truncated_slope P x y

-- ---- a far target: o = 2 u and z = 2 w are the doubled offsets of the source and of the target from the centre of the source's cell

-- a times the sum of u^k / w^(k + 1) over k < P
abbrev pub multipole_pole_cut : ℕ → Gaussian → Gaussian → Gaussian → ComplexRatio
multipole_pole_cut P z o a =
    whole_complex a *ᶜ sum_complex P (λ k. pow_complex (halved o) k *ᶜ pow_complex (invert (halved z)) (suc k))

-- b times the sum of k u^(k - 1) / w^(k + 1) over k < P
abbrev pub multipole_dipole_cut : ℕ → Gaussian → Gaussian → Gaussian → ComplexRatio
multipole_dipole_cut P z o b =
    whole_complex b *ᶜ sum_complex P (λ k. slope_complex (halved o) k *ᶜ pow_complex (invert (halved z)) (suc k))

-- ---- a far source: q = 2 v and z = 2 zeta are the doubled offsets of the target and of the source from the centre of the target's cell

-- -a times the sum of v^l / zeta^(l + 1) over l < P
abbrev pub local_pole_cut : ℕ → Gaussian → Gaussian → Gaussian → ComplexRatio
local_pole_cut P z q a =
    neg_complex (whole_complex a) *ᶜ sum_complex P (λ l. pow_complex (halved q) l *ᶜ pow_complex (invert (halved z)) (suc l))

-- b times the sum of (l + 1) v^l / zeta^(l + 2) over l < P
abbrev pub local_dipole_cut : ℕ → Gaussian → Gaussian → Gaussian → ComplexRatio
local_dipole_cut P z q b =
    whole_complex b *ᶜ sum_complex P (λ l. natural_complex (suc l) *ᶜ pow_complex (halved q) l *ᶜ pow_complex (invert (halved z)) (suc (suc l)))

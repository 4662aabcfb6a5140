-- Sizes of the numbers of a term.
use Rattle.std.proofs.Common.{◌≡◌, ℕ, ◌+◌, ◌*◌, ◌≤◌, ◌^◌, arith, ℤ, ◌+ℤ◌, ◌-ℤ◌, ◌*ℤ◌, SFits, to_z-of_z, to_z, of_z, w64, ap, ◌∙◌}
use Rattle.exact_math.specs.Gaussian.{Gaussian, gaussian, mul_gaussian, conj}
use Rattle.exact_math.specs.Ratio.{ComplexRatio}
use Rattle.exact_math.proofs.Ring.{int_ring}
use Rattle.exact_math.proofs.RingTactic.{int_quotes, ring4}
use Rattle.std.specs.Int.{w128}
use Rattle.std.proofs.lemmas.Int.{ints}
use Rattle.exact_math.specs.Within.{Within}
use Rattle.limits.specs.Limits.{widest_grid}
use Rattle.exact_math.proofs.WholeSizes.{within-mul, within-add, within-sub, within-weaker}

-- a product of numbers of stated sizes, as the goals of code have it
pub small_product : (m n : ℕ) {a b : ℤ} → SFits w64 a → SFits w64 b → Within m a → Within n b → m * n ≤ 2 ^ 61 → Within (2 ^ 61) (to_z w64 (of_z w64 a) *ℤ to_z w64 (of_z w64 b))
small_product m n {a} {b} f g v w l = rw (to_z-of_z f, to_z-of_z g) (within-weaker l (within-mul m n a b v w))

-- the same of two parts of a distance
pub small_square : {a b : ℤ} → SFits w64 a → SFits w64 b → Within (2 ^ widest_grid) a → Within (2 ^ widest_grid) b → Within (2 ^ 61) (to_z w64 (of_z w64 a) *ℤ to_z w64 (of_z w64 b))
small_square f g v w = small_product (2 ^ widest_grid) (2 ^ widest_grid) f g v w (omega arith)

-- fractions with the same numbers
pub same_fraction : (x : ComplexRatio) {a b d : ℤ} → a ≡ x.re → b ≡ x.im → d ≡ x.denominator → (let y : ComplexRatio = record { re = a; im = b; denominator = d } in y ≡ x)
same_fraction x {a} {b} {d} e f g = ap (λ z. record { re = z; im = b; denominator = d }) e ∙ ap (λ z. record { re = x.re; im = z; denominator = d }) f ∙ ap (λ z. record { re = x.re; im = x.im; denominator = z }) g

-- ---- the numerators, as products with the conjugate have them
pub pole_re : (a b x y : ℤ) → a *ℤ x +ℤ b *ℤ y ≡ (mul_gaussian (gaussian a b) (conj (gaussian x y))).re
pole_re a b x y = ring4 int_ring a b x y (λ a b x y. search int_quotes depth 9) tt

pub pole_im : (a b x y : ℤ) → b *ℤ x -ℤ a *ℤ y ≡ (mul_gaussian (gaussian a b) (conj (gaussian x y))).im
pole_im a b x y = ring4 int_ring a b x y (λ a b x y. search int_quotes depth 9) tt

abbrev pub squared : ℤ → ℤ → Gaussian
squared x y = mul_gaussian (conj (gaussian x y)) (conj (gaussian x y))

pub dipole_re : (a b x y : ℤ) → a *ℤ (x *ℤ x -ℤ y *ℤ y) +ℤ b *ℤ (x *ℤ y +ℤ x *ℤ y) ≡ (mul_gaussian (gaussian a b) (squared x y)).re
dipole_re a b x y = ring4 int_ring a b x y (λ a b x y. search int_quotes depth 12) tt

pub dipole_im : (a b x y : ℤ) → b *ℤ (x *ℤ x -ℤ y *ℤ y) -ℤ a *ℤ (x *ℤ y +ℤ x *ℤ y) ≡ (mul_gaussian (gaussian a b) (squared x y)).im
dipole_im a b x y = ring4 int_ring a b x y (λ a b x y. search int_quotes depth 12) tt

-- ---- sizes of the parts of the square of a distance, as the clauses of code have them
pub across_is : {x y r : ℤ} → SFits w64 x → SFits w64 y → r ≡ to_z w64 (of_z w64 x) *ℤ to_z w64 (of_z w64 x) -ℤ to_z w64 (of_z w64 y) *ℤ to_z w64 (of_z w64 y) → r ≡ x *ℤ x -ℤ y *ℤ y
across_is f g e = simp to_z-of_z at e

pub twice_is : {x y r : ℤ} → SFits w64 x → SFits w64 y → r ≡ to_z w64 (of_z w64 x) *ℤ to_z w64 (of_z w64 y) +ℤ to_z w64 (of_z w64 x) *ℤ to_z w64 (of_z w64 y) → r ≡ x *ℤ y +ℤ x *ℤ y
twice_is f g e = simp to_z-of_z at e

pub across_within : (x y : ℤ) {r : ℤ} → Within (2 ^ widest_grid) x → Within (2 ^ widest_grid) y → r ≡ x *ℤ x -ℤ y *ℤ y → Within (2 ^ (2 * widest_grid + 1)) r
across_within x y v w e = rw e (within-sub (within-mul _ _ x x v v) (within-mul _ _ y y w w))

pub twice_within : (x y : ℤ) {r : ℤ} → Within (2 ^ widest_grid) x → Within (2 ^ widest_grid) y → r ≡ x *ℤ y +ℤ x *ℤ y → Within (2 ^ (2 * widest_grid + 1)) r
twice_within x y v w e = rw e (within-add (within-mul _ _ x y v w) (within-mul _ _ x y v w))

-- ---- the norm of a distance
pub norm_fits : (x : ℤ) → Within (2 ^ (2 * widest_grid + 1)) x → SFits w64 x
norm_fits x w = omega (arith, ints)

pub norm_within : (x y : ℤ) {r : ℤ} → Within (2 ^ widest_grid) x → Within (2 ^ widest_grid) y → r ≡ x *ℤ x +ℤ y *ℤ y → Within (2 ^ (2 * widest_grid + 1)) r
norm_within x y v w e = rw e (within-add (within-mul _ _ x x v v) (within-mul _ _ y y w w))

-- as the goals of code have it
pub norm_value : (x y : ℤ) {r : ℤ} → SFits w64 x → SFits w64 y → Within (2 ^ widest_grid) x → Within (2 ^ widest_grid) y
    → r ≡ to_z w64 (of_z w64 x) *ℤ to_z w64 (of_z w64 x) +ℤ to_z w64 (of_z w64 y) *ℤ to_z w64 (of_z w64 y) → to_z w64 (of_z w64 r) ≡ x *ℤ x +ℤ y *ℤ y
norm_value x y {r} f g v w e =
    let sum : r ≡ x *ℤ x +ℤ y *ℤ y = simp to_z-of_z at e in
    to_z-of_z (norm_fits r (norm_within x y v w sum)) ∙ sum

-- a part of a distance that a call is given
pub given_within : {x : ℤ} → SFits w64 x → Within (2 ^ widest_grid) x → Within (2 ^ widest_grid) (to_z w64 (of_z w64 x))
given_within f w = rw (to_z-of_z f) w

-- the square of a norm, as the goals of code have it
pub wide_square : {n x y : ℤ} → Within (2 ^ (2 * widest_grid + 1)) n → x ≡ n → y ≡ n → to_z w128 (of_z w128 (to_z w128 (of_z w128 x) *ℤ to_z w128 (of_z w128 y))) ≡ n *ℤ n
wide_square {n} {x} {y} w e f =
    let g : SFits w128 x = omega (arith, ints) in
    let h : SFits w128 y = omega (arith, ints) in
    let v = within-mul _ _ n n w w in
    let k : SFits w128 (n *ℤ n) = omega (arith, ints) in
    rw (to_z-of_z g, to_z-of_z h, e, f) (to_z-of_z k)

pub wide_square_fits : {n x y : ℤ} → Within (2 ^ (2 * widest_grid + 1)) n → x ≡ n → y ≡ n → SFits w128 (to_z w128 (of_z w128 x) *ℤ to_z w128 (of_z w128 y))
wide_square_fits {n} {x} {y} w e f =
    let g : SFits w128 x = omega (arith, ints) in
    let h : SFits w128 y = omega (arith, ints) in
    let v = within-mul _ _ n n w w in
    let k : SFits w128 (n *ℤ n) = omega (arith, ints) in
    rw (to_z-of_z g, to_z-of_z h, e, f) k

-- the norm, made wide
pub widened : {n m : ℤ} → Within (2 ^ (2 * widest_grid + 1)) n → m ≡ to_z w64 (of_z w64 n) → m ≡ n
widened {n} w e = e ∙ to_z-of_z (norm_fits n w)

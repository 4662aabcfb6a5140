-- The factor and the divisor of a far place, as code computes them.
use Rattle.std.proofs.Common.{◌≡◌, ◌∙◌, ap, ap₂, ℕ, ◌+◌, ◌*◌, ◌^◌, ◌%◌, ◌≤◌, arith, ℤ, pos, neg_ℤ, ◌+ℤ◌, ◌-ℤ◌, ◌*ℤ◌, ◌≤ℤ◌, SFits, FitsSigned, w64, to_z, of_z, to_z-of_z}
use Rattle.std.proofs.lemmas.Int.{ints}
use Rattle.std.proofs.Math.Pow.{pow_mono}
use Rattle.std.specs.Int.{w128}
use Rattle.exact_math.specs.Gaussian.{Gaussian, gaussian, conj, scale_gaussian}
use Rattle.exact_math.specs.Within.{Within, GaussianWithin}
use Rattle.exact_math.proofs.WholeSizes.{within-mul, within-neg}
use Rattle.limits.specs.Limits.{widest_grid}

narrow : (z : ℤ) → Within (2 ^ (2 * widest_grid + 4)) z → to_z w64 (of_z w64 z) ≡ z
narrow z h = let f : SFits w64 z = omega (arith, ints) in to_z-of_z f

wide : (z : ℤ) → Within (2 ^ (2 * widest_grid + 4)) z → to_z w128 (of_z w128 z) ≡ z
wide z h = let f : SFits w128 z = omega (arith, ints) in to_z-of_z f

-- 2^(bits + 1)
shifted : (bits : ℕ) → bits ≤ widest_grid → to_z w64 (2 * 2 ^ bits % 18446744073709551616) ≡ pos (2 * 2 ^ bits)
shifted bits h = small (2 ^ bits) (pow_mono h)
  where
    small : (p : ℕ) → p ≤ 2 ^ widest_grid → to_z w64 (2 * p % 18446744073709551616) ≡ pos (2 * p)
    small p k = omega (arith, ints)

side_within : (bits : ℕ) → bits ≤ widest_grid → Within (2 ^ (widest_grid + 1)) (pos (2 * 2 ^ bits))
side_within bits h = let k : 2 ^ bits ≤ 2 ^ widest_grid = pow_mono h in record { above = omega (arith, ints); below = omega (arith, ints) }

product_within : (bits : ℕ) (z : ℤ) → bits ≤ widest_grid → Within (2 ^ (widest_grid + 1)) z → Within (2 ^ (2 * widest_grid + 2)) (pos (2 * 2 ^ bits) *ℤ z)
product_within bits z h w = within-mul (2 ^ (widest_grid + 1)) (2 ^ (widest_grid + 1)) (pos (2 * 2 ^ bits)) z (side_within bits h) w

product_is : (bits : ℕ) (z : ℤ) → bits ≤ widest_grid → Within (2 ^ (widest_grid + 1)) z → to_z w64 (of_z w64 (to_z w64 (2 * 2 ^ bits % 18446744073709551616) *ℤ to_z w64 (of_z w64 z))) ≡ pos (2 * 2 ^ bits) *ℤ z
product_is bits z h w =
    let p = product_within bits z h w in
    ap (λ y. to_z w64 (of_z w64 y)) (ap₂ ◌*ℤ◌ (shifted bits h) (narrow z (record { above = omega (arith, ints); below = omega (arith, ints) })))
    ∙ narrow _ (record { above = omega (arith, ints); below = omega (arith, ints) })

negative_is : (bits : ℕ) (z : ℤ) → bits ≤ widest_grid → Within (2 ^ (widest_grid + 1)) z
    → to_z w64 (of_z w64 (pos 0 -ℤ to_z w64 (of_z w64 (to_z w64 (2 * 2 ^ bits % 18446744073709551616) *ℤ to_z w64 (of_z w64 z))))) ≡ neg_ℤ (pos (2 * 2 ^ bits) *ℤ z)
negative_is bits z h w =
    let p = product_within bits z h w in
    ap (λ y. to_z w64 (of_z w64 (pos 0 -ℤ y))) (product_is bits z h w) ∙ turned (pos (2 * 2 ^ bits) *ℤ z) p
  where
    turned : (y : ℤ) → Within (2 ^ (2 * widest_grid + 2)) y → to_z w64 (of_z w64 (pos 0 -ℤ y)) ≡ neg_ℤ y
    turned y p = omega (arith, ints)

pub negative_fits : (bits : ℕ) (z : ℤ) → bits ≤ widest_grid → Within (2 ^ (widest_grid + 1)) z → FitsSigned w64 (pos 0 -ℤ to_z w64 (of_z w64 (to_z w64 (2 * 2 ^ bits % 18446744073709551616) *ℤ to_z w64 (of_z w64 z))))
negative_fits bits z h w = let p = product_within bits z h w in rw (product_is bits z h w) (fits (pos (2 * 2 ^ bits) *ℤ z) p)
  where
    fits : (y : ℤ) → Within (2 ^ (2 * widest_grid + 2)) y → FitsSigned w64 (pos 0 -ℤ y)
    fits y p = omega (arith, ints)

pub product_fits : (bits : ℕ) (z : ℤ) → bits ≤ widest_grid → Within (2 ^ (widest_grid + 1)) z → FitsSigned w64 (to_z w64 (2 * 2 ^ bits % 18446744073709551616) *ℤ to_z w64 (of_z w64 z))
product_fits bits z h w =
    let p = product_within bits z h w in
    rw (shifted bits h, narrow z (record { above = omega (arith, ints); below = omega (arith, ints) })) (fits (pos (2 * 2 ^ bits) *ℤ z) p)
  where
    fits : (y : ℤ) → Within (2 ^ (2 * widest_grid + 2)) y → FitsSigned w64 y
    fits y p = omega (arith, ints)

-- the factor
pub factor_is : (bits : ℕ) (zeta : Gaussian) → bits ≤ widest_grid → GaussianWithin (2 ^ (widest_grid + 1)) zeta
    → gaussian (to_z w64 (of_z w64 (to_z w64 (2 * 2 ^ bits % 18446744073709551616) *ℤ to_z w64 (of_z w64 zeta.re))))
    (to_z w64 (of_z w64 (pos 0 -ℤ to_z w64 (of_z w64 (to_z w64 (2 * 2 ^ bits % 18446744073709551616) *ℤ to_z w64 (of_z w64 zeta.im))))))
    ≡ conj (scale_gaussian (2 * 2 ^ bits) zeta)
factor_is bits zeta h w = ap₂ gaussian (product_is bits zeta.re h w.re) (negative_is bits zeta.im h w.im)

pub factor_within : (bits : ℕ) (zeta : Gaussian) → bits ≤ widest_grid → GaussianWithin (2 ^ (widest_grid + 1)) zeta → GaussianWithin (2 ^ (2 * widest_grid + 2)) (conj (scale_gaussian (2 * 2 ^ bits) zeta))
factor_within bits zeta h w = record { re = product_within bits zeta.re h w.re; im = within-neg (product_within bits zeta.im h w.im) }

-- the divisor
pub part_is : (z : ℤ) {r : ℤ} → Within (2 ^ (widest_grid + 1)) z → r ≡ to_z w64 (of_z w64 z) → r ≡ z
part_is z w e = e ∙ narrow z (record { above = omega (arith, ints); below = omega (arith, ints) })

pub square_fits : (r a : ℤ) → r ≡ a → Within (2 ^ (widest_grid + 1)) a → FitsSigned w128 (to_z w128 (of_z w128 r) *ℤ to_z w128 (of_z w128 r))
square_fits r a e w =
    let s = within-mul (2 ^ (widest_grid + 1)) (2 ^ (widest_grid + 1)) a a w w in
    let f : to_z w128 (of_z w128 r) ≡ a = ap (λ z. to_z w128 (of_z w128 z)) e ∙ wide a (record { above = omega (arith, ints); below = omega (arith, ints) }) in
    rw f (fits (a *ℤ a) s)
  where
    fits : (y : ℤ) → Within (2 ^ (widest_grid + 1) * 2 ^ (widest_grid + 1)) y → FitsSigned w128 y
    fits y p = omega (arith, ints)

square_is : (r a : ℤ) → r ≡ a → Within (2 ^ (widest_grid + 1)) a → to_z w128 (of_z w128 (to_z w128 (of_z w128 r) *ℤ to_z w128 (of_z w128 r))) ≡ a *ℤ a
square_is r a e w =
    let s = within-mul (2 ^ (widest_grid + 1)) (2 ^ (widest_grid + 1)) a a w w in
    let f : to_z w128 (of_z w128 r) ≡ a = ap (λ z. to_z w128 (of_z w128 z)) e ∙ wide a (record { above = omega (arith, ints); below = omega (arith, ints) }) in
    ap (λ z. to_z w128 (of_z w128 (z *ℤ z))) f ∙ wide _ (record { above = omega (arith, ints); below = omega (arith, ints) })

pub norm_fits : (r s a b : ℤ) → r ≡ a → s ≡ b → Within (2 ^ (widest_grid + 1)) a → Within (2 ^ (widest_grid + 1)) b
    → FitsSigned w128 (to_z w128 (of_z w128 (to_z w128 (of_z w128 r) *ℤ to_z w128 (of_z w128 r))) +ℤ to_z w128 (of_z w128 (to_z w128 (of_z w128 s) *ℤ to_z w128 (of_z w128 s))))
norm_fits r s a b e f v w =
    let p = within-mul (2 ^ (widest_grid + 1)) (2 ^ (widest_grid + 1)) a a v v in
    let q = within-mul (2 ^ (widest_grid + 1)) (2 ^ (widest_grid + 1)) b b w w in
    let x = square_is r a e v in
    let y = square_is s b f w in
    omega (arith, ints, x, y)

pub norm_is : (r s a b : ℤ) → r ≡ a → s ≡ b → Within (2 ^ (widest_grid + 1)) a → Within (2 ^ (widest_grid + 1)) b
    → to_z w128 (of_z w128 (to_z w128 (of_z w128 (to_z w128 (of_z w128 r) *ℤ to_z w128 (of_z w128 r))) +ℤ to_z w128 (of_z w128 (to_z w128 (of_z w128 s) *ℤ to_z w128 (of_z w128 s))))) ≡ a *ℤ a +ℤ b *ℤ b
norm_is r s a b e f v w =
    let p = within-mul (2 ^ (widest_grid + 1)) (2 ^ (widest_grid + 1)) a a v v in
    let q = within-mul (2 ^ (widest_grid + 1)) (2 ^ (widest_grid + 1)) b b w w in
    ap₂ (λ x y. to_z w128 (of_z w128 (x +ℤ y))) (square_is r a e v) (square_is s b f w) ∙ wide _ (record { above = omega (arith, ints); below = omega (arith, ints) })

pub norm_most : (a b : ℤ) → Within (2 ^ (widest_grid + 1)) a → Within (2 ^ (widest_grid + 1)) b → (a *ℤ a +ℤ b *ℤ b) ≤ℤ pos (2 ^ (2 * widest_grid + 3))
norm_most a b v w =
    let p = within-mul (2 ^ (widest_grid + 1)) (2 ^ (widest_grid + 1)) a a v v in
    let q = within-mul (2 ^ (widest_grid + 1)) (2 ^ (widest_grid + 1)) b b w w in
    omega (arith, ints)

-- Products of narrow intervals.
use Rattle.std.proofs.Common.{◌≡◌, ◌∙◌, sym, subst, ap₂, ◌^◌, arith, lit≤, ℤ, pos, ◌*ℤ◌, ◌≤ℤ◌, ◌<ℤ◌, SFits, to_z, of_z, to_z-of_z}
use Rattle.std.proofs.lemmas.Int.{ints, clamps}
use Rattle.std.specs.Int.{w64, w128, int_min, int_max}
use Rattle.exact_math.specs.Within.{Within}
use Rattle.exact_math.proofs.WholeSizes.{within-mul, within-weaker}
use Rattle.fixed_interval.proofs.Order.{mul_right_up, mul_right_down}

-- which end gives the lower and the upper product, by the factor's sign
pub below_down : (lo hi k : ℤ) → lo ≤ℤ hi → k <ℤ pos 0 → hi *ℤ k ≡ int_min (lo *ℤ k) (hi *ℤ k)
below_down lo hi k h n = let m = mul_right_down lo hi k h n in omega (arith, ints, clamps, m)

pub below_up : (lo hi k : ℤ) → lo ≤ℤ hi → pos 0 ≤ℤ k → lo *ℤ k ≡ int_min (lo *ℤ k) (hi *ℤ k)
below_up lo hi k h n = let m = mul_right_up lo hi k h n in omega (arith, ints, clamps, m)

pub above_down : (lo hi k : ℤ) → lo ≤ℤ hi → k <ℤ pos 0 → lo *ℤ k ≡ int_max (lo *ℤ k) (hi *ℤ k)
above_down lo hi k h n = let m = mul_right_down lo hi k h n in omega (arith, ints, clamps, m)

pub above_up : (lo hi k : ℤ) → lo ≤ℤ hi → pos 0 ≤ℤ k → hi *ℤ k ≡ int_max (lo *ℤ k) (hi *ℤ k)
above_up lo hi k h n = let m = mul_right_up lo hi k h n in omega (arith, ints, clamps, m)

-- the size of a product
pub product_size : (a b r s : ℤ) → Within (2 ^ 62) a → Within (2 ^ 62) b → r ≡ a → s ≡ b → Within (2 ^ 124) (to_z w128 (of_z w128 (to_z w128 (of_z w128 r) *ℤ to_z w128 (of_z w128 s))))
product_size a b r s v w e f =
    let i : SFits w128 r = omega (arith, ints) in
    let j : SFits w128 s = omega (arith, ints) in
    let p : Within (2 ^ 124) (r *ℤ s) = within-mul (2 ^ 62) (2 ^ 62) r s (subst (Within (2 ^ 62)) (sym e) v) (subst (Within (2 ^ 62)) (sym f) w) in
    let k : SFits w128 (r *ℤ s) = omega (arith, ints, p) in
    rw (to_z-of_z i, to_z-of_z j, to_z-of_z k) p

pub wider : (z : ℤ) → Within (2 ^ 124) z → Within (2 ^ 126) z
wider z w = within-weaker (lit≤ tt) w

-- a narrow end and a product of two, without the casts
pub narrow_fits : (x : ℤ) → Within (2 ^ 62) x → SFits w64 x
narrow_fits x w = omega (arith, ints)

pub narrow_cast : (x : ℤ) → Within (2 ^ 62) x → Within (2 ^ 62) (to_z w64 (of_z w64 x))
narrow_cast x w = rw (to_z-of_z (narrow_fits x w)) w

pub product_fits : (x : ℤ) → Within (2 ^ 124) x → SFits w128 x
product_fits x w = omega (arith, ints)

pub product_cast : (x : ℤ) → Within (2 ^ 124) x → Within (2 ^ 124) (to_z w128 (of_z w128 x))
product_cast x w = rw (to_z-of_z (product_fits x w)) w

pub product_of : (r a b : ℤ) → Within (2 ^ 62) a → Within (2 ^ 62) b → r ≡ to_z w64 (of_z w64 a) *ℤ to_z w64 (of_z w64 b) → r ≡ a *ℤ b
product_of r a b v w e = e ∙ ap₂ (λ x y. x *ℤ y) (to_z-of_z (narrow_fits a v)) (to_z-of_z (narrow_fits b w))

-- the lesser and the greater of two products
pub record Chosen (r v : ℤ) : Type 0 where
  pub is : r ≡ v
  pub size : Within (2 ^ 124) r

least_size : (p q : ℤ) → Within (2 ^ 124) p → Within (2 ^ 124) q → Within (2 ^ 124) (int_min p q)
least_size p q v w = record { above = omega (arith, ints, clamps, v.above, w.above); below = omega (arith, ints, clamps, v.below, w.below) }

greatest_size : (p q : ℤ) → Within (2 ^ 124) p → Within (2 ^ 124) q → Within (2 ^ 124) (int_max p q)
greatest_size p q v w = record { above = omega (arith, ints, clamps, v.above, w.above); below = omega (arith, ints, clamps, v.below, w.below) }

pub least_of : (r p q : ℤ) → Within (2 ^ 124) p → Within (2 ^ 124) q → r ≡ int_min (to_z w128 (of_z w128 p)) (to_z w128 (of_z w128 q)) → Chosen r (int_min p q)
least_of r p q v w e =
    let is : r ≡ int_min p q = e ∙ ap₂ int_min (to_z-of_z (product_fits p v)) (to_z-of_z (product_fits q w)) in
    record { is = is; size = subst (Within (2 ^ 124)) (sym is) (least_size p q v w) }

pub greatest_of : (r p q : ℤ) → Within (2 ^ 124) p → Within (2 ^ 124) q → r ≡ int_max (to_z w128 (of_z w128 p)) (to_z w128 (of_z w128 q)) → Chosen r (int_max p q)
greatest_of r p q v w e =
    let is : r ≡ int_max p q = e ∙ ap₂ int_max (to_z-of_z (product_fits p v)) (to_z-of_z (product_fits q w)) in
    record { is = is; size = subst (Within (2 ^ 124)) (sym is) (greatest_size p q v w) }

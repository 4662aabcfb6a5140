-- How large a distance is.
use mathlib.Core.Path.{◌≡◌, ap, ap₂, subst, ◌∙◌}
use Prim.Native.Nat.{◌^◌}
use native.Mathlib.Nat.{mul-le-mul}
use native.Mathlib.Omega.{arith}
use lib.IntN.{ℤ, pos, neg_ℤ, ◌+ℤ◌, ◌*ℤ◌}
use lib.Signed.{◌≤ℤ◌}
use Rattle.std.proofs.lemmas.Int.{ints}
use Rattle.std.proofs.Common.{SFits, to_z, of_z, to_z-of_z}
use Rattle.std.specs.Int.{w128}
use Rattle.exact_math.specs.Gaussian.{Gaussian, norm_gaussian}
use Rattle.kernel_table.specs.Kernel.{IsKernelDistance}
use Rattle.exact_math.proofs.GaussianSizes.{square_abs, norm_count-is}
use Rattle.exact_math.proofs.WholeSizes.{unsigned_abs-within}
use Rattle.kernel_table.proofs.Widths.{norm_count≥4}

-- the squares of both parts
pub record Squares (e : Gaussian) : Type 0 where
  pub re_low : pos 0 ≤ℤ (e.re *ℤ e.re)
  pub re : (e.re *ℤ e.re) ≤ℤ pos 9
  pub im_low : pos 0 ≤ℤ (e.im *ℤ e.im)
  pub im : (e.im *ℤ e.im) ≤ℤ pos 9
  pub norm_low : pos 4 ≤ℤ norm_gaussian e

pub squares : (e : Gaussian) → IsKernelDistance e → Squares e
squares e h =
    let r = unsigned_abs-within 3 e.re h.near.re in
    let t = unsigned_abs-within 3 e.im h.near.im in
    let a = mul-le-mul r r in
    let b = mul-le-mul t t in
    let u = square_abs e.re in
    let v = square_abs e.im in
    record {
      re_low = subst (λ z. pos 0 ≤ℤ z) u (omega (arith, ints));
      re = subst (λ z. z ≤ℤ pos 9) u (omega (arith, ints, a));
      im_low = subst (λ z. pos 0 ≤ℤ z) v (omega (arith, ints));
      im = subst (λ z. z ≤ℤ pos 9) v (omega (arith, ints, b));
      norm_low = let k = norm_count≥4 e h in subst (λ n. pos 4 ≤ℤ n) (norm_count-is e) (omega (arith, ints, k));
    }

-- ---- what an i128 holds
abbrev pub wide : ℤ → ℤ
wide z = to_z w128 (of_z w128 z)

pub wide-is : (z : ℤ) → neg_ℤ (pos (2 ^ 126)) ≤ℤ z → z ≤ℤ pos (2 ^ 126) → wide z ≡ z
wide-is z h k = let f : SFits w128 z = omega (arith, ints, h, k) in to_z-of_z f

module _ (e : Gaussian) (h : IsKernelDistance e) (r s : ℤ) (p : r ≡ e.re) (q : s ≡ e.im) where
  re-wide : wide (wide r *ℤ wide r) ≡ e.re *ℤ e.re
  re-wide =
      let b = h.near in
      let k = squares e h in
      let i : wide r ≡ e.re = wide-is r (omega (arith, ints, p, b.re.above)) (omega (arith, ints, p, b.re.below)) ∙ p in
      ap (λ z. wide (z *ℤ z)) i ∙ wide-is _ (omega (arith, ints, k.re_low)) (omega (arith, ints, k.re))

  im-wide : wide (wide s *ℤ wide s) ≡ e.im *ℤ e.im
  im-wide =
      let b = h.near in
      let k = squares e h in
      let j : wide s ≡ e.im = wide-is s (omega (arith, ints, q, b.im.above)) (omega (arith, ints, q, b.im.below)) ∙ q in
      ap (λ z. wide (z *ℤ z)) j ∙ wide-is _ (omega (arith, ints, k.im_low)) (omega (arith, ints, k.im))

  -- the sum of the squares as it is computed
  pub norm-fits : SFits w128 (wide (wide r *ℤ wide r) +ℤ wide (wide s *ℤ wide s))
  norm-fits = let k = squares e h in let u = re-wide in let v = im-wide in omega (arith, ints, u, v, k.re_low, k.im_low, k.re, k.im)

  pub norm-wide : wide (wide (wide r *ℤ wide r) +ℤ wide (wide s *ℤ wide s)) ≡ norm_gaussian e
  norm-wide =
      let k = squares e h in
      ap₂ (λ a b. wide (a +ℤ b)) re-wide im-wide ∙ wide-is _ (omega (arith, ints, k.re_low, k.im_low)) (omega (arith, ints, k.re, k.im))

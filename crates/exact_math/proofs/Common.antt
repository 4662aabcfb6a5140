-- The names that most proofs on exact values cite, passed on from one place. Declares nothing.
pub use mathlib.Core.Path.{◌≡◌, refl, sym, ap, ap₂, subst, subst₂, ◌∙◌}
pub use Prim.Native.Nat.{ℕ, zero, suc}
pub use native.Mathlib.Omega.{arith}
pub use lib.IntN.{ℤ, pos, negsuc, neg_ℤ, ◌+ℤ◌, ◌-ℤ◌, ◌*ℤ◌}
pub use lib.Signed.{◌<ℤ◌, ◌≤ℤ◌}
pub use borrow.Author.Differences.{ints}
pub use Rattle.exact_math.proofs.Ring.{CommutativeRing, sub, pow, int_ring}
pub use Rattle.exact_math.proofs.RingTactic.{quotes, int_quotes, combine, ring1, ring2, ring3, ring4, ring5, ring6, ring7, ring8, ring9, ring10}
pub use Rattle.exact_math.proofs.Rationals.{ℚ, ℚ-set, rational_ring, of_int, of_int-add, of_int-mul, of_int-≤, ◌+ℚ◌, ◌*ℚ◌, ◌-ℚ◌, neg_ℚ, inverse, *ℚ-inverse, ◌≤ℚ◌, ◌<ℚ◌, compare_ℚ, ≤ℚ-refl, ≤ℚ-trans, ≤ℚ-antisym, *ℚ-nonneg, not_≤ℚ, <ℚ-from_not}
pub use Rattle.exact_math.proofs.RationalOrder.{le_equal, le_plus, le_using, rearrange, add_mono, mul_mono, cancel_mul, from_difference, difference_nonneg, nonneg, nonneg_add, nonneg_int, nonneg_pow, negative, ≤-from_<, int-<, inverse_right, inverse_positive, inverse-mul, positive_mul, absolute, absolute_le, absolute_nonneg, sum_below_mono}
pub use Rattle.exact_math.proofs.Sums.{sum_below, sum_below-congruence, sum_below-zero, sum_below-add, sum_below-mul, sum_below-first, sum_list, sum_list-congruence, sum_list-add, sum_list-mul, sum_list-append, sum_list-zero, sum_list-exchange}
pub use Rattle.exact_math.proofs.Powers.{pow-add, pow-mul, pow-one}
pub use Rattle.exact_math.proofs.ComplexRationals.{ℂ, complex, complex_rationals, of_int_ℂ, ◌+ℂ◌, ◌*ℂ◌, ◌-ℂ◌, neg_ℂ, inverse_ℂ, *ℂ-inverse, conjugate, norm, norm-mul, real, parts-add, parts-mul, parts-neg, parts-int, parts-inverse}
pub use Rattle.exact_math.proofs.ComplexSize.{size, size_nonneg}
pub use Rattle.exact_math.proofs.ListSums.{sum_list-congruence_all, sum_list-map, sum_list-filter, sum_list-exchange_lists, sum_list-classes}

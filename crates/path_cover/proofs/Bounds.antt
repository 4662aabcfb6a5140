-- How large the numbers are that a cover keeps.
use Rattle.std.proofs.Common.{ℕ, ◌≡◌, ◌*◌, ◌^◌, ◌<◌, ◌≤◌, List, length, Bool, true, false, cond, sym, ap, ◌∙◌, arith}
use Rattle.std.specs.Prelude.{sum_by, sum}
use Rattle.std.specs.List.{range_with_len}
use Rattle.std.proofs.Math.Nat.{mul-le-mul, mul-le-mul_left}
use Rattle.std.proofs.lemmas.List.Sums.{sum_by-le, count_by-le-length}
use Rattle.soundness.specs.Accounts.{under}
use Rattle.soundness.proofs.RowTotals.{sum_by-times}
use Rattle.node_sums.specs.Sums.{parent_in, value_at}
use Rattle.path_cover.specs.Covers.{CoverModel, times_covered}
use Rattle.path_cover.specs.Kept.{strictly_under, sources_under, covered_below, total_times, total_squares, IsKept}
use Rattle.path_cover.proofs.Parents.{above-le}
use Rattle.node_sums.proofs.RangeSums.{sum-places}
use Rattle.std.proofs.lemmas.List.Sums.{sum_by-le-sum_by}

size-le : (ps leaves : List ℕ) (n : ℕ) → sources_under ps leaves n ≤ length leaves
unfolding sources_under
size-le ps leaves n = count_by-le-length (λ l. under (parent_in ps) l n) leaves

share_product : (b : Bool) (v s n : ℕ) → s ≤ n → cond b (v * s) 0 ≤ n * v
share_product true v s n h = let m : v * s ≤ v * n = mul-le-mul_left v h in grind arith
share_product false v s n h = omega arith

below-le : (ps leaves covers : List ℕ) (n : ℕ) → covered_below ps leaves (value_at covers) (length covers) n ≤ length leaves * sum covers
unfolding covered_below
below-le ps leaves covers n =
    let a : covered_below ps leaves (value_at covers) (length covers) n ≤ sum_by (λ d. length leaves * value_at covers d) (range_with_len 0 (length covers)) =
    sum_by-le-sum_by (λ d. cond (strictly_under ps d n) (value_at covers d * sources_under ps leaves d) 0) (λ d. length leaves * value_at covers d) (range_with_len 0 (length covers)) (λ d. share_product _ _ _ _ (size-le ps leaves d)) in
    let b : sum_by (λ d. length leaves * value_at covers d) (range_with_len 0 (length covers)) ≡ length leaves * sum covers =
    sum_by-times (length leaves) (value_at covers) (range_with_len 0 (length covers)) ∙ ap (λ s. length leaves * s) (sym (sum-places covers)) in
    omega arith

total-le : (m : CoverModel) → total_times m ≤ length m.leaves * sum m.covers
unfolding total_times
total-le m = sum_by-le (times_covered m) (sum m.covers) m.leaves (λ k d l. above-le m.parents m.covers _)

squares-le : (m : CoverModel) → total_squares m ≤ length m.leaves * (sum m.covers * sum m.covers)
unfolding total_squares
squares-le m = sum_by-le (λ leaf. times_covered m leaf * times_covered m leaf) (sum m.covers * sum m.covers) m.leaves (λ k d l. mul-le-mul (above-le m.parents m.covers _) (above-le m.parents m.covers _))

-- ---- of what is kept
module _ (m : CoverModel) (sizes below : List ℕ) (total squares : ℕ) (kept : IsKept m sizes below total squares) where
  few : length m.leaves ≤ 2 ^ 32
  few = let h = kept.few in omega arith

  pub size-fits : (n : ℕ) → n < length m.parents → value_at sizes n < 2 ^ 32
  size-fits n l = let e = kept.each_size n l in let b = size-le m.parents m.leaves n in let h = kept.few in omega arith

  product : length m.leaves * sum m.covers ≤ 2 ^ 32 * 2 ^ 31
  product = mul-le-mul few kept.room

  pub below-fits : (n : ℕ) → n < length m.parents → value_at below n ≤ 2 ^ 63
  below-fits n l = let e = kept.each_below n l in let b = below-le m.parents m.leaves m.covers n in let p = product in omega arith

  pub total-fits : total ≤ 2 ^ 63
  total-fits = let e = kept.all in let b = total-le m in let p = product in omega arith

  pub squares-fits : squares ≤ 2 ^ 94
  squares-fits =
      let p : length m.leaves * (sum m.covers * sum m.covers) ≤ 2 ^ 32 * (2 ^ 31 * 2 ^ 31) = mul-le-mul few (mul-le-mul kept.room kept.room) in
      let e = kept.all_squares in
      let b = squares-le m in
      omega arith

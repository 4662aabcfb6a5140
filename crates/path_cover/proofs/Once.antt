-- Each source is covered exactly once where the two sums over all sources are both the number of sources.
use Rattle.std.proofs.Common.{ℕ, ◌≡◌, List, length, sym, ◌∙◌}
use Rattle.path_cover.specs.Covers.{CoverModel, IsCoveredOnce, times_covered}
use Rattle.path_cover.specs.Kept.{total_times, total_squares, IsKept}
use Rattle.path_cover.proofs.Squares.{ones_from_sums, sum-from_ones, squares-from_ones}

module _ (m : CoverModel) (sizes below : List ℕ) (total squares : ℕ) (kept : IsKept m sizes below total squares) where
  pub once_from_sums : total ≡ length m.leaves → squares ≡ length m.leaves → IsCoveredOnce m
  unfolding total_times total_squares
  once_from_sums e f = ones_from_sums (times_covered m) m.leaves (sym kept.all ∙ e) (sym kept.all_squares ∙ f)

  pub total-from_once : IsCoveredOnce m → total ≡ length m.leaves
  unfolding total_times
  total-from_once h = kept.all ∙ sum-from_ones (times_covered m) m.leaves h

  pub squares-from_once : IsCoveredOnce m → squares ≡ length m.leaves
  unfolding total_squares
  squares-from_once h = kept.all_squares ∙ squares-from_ones (times_covered m) m.leaves h

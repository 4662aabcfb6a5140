-- Sums over the sources of entries, of what is at most something else, of a sum and of a multiple.
use Rattle.std.proofs.Common.{ℕ, ◌≡◌, ◌+◌, ◌*◌, ◌≤◌, zero, suc, List, get_or, ◌∙◌, arith}
use Rattle.std.specs.Prelude.{sum_by}
use Rattle.std.proofs.lemmas.List.Sums.{sum_by-le-sum_by}
use Rattle.cell_name.specs.Square.{Square, parent}
use Rattle.letters.specs.declared.Letter.{Letter}
use Rattle.letters.specs.declared.Letter.TheVariants.{V, X}
use Rattle.points.specs.declared.Point.{Point}
use Rattle.soundness.proofs.RowTotals.{sum_by-times}
use Rattle.soundness.proofs.Sums.{sum_by-add, sum_by-same}
use Rattle.tree_field.specs.Field.{sources_in}
use Rattle.tree_field.specs.Lists.{TreeLists}
use Rattle.tree_field.specs.Paths.{over_entries, over_path_at, over_path}

module _ (points : List Point) (lists : TreeLists) where
  -- ---- of larger terms
  module _ (f g : Point → ℕ) (h : (p : Point) → f p ≤ g p) where
    pub over_entries-mono : (letter : Letter) (b : Square) → over_entries points lists f letter b ≤ over_entries points lists g letter b
    over_entries-mono letter b = sum_by-le-sum_by (λ c. sum_by f (sources_in points c)) (λ c. sum_by g (sources_in points c)) (lists.entries letter b) (λ c. sum_by-le-sum_by f g (sources_in points c) h)

    path_mono : (level : ℕ) (b : Square) → over_path_at points lists f level b ≤ over_path_at points lists g level b
    unfolding over_path_at
    path_mono zero b = omega (arith, over_entries-mono V b, over_entries-mono X b)
    path_mono (suc level) b = omega (arith, path_mono level (parent b), over_entries-mono V b, over_entries-mono X b)

    pub over_path-mono : (b : Square) → over_path points lists f b ≤ over_path points lists g b
    over_path-mono b = path_mono b.level b

  -- ---- of sums
  module _ (f g : Point → ℕ) where
    pub over_entries-add : (letter : Letter) (b : Square) → over_entries points lists (λ p. f p + g p) letter b ≡ over_entries points lists f letter b + over_entries points lists g letter b
    over_entries-add letter b =
        sum_by-same (λ c. sum_by (λ p. f p + g p) (sources_in points c)) (λ c. sum_by f (sources_in points c) + sum_by g (sources_in points c)) (lists.entries letter b) (λ k c lt. sum_by-add f g (sources_in points (get_or (lists.entries letter b) k c)))
        ∙ sum_by-add (λ c. sum_by f (sources_in points c)) (λ c. sum_by g (sources_in points c)) (lists.entries letter b)

    path_add : (level : ℕ) (b : Square) → over_path_at points lists (λ p. f p + g p) level b ≡ over_path_at points lists f level b + over_path_at points lists g level b
    unfolding over_path_at
    path_add zero b = omega (arith, over_entries-add V b, over_entries-add X b)
    path_add (suc level) b = omega (arith, path_add level (parent b), over_entries-add V b, over_entries-add X b)

    pub over_path-add : (b : Square) → over_path points lists (λ p. f p + g p) b ≡ over_path points lists f b + over_path points lists g b
    over_path-add b = path_add b.level b

  -- ---- of multiples
  module _ (k : ℕ) (f : Point → ℕ) where
    pub over_entries-times : (letter : Letter) (b : Square) → over_entries points lists (λ p. k * f p) letter b ≡ k * over_entries points lists f letter b
    over_entries-times letter b =
        sum_by-same (λ c. sum_by (λ p. k * f p) (sources_in points c)) (λ c. k * sum_by f (sources_in points c)) (lists.entries letter b) (λ i c lt. sum_by-times k f (sources_in points (get_or (lists.entries letter b) i c)))
        ∙ sum_by-times k (λ c. sum_by f (sources_in points c)) (lists.entries letter b)

    path_times : (level : ℕ) (b : Square) → over_path_at points lists (λ p. k * f p) level b ≡ k * over_path_at points lists f level b
    unfolding over_path_at
    path_times zero b = both k (over_entries points lists f V b) (over_entries points lists f X b) (over_entries-times V b) (over_entries-times X b)
      where
        both : {a c : ℕ} (k x y : ℕ) → a ≡ k * x → c ≡ k * y → a + c ≡ k * (x + y)
        both k x y e d = omega (arith, e, d)
    path_times (suc level) b = all k (over_path_at points lists f level (parent b)) (over_entries points lists f V b) (over_entries points lists f X b) (path_times level (parent b)) (over_entries-times V b) (over_entries-times X b)
      where
        all : {l a c : ℕ} (k w x y : ℕ) → l ≡ k * w → a ≡ k * x → c ≡ k * y → l + (a + c) ≡ k * (w + (x + y))
        all k w x y d e c = omega (arith, d, e, c)

    pub over_path-times : (b : Square) → over_path points lists (λ p. k * f p) b ≡ k * over_path points lists f b
    over_path-times b = path_times b.level b

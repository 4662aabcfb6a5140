-- What changes where one node covers once more.
use Rattle.std.proofs.Common.{ℕ, ◌≡◌, ◌+◌, ◌*◌, ◌<◌, List, Bool, true, false, not, ◌&&◌, cond, refl, ap, ◌∙◌, arith}
use Rattle.std.specs.Prelude.{sum_by, ◌==◌}
use Rattle.std.specs.List.{range_with_len}
use Rattle.soundness.specs.Accounts.{under}
use Rattle.soundness.proofs.Sums.{sum_by-add}
use Rattle.soundness.proofs.RowTotals.{sum_by-times}
use Rattle.node_sums.proofs.RangeSums.{sum_by-each, range-pick}
use Rattle.path_cover.proofs.Nested.{meeting}

-- (t + 1)^2 where a test passes
square_more : (b : Bool) (t : ℕ) → (t + cond b 1 0) * (t + cond b 1 0) ≡ t * t + (2 * cond b t 0 + cond b 1 0)
square_more true t = square t
  where
    square : (t : ℕ) → (t + 1) * (t + 1) ≡ t * t + (2 * t + 1)
    square t = grind arith
square_more false t = same (t + 0) (omega arith)
  where
    same : (u : ℕ) → u ≡ t → u * u ≡ t * t + (2 * 0 + 0)
    same u e = ap (λ n. n * n) e ∙ plain (t * t)
      where
        plain : (n : ℕ) → n ≡ n + (2 * 0 + 0)
        plain n = omega arith

module _ (parent : ℕ → ℕ) (root : parent 0 ≡ 0) (parents : (n : ℕ) → 0 < n → parent n < n) (leaves : List ℕ) (nodes : ℕ) where
  abbrev size : ℕ → ℕ
  size n = sum_by (λ l. cond (under parent l n) 1 0) leaves

  abbrev times : (ℕ → ℕ) → ℕ → ℕ
  times often l = sum_by (λ c. cond (under parent l c) (often c) 0) (range_with_len 0 nodes)

  abbrev below : (ℕ → ℕ) → ℕ → ℕ
  below often n = sum_by (λ d. cond (not (d == n) && under parent d n) (often d * size d) 0) (range_with_len 0 nodes)

  module _ (often more : ℕ → ℕ) (c : ℕ) (raised : (d : ℕ) → more d ≡ often d + cond (c == d) 1 0) (inside : c < nodes) where
    share_more : (b e : Bool) (v : ℕ) → cond b (v + cond e 1 0) 0 ≡ cond b v 0 + cond e (cond b 1 0) 0
    share_more true e v = refl
    share_more false true v = omega arith
    share_more false false v = omega arith

    pub times-raised : (l : ℕ) → times more l ≡ times often l + cond (under parent l c) 1 0
    times-raised l =
        sum_by-each _ _ (λ d. ap (λ v. cond (under parent l d) v 0) (raised d) ∙ share_more (under parent l d) (c == d) (often d)) (range_with_len 0 nodes)
        ∙ sum_by-add (λ d. cond (under parent l d) (often d) 0) (λ d. cond (c == d) (cond (under parent l d) 1 0) 0) (range_with_len 0 nodes)
        ∙ ap (λ n. times often l + n) (range-pick (λ d. cond (under parent l d) 1 0) c 0 nodes (omega arith) (omega arith))

    pub total-raised : sum_by (times more) leaves ≡ sum_by (times often) leaves + size c
    total-raised = sum_by-each _ _ times-raised leaves ∙ sum_by-add (times often) (λ l. cond (under parent l c) 1 0) leaves

    pub squares-raised : sum_by (λ l. times more l * times more l) leaves ≡ sum_by (λ l. times often l * times often l) leaves + (2 * (size c * times often c + below often c) + size c)
    squares-raised =
        sum_by-each _ _ (λ l. ap (λ n. n * n) (times-raised l) ∙ square_more (under parent l c) (times often l)) leaves
        ∙ sum_by-add (λ l. times often l * times often l) (λ l. 2 * cond (under parent l c) (times often l) 0 + cond (under parent l c) 1 0) leaves
        ∙ ap (λ n. sum_by (λ l. times often l * times often l) leaves + n)
        (sum_by-add (λ l. 2 * cond (under parent l c) (times often l) 0) (λ l. cond (under parent l c) 1 0) leaves
        ∙ ap (λ n. n + size c) (sum_by-times 2 (λ l. cond (under parent l c) (times often l) 0) leaves ∙ ap (λ n. 2 * n) (meeting parent root parents leaves often nodes c)))

    product_more : (b e : Bool) (v s : ℕ) → cond b ((v + cond e 1 0) * s) 0 ≡ cond b (v * s) 0 + cond e (cond b s 0) 0
    product_more true true v s = grind arith
    product_more true false v s = grind arith
    product_more false true v s = omega arith
    product_more false false v s = omega arith

    pub below-raised : (n : ℕ) → below more n ≡ below often n + cond (not (c == n) && under parent c n) (size c) 0
    below-raised n =
        sum_by-each _ _ (λ d. ap (λ v. cond (not (d == n) && under parent d n) (v * size d) 0) (raised d) ∙ product_more (not (d == n) && under parent d n) (c == d) (often d) (size d)) (range_with_len 0 nodes)
        ∙ sum_by-add (λ d. cond (not (d == n) && under parent d n) (often d * size d) 0) (λ d. cond (c == d) (cond (not (d == n) && under parent d n) (size d) 0) 0) (range_with_len 0 nodes)
        ∙ ap (λ m. below often n + m) (range-pick (λ d. cond (not (d == n) && under parent d n) (size d) 0) c 0 nodes (omega arith) (omega arith))

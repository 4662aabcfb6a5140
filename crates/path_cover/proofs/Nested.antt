-- Nodes under a node are nested or disjoint, and so the sources that a node shares with the others are counted by its ancestors and by the nodes under it.
use Rattle.std.proofs.Common.{ℕ, zero, suc, inl, inr, ◌≡◌, ◌+◌, ◌*◌, ◌<◌, ◌≤◌, List, Bool, true, false, not, ◌&&◌, cond, refl, sym, ap, subst, ◌∙◌, arith}
use Rattle.std.specs.Prelude.{sum_by, ◌==◌, ◌⊎◌}
use Rattle.std.specs.List.{range_with_len}
use mathlib.Core.Logic.{⊎_elim}
use Rattle.std.proofs.lemmas.Bool.{eq-eqb, ne_eqb, eqb-true, cases_eq, cases_Bool, or_cases, false≢true}
use Rattle.soundness.specs.Accounts.{under}
use Rattle.soundness.proofs.Nodes.{strong, under-root, under-parent, under-self, under-le, under-up}
use Rattle.soundness.proofs.RowTotals.{sum_by-times}
use Rattle.soundness.proofs.Sums.{sum_by-add}
use Rattle.node_sums.proofs.RangeSums.{sum_by-each, sum_by-zero, sum_by-exchange, sum_by-cond}

module _ (parent : ℕ → ℕ) (root : parent 0 ≡ 0) (parents : (n : ℕ) → 0 < n → parent n < n) where
  pub under-trans : (a b c : ℕ) → under parent a b ≡ true → under parent b c ≡ true → under parent a c ≡ true
  under-trans a = strong (λ b. (c : ℕ) → under parent a b ≡ true → under parent b c ≡ true → under parent a c ≡ true) step
    where
      step : (b : ℕ) → ((m : ℕ) → m < b → (c : ℕ) → under parent a m ≡ true → under parent m c ≡ true → under parent a c ≡ true) → (c : ℕ) → under parent a b ≡ true → under parent b c ≡ true → under parent a c ≡ true
      step zero ih c h k = subst (λ n. under parent a n ≡ true) (eqb-true 0 c (sym (under-root parent root parents c) ∙ k)) h
      step (suc b) ih c h k = ⊎_elim
          (λ e. subst (λ n. under parent a n ≡ true) (eqb-true (suc b) c e) h)
          (λ e. ih (parent (suc b)) (parents (suc b) (omega arith)) c (under-up parent root parents a (suc b) (omega arith) h) e)
          (or_cases _ _ (sym (under-parent parent root parents (suc b) c (omega arith)) ∙ k))

  -- two nodes above a third
  pub nested : (l c d : ℕ) → under parent l c ≡ true → under parent l d ≡ true → (under parent c d ≡ true) ⊎ (under parent d c ≡ true)
  nested = strong (λ l. (c d : ℕ) → under parent l c ≡ true → under parent l d ≡ true → (under parent c d ≡ true) ⊎ (under parent d c ≡ true)) step
    where
      step : (l : ℕ) → ((m : ℕ) → m < l → (c d : ℕ) → under parent m c ≡ true → under parent m d ≡ true → (under parent c d ≡ true) ⊎ (under parent d c ≡ true))
          → (c d : ℕ) → under parent l c ≡ true → under parent l d ≡ true → (under parent c d ≡ true) ⊎ (under parent d c ≡ true)
      step zero ih c d h k = inl (subst (λ n. under parent n d ≡ true) (eqb-true 0 c (sym (under-root parent root parents c) ∙ h)) k)
      step (suc l) ih c d h k = ⊎_elim
          (λ e. inl (subst (λ n. under parent n d ≡ true) (eqb-true (suc l) c e) k))
          (λ e. ⊎_elim
          (λ f. inr (subst (λ n. under parent n c ≡ true) (eqb-true (suc l) d f) h))
          (λ f. ih (parent (suc l)) (parents (suc l) (omega arith)) c d e f)
          (or_cases _ _ (sym (under-parent parent root parents (suc l) d (omega arith)) ∙ k)))
          (or_cases _ _ (sym (under-parent parent root parents (suc l) c (omega arith)) ∙ h))

  -- ---- the sources under two nodes
  above_self : (c d : ℕ) → under parent c d ≡ true → not (d == c) && under parent d c ≡ false
  above_self c d h = ⊎_elim
      (λ e. ap (λ b. not b && under parent d c) (eq-eqb d c e))
      (λ ne. ⊎_elim
      (λ g. absurd (ne (same (under-le parent root parents c d h) (under-le parent root parents d c g))))
      (λ g. ap (λ b. not b && under parent d c) (ne_eqb d c ne) ∙ g)
      (cases_Bool (under parent d c)))
      (cases_eq d c)
    where
      same : d ≤ c → c ≤ d → d ≡ c
      same p q = omega arith

  below_other : (c d : ℕ) → under parent c d ≡ false → under parent d c ≡ true → not (d == c) && under parent d c ≡ true
  below_other c d h g = ap (λ b. not b && under parent d c) (ne_eqb d c apart) ∙ g
    where
      apart : d ≡ c → ⊥
      apart e = false≢true (sym h ∙ ap (λ n. under parent c n) e ∙ under-self parent root parents c)

  -- what a source under c adds for a node d above c, for one under c, and for another
  share_above : (l c d v : ℕ) → under parent c d ≡ true → cond (under parent l c) (cond (under parent l d) v 0) 0 ≡ v * cond (under parent l c) 1 0
  share_above l c d v h = ⊎_elim
      (λ e. ap (λ b. cond b (cond (under parent l d) v 0) 0) e ∙ ap (λ b. cond b v 0) (under-trans l c d e h) ∙ times_one ∙ sym (ap (λ b. v * cond b 1 0) e))
      (λ e. ap (λ b. cond b (cond (under parent l d) v 0) 0) e ∙ times_none ∙ sym (ap (λ b. v * cond b 1 0) e))
      (cases_Bool (under parent l c))
    where
      times_one : v ≡ v * 1
      times_one = omega arith

      times_none : 0 ≡ v * 0
      times_none = omega arith

  share_below : (l c d v : ℕ) → under parent d c ≡ true → cond (under parent l c) (cond (under parent l d) v 0) 0 ≡ v * cond (under parent l d) 1 0
  share_below l c d v h = ⊎_elim
      (λ e. ap (λ b. cond b (cond (under parent l d) v 0) 0) (under-trans l d c e h) ∙ ap (λ b. cond b v 0) e ∙ times_one ∙ sym (ap (λ b. v * cond b 1 0) e))
      (λ e. ap (λ b. cond (under parent l c) (cond b v 0) 0) e ∙ nothing (under parent l c) ∙ sym (ap (λ b. v * cond b 1 0) e))
      (cases_Bool (under parent l d))
    where
      times_one : v ≡ v * 1
      times_one = omega arith

      nothing : (b : Bool) → cond b 0 0 ≡ v * 0
      nothing true = omega arith
      nothing false = omega arith

  share_apart : (l c d v : ℕ) → under parent c d ≡ false → under parent d c ≡ false → cond (under parent l c) (cond (under parent l d) v 0) 0 ≡ 0
  share_apart l c d v h g = both (under parent l c) (under parent l d) (λ p q. ⊎_elim (λ e. false≢true (sym h ∙ e)) (λ e. false≢true (sym g ∙ e)) (nested l c d p q))
    where
      both : (a b : Bool) → (a ≡ true → b ≡ true → ⊥) → cond a (cond b v 0) 0 ≡ 0
      both true true k = absurd (k refl refl)
      both true false k = refl
      both false b k = refl

  module _ (leaves : List ℕ) where
    abbrev size : ℕ → ℕ
    size n = sum_by (λ l. cond (under parent l n) 1 0) leaves

    shared : (c d v : ℕ) → sum_by (λ l. cond (under parent l c) (cond (under parent l d) v 0) 0) leaves ≡ size c * cond (under parent c d) v 0 + cond (not (d == c) && under parent d c) (v * size d) 0
    shared c d v = ⊎_elim
        (λ h.
        let all : sum_by (λ l. cond (under parent l c) (cond (under parent l d) v 0) 0) leaves ≡ v * size c =
        sum_by-each _ (λ l. v * cond (under parent l c) 1 0) (λ l. share_above l c d v h) leaves ∙ sum_by-times v (λ l. cond (under parent l c) 1 0) leaves in
        let some : size c * cond (under parent c d) v 0 ≡ size c * v = ap (λ b. size c * cond b v 0) h in
        let none : cond (not (d == c) && under parent d c) (v * size d) 0 ≡ 0 = ap (λ b. cond b (v * size d) 0) (above_self c d h) in
        joined _ _ _ (size c) v all some none)
        (λ h. ⊎_elim
        (λ g.
        let all : sum_by (λ l. cond (under parent l c) (cond (under parent l d) v 0) 0) leaves ≡ v * size d =
        sum_by-each _ (λ l. v * cond (under parent l d) 1 0) (λ l. share_below l c d v g) leaves ∙ sum_by-times v (λ l. cond (under parent l d) 1 0) leaves in
        let some : size c * cond (under parent c d) v 0 ≡ size c * 0 = ap (λ b. size c * cond b v 0) h in
        let none : cond (not (d == c) && under parent d c) (v * size d) 0 ≡ v * size d = ap (λ b. cond b (v * size d) 0) (below_other c d h g) in
        omega arith)
        (λ g.
        let all : sum_by (λ l. cond (under parent l c) (cond (under parent l d) v 0) 0) leaves ≡ 0 =
        sum_by-each _ (λ l. 0) (λ l. share_apart l c d v h g) leaves ∙ sum_by-zero leaves in
        let some : size c * cond (under parent c d) v 0 ≡ size c * 0 = ap (λ b. size c * cond b v 0) h in
        let none : cond (not (d == c) && under parent d c) (v * size d) 0 ≡ 0 = ap (λ b. cond b (v * size d) 0) (strict_apart g) in
        omega arith)
        (cases_Bool (under parent d c)))
        (cases_Bool (under parent c d))
      where
        joined : (a b e s v : ℕ) → a ≡ v * s → b ≡ s * v → e ≡ 0 → a ≡ b + e
        joined a b e s v p q r = grind arith

        strict_apart : under parent d c ≡ false → not (d == c) && under parent d c ≡ false
        strict_apart g = right (not (d == c)) (under parent d c) g
          where
            right : (a b : Bool) → b ≡ false → a && b ≡ false
            right true b e = e
            right false b e = refl

    module _ (often : ℕ → ℕ) (nodes : ℕ) where
      abbrev times : ℕ → ℕ
      times l = sum_by (λ c. cond (under parent l c) (often c) 0) (range_with_len 0 nodes)

      abbrev below : ℕ → ℕ
      below n = sum_by (λ d. cond (not (d == n) && under parent d n) (often d * size d) 0) (range_with_len 0 nodes)

      -- the sources under c are covered, each by the nodes above it, as often as c is, and by the nodes under c
      pub meeting : (c : ℕ) → sum_by (λ l. cond (under parent l c) (times l) 0) leaves ≡ size c * times c + below c
      meeting c =
          sum_by-each _ _ (λ l. sym (sum_by-cond (under parent l c) (λ d. cond (under parent l d) (often d) 0) (range_with_len 0 nodes))) leaves
          ∙ sum_by-exchange (λ l d. cond (under parent l c) (cond (under parent l d) (often d) 0) 0) leaves (range_with_len 0 nodes)
          ∙ sum_by-each _ _ (λ d. shared c d (often d)) (range_with_len 0 nodes)
          ∙ sum_by-add (λ d. size c * cond (under parent c d) (often d) 0) (λ d. cond (not (d == c) && under parent d c) (often d * size d) 0) (range_with_len 0 nodes)
          ∙ ap (λ n. n + below c) (sum_by-times (size c) (λ d. cond (under parent c d) (often d) 0) (range_with_len 0 nodes))

-- Nodes whose parents have smaller numbers: what is under a node, and the sums over its children and over the entries on a path.
use Rattle.std.proofs.Common.{◌≡◌, refl, sym, ap, ap₂, ◌∙◌, ℕ, zero, suc, ◌-◌, ◌<◌, ◌≤◌, arith, Bool, true, false, ◌&&◌, ◌||◌, List, get_or}
use Rattle.std.specs.Prelude.{◌==◌, nat_lt}
use Rattle.std.specs.List.{All, filter, range_with_len}
use Rattle.std.proofs.lemmas.Bool.{eq-eqb, ne_eqb, eqb-true, ltb-true, lt-ltb, cases_eq, cases_Bool, and_parts, or_cases, or_right}
use mathlib.Core.Logic.{⊎_elim}
use lib.IntN.{pos}
use Rattle.exact_math.proofs.Ring.{CommutativeRing}
use Rattle.exact_math.proofs.Sums.{sum_list, sum_list-congruence, sum_list-zero, sum_list-add}
use Rattle.soundness.specs.Accounts.{under, under_within}
use Rattle.exact_math.proofs.ListSums.{sum_list-filter, sum_list-congruence_all, sum_list-exchange_lists}
use Rattle.soundness.proofs.Choices.{when, when-zero, when-sum, pick, zero_left}

-- induction: P n from P at all smaller numbers
pub strong : (P : ℕ → Type 0) → ((n : ℕ) → ((m : ℕ) → m < n → P m) → P n) → (n : ℕ) → P n
strong P step n = below (suc n) n (omega arith)
  where
    below : (k n : ℕ) → n < k → P n
    below zero n h = absurd (omega arith)
    below (suc k) n h = step n (λ m l. below k m (omega arith))

module _ (parent : ℕ → ℕ) (root : parent 0 ≡ 0) (parents : (n : ℕ) → 0 < n → parent n < n) where
  parent_le : (n : ℕ) → parent n ≤ n - 1
  parent_le zero = let e = root in omega arith
  parent_le (suc n) = let h = parents (suc n) (omega arith) in omega arith

  absorbed : (a b : Bool) → a ≡ b → a ≡ a || b
  absorbed true b e = refl
  absorbed false b e = e

  absorbs : (a b : Bool) → a ≡ b → a || b ≡ a
  absorbs true b e = refl
  absorbs false b e = sym e

  at_root : (n : ℕ) → n ≤ 0 → n ≡ parent n
  at_root n h = omega (arith, parent_le n)

  -- at the root all steps stay there
  stays : (k n c : ℕ) → n ≤ 0 → under_within k parent n c ≡ (n == c)
  stays zero n c h = refl
  stays (suc k) n c h = absorbs (n == c) _ (ap (λ m. m == c) (at_root n h) ∙ sym (stays k (parent n) c (omega (arith, parent_le n))))

  -- steps beyond the number change nothing
  enough : (k l n c : ℕ) → n ≤ k → n ≤ l → under_within k parent n c ≡ under_within l parent n c
  enough zero zero n c h i = refl
  enough zero (suc l) n c h i = sym (stays (suc l) n c h)
  enough (suc k) zero n c h i = stays (suc k) n c i
  enough (suc k) (suc l) n c h i = ap (λ b. (n == c) || b) (enough k l (parent n) c (omega (arith, parent_le n)) (omega (arith, parent_le n)))

  pub under-root : (c : ℕ) → under parent 0 c ≡ (0 == c)
  unfolding under
  under-root c = refl

  pub under-parent : (n c : ℕ) → 0 < n → under parent n c ≡ (n == c) || under parent (parent n) c
  unfolding under
  under-parent zero c h = absurd (omega arith)
  under-parent (suc n) c h = ap (λ b. (suc n == c) || b) (enough n (parent (suc n)) (parent (suc n)) c (omega (arith, parent_le (suc n))) (omega arith))

  pub under-self : (n : ℕ) → under parent n n ≡ true
  unfolding under
  under-self zero = refl
  under-self (suc n) = ap (λ b. b || under_within n parent (parent (suc n)) (suc n)) (eq-eqb (suc n) (suc n) refl)

  -- what is above has a smaller number
  pub under-le : (n c : ℕ) → under parent n c ≡ true → c ≤ n
  under-le = strong (λ n. (c : ℕ) → under parent n c ≡ true → c ≤ n) step
    where
      step : (n : ℕ) → ((m : ℕ) → m < n → (c : ℕ) → under parent m c ≡ true → c ≤ m) → (c : ℕ) → under parent n c ≡ true → c ≤ n
      step zero ih c h = let e = eqb-true 0 c (sym (under-root c) ∙ h) in omega arith
      step (suc n) ih c h = ⊎_elim
          (λ e. let k = eqb-true (suc n) c e in omega arith)
          (λ e. let k = ih (parent (suc n)) (parents (suc n) (omega arith)) c e in omega (arith, parents (suc n)))
          (or_cases _ _ (sym (under-parent (suc n) c (omega arith)) ∙ h))

  pub under-greater : (n c : ℕ) → n < c → under parent n c ≡ false
  under-greater n c h = ⊎_elim (λ e. absurd (no (under-le n c e))) (λ e. e) (cases_Bool (under parent n c))
    where
      no : c ≤ n → ⊥
      no k = omega arith

  -- what is under a node is under its parent
  pub under-up : (n c : ℕ) → 0 < c → under parent n c ≡ true → under parent n (parent c) ≡ true
  under-up = strong (λ n. (c : ℕ) → 0 < c → under parent n c ≡ true → under parent n (parent c) ≡ true) step
    where
      step : (n : ℕ) → ((m : ℕ) → m < n → (c : ℕ) → 0 < c → under parent m c ≡ true → under parent m (parent c) ≡ true)
          → (c : ℕ) → 0 < c → under parent n c ≡ true → under parent n (parent c) ≡ true
      step zero ih c l h = let e = eqb-true 0 c (sym (under-root c) ∙ h) in absurd (omega arith)
      step (suc n) ih c l h = under-parent (suc n) (parent c) (omega arith) ∙ or_right _ _ (⊎_elim
          (λ e. ap (λ m. under parent (parent (suc n)) (parent m)) (sym (eqb-true (suc n) c e)) ∙ under-self (parent (suc n)))
          (λ e. ih (parent (suc n)) (parents (suc n) (omega arith)) c l e)
          (or_cases _ _ (sym (under-parent (suc n) c (omega arith)) ∙ h)))

  abbrev child : ℕ → ℕ → Bool
  child n d = nat_lt 0 d && (parent d == n)

  module _ (R : CommutativeRing) where
    split : (x : R.carrier) (b u v : Bool) → (u ≡ true → v ≡ false) → when R b (when R (u || v) x) ≡ R.add (when R u (when R b x)) (when R b (when R v x))
    split x b true v h = sym (ap (λ w. R.add (when R b x) (when R b (when R w x))) (h refl) ∙ ap (R.add (when R b x)) (when-zero R b) ∙ R.add_zero _)
    split x b false v h = sym (zero_left R _)

    -- a node other than c is under c where it is under exactly one child of c
    children_one : (nodes : ℕ) (x : R.carrier) (c n : ℕ) → n < nodes → (n ≡ c → ⊥)
        → sum_list R (λ d. when R (child c d) (when R (under parent n d) x)) (range_with_len 0 nodes) ≡ when R (under parent n c) x
    children_one nodes x c = strong (λ n. n < nodes → (n ≡ c → ⊥) → sum_list R (λ d. when R (child c d) (when R (under parent n d) x)) (range_with_len 0 nodes) ≡ when R (under parent n c) x) step
      where
        at_zero : (d : ℕ) → when R (child c d) (when R (under parent 0 d) x) ≡ R.of_int (pos 0)
        at_zero zero = refl
        at_zero (suc d) = ap (λ b. when R (child c (suc d)) (when R b x)) (under-root (suc d) ∙ ne_eqb 0 (suc d) (λ e. omega arith)) ∙ when-zero R _

        below : (d : ℕ) → when R (child c d) (when R (under parent c d) x) ≡ R.of_int (pos 0)
        below d = both (child c d) (under parent c d) (λ e f. no (and_parts (nat_lt 0 d) (parent d == c) e).0 (and_parts (nat_lt 0 d) (parent d == c) e).1 f)
          where
            both : (a b : Bool) → (a ≡ true → b ≡ true → ⊥) → when R a (when R b x) ≡ R.of_int (pos 0)
            both true true h = absurd (h refl refl)
            both true false h = refl
            both false b h = refl

            no : nat_lt 0 d ≡ true → (parent d == c) ≡ true → under parent c d ≡ true → ⊥
            no e f g = let l = parents d (ltb-true 0 d e) in let k = eqb-true _ _ f in let m = under-le c d g in omega arith

        step : (n : ℕ) → ((m : ℕ) → m < n → m < nodes → (m ≡ c → ⊥) → sum_list R (λ d. when R (child c d) (when R (under parent m d) x)) (range_with_len 0 nodes) ≡ when R (under parent m c) x)
            → n < nodes → (n ≡ c → ⊥) → sum_list R (λ d. when R (child c d) (when R (under parent n d) x)) (range_with_len 0 nodes) ≡ when R (under parent n c) x
        step zero ih l ne = sum_list-congruence R _ _ _ at_zero ∙ sum_list-zero R _ ∙ sym (ap (λ b. when R b x) (under-root c ∙ ne_eqb 0 c ne))
        step (suc n) ih l ne =
            sum_list-congruence R _ _ _ (λ d. ap (λ b. when R (child c d) (when R b x)) (under-parent (suc n) d (omega arith)) ∙ split x (child c d) (suc n == d) (under parent (parent (suc n)) d) (λ e. under-greater (parent (suc n)) d (above d (eqb-true _ _ e))))
            ∙ sum_list-add R _ _ _
            ∙ ap₂ R.add (pick R (suc n) 0 nodes (λ d. when R (child c d) x) (omega arith) (omega arith)) refl
            ∙ ⊎_elim here there (cases_eq (parent (suc n)) c)
          where
            above : (d : ℕ) → suc n ≡ d → parent (suc n) < d
            above d e = let h = parents (suc n) (omega arith) in omega arith

            self_child : child c (suc n) ≡ (parent (suc n) == c)
            self_child = ap (λ b. b && (parent (suc n) == c)) (lt-ltb 0 (suc n) (omega arith))

            here : parent (suc n) ≡ c → R.add (when R (child c (suc n)) x) (sum_list R (λ d. when R (child c d) (when R (under parent (parent (suc n)) d) x)) (range_with_len 0 nodes)) ≡ when R (under parent (suc n) c) x
            here e =
                ap₂ R.add (ap (λ b. when R b x) (self_child ∙ eq-eqb _ _ e)) (ap (λ q. sum_list R (λ d. when R (child c d) (when R (under parent q d) x)) (range_with_len 0 nodes)) e ∙ sum_list-congruence R _ _ _ below ∙ sum_list-zero R _)
                ∙ R.add_zero x
                ∙ sym (ap (λ b. when R b x) (under-parent (suc n) c (omega arith) ∙ or_right (suc n == c) _ (ap (λ q. under parent q c) e ∙ under-self c)))

            there : (parent (suc n) ≡ c → ⊥) → R.add (when R (child c (suc n)) x) (sum_list R (λ d. when R (child c d) (when R (under parent (parent (suc n)) d) x)) (range_with_len 0 nodes)) ≡ when R (under parent (suc n) c) x
            there e =
                ap₂ R.add (ap (λ b. when R b x) (self_child ∙ ne_eqb _ _ e)) (ih (parent (suc n)) (parents (suc n) (omega arith)) (omega (arith, parents (suc n))) e)
                ∙ zero_left R _
                ∙ sym (ap (λ b. when R b x) (under-parent (suc n) c (omega arith) ∙ ap (λ b. b || under parent (parent (suc n)) c) (ne_eqb _ _ ne)))

    -- the sources under a node are those under its children, where none is at the node itself
    pub sum-children : {Source : Type 0} (nodes : ℕ) (leaf : Source → ℕ) (f : Source → R.carrier) (sources : List Source) (c : ℕ)
        → All (λ j. (leaf j < nodes) × (leaf j ≡ c → ⊥)) sources
        → sum_list R (λ d. sum_list R f (filter (λ j. under parent (leaf j) d) sources)) (filter (child c) (range_with_len 0 nodes)) ≡ sum_list R f (filter (λ j. under parent (leaf j) c) sources)
    sum-children nodes leaf f sources c placed =
        sum_list-filter R (child c) _ (range_with_len 0 nodes)
        ∙ sum_list-congruence R _ _ _ (λ d. ap (when R (child c d)) (sum_list-filter R _ f sources) ∙ when-sum R (child c d) _ sources)
        ∙ sum_list-exchange_lists R _ _ sources
        ∙ sum_list-congruence_all R _ _ sources (λ k d l. children_one nodes (f (get_or sources k d)) c (leaf (get_or sources k d)) (placed k d l).0 (placed k d l).1)
        ∙ sym (sum_list-filter R _ f sources)

    -- the entries on the path of a node: those on the path of its parent, and those on it
    pub sum-path : {Entry : Type 0} (takes : Entry → Bool) (b : Entry → ℕ) (f : Entry → R.carrier) (entries : List Entry) (n : ℕ) → 0 < n
        → sum_list R f (filter (λ e. takes e && under parent n (b e)) entries)
        ≡ R.add (sum_list R f (filter (λ e. takes e && under parent (parent n) (b e)) entries)) (sum_list R f (filter (λ e. takes e && (n == b e)) entries))
    sum-path {Entry} takes b f entries n positive =
        sum_list-filter R _ f entries
        ∙ sum_list-congruence R _ _ entries one
        ∙ sum_list-add R _ _ entries
        ∙ sym (ap₂ R.add (sum_list-filter R _ f entries) (sum_list-filter R _ f entries))
      where
        cases : (t u v : Bool) (x : R.carrier) → (u ≡ true → v ≡ false) → when R (t && (u || v)) x ≡ R.add (when R (t && v) x) (when R (t && u) x)
        cases false u v x h = sym (R.add_zero _)
        cases true true v x h = sym (ap (λ w. R.add (when R w x) x) (h refl) ∙ zero_left R x)
        cases true false v x h = sym (R.add_zero _)

        apart : (m : ℕ) → (n == m) ≡ true → under parent (parent n) m ≡ false
        apart m e = under-greater (parent n) m (let l = parents n positive in let k = eqb-true n m e in omega arith)

        one : (e : Entry) → when R (takes e && under parent n (b e)) (f e) ≡ R.add (when R (takes e && under parent (parent n) (b e)) (f e)) (when R (takes e && (n == b e)) (f e))
        one e = ap (λ u. when R (takes e && u) (f e)) (under-parent n (b e) positive) ∙ cases (takes e) (n == b e) (under parent (parent n) (b e)) (f e) (apart (b e))

    pub sum-root : {Entry : Type 0} (takes : Entry → Bool) (b : Entry → ℕ) (f : Entry → R.carrier) (entries : List Entry)
        → sum_list R f (filter (λ e. takes e && under parent 0 (b e)) entries) ≡ sum_list R f (filter (λ e. takes e && (0 == b e)) entries)
    sum-root takes b f entries =
        sum_list-filter R _ f entries
        ∙ sum_list-congruence R _ _ entries (λ e. ap (λ u. when R (takes e && u) (f e)) (under-root (b e)))
        ∙ sym (sum_list-filter R _ f entries)

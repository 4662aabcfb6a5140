-- Chosen terms in a commutative ring: x where a test holds and 0 elsewhere, their sums, and one number picked from a range.
use Rattle.std.proofs.Common.{◌≡◌, refl, sym, ap, ap₂, ◌∙◌, ℕ, zero, suc, ◌+◌, ◌<◌, ◌≤◌, arith, Bool, true, false, cond, ◌&&◌, List}
use Rattle.std.specs.Prelude.{◌==◌}
use Rattle.std.specs.List.{All, filter, range_with_len, count_by}
use Rattle.std.proofs.lemmas.List.Sums.{length-filter}
use Rattle.std.proofs.lemmas.Bool.{eq-eqb, ne_eqb, cases_eq}
use mathlib.Core.Logic.{⊎_elim}
use lib.IntN.{pos}
use Rattle.exact_math.proofs.Ring.{CommutativeRing}
use Rattle.exact_math.proofs.Sums.{sum_list, sum_list-congruence, sum_list-zero}
use Rattle.exact_math.proofs.ListSums.{sum_list-filter, sum_list-classes}

module _ (R : CommutativeRing) where
  -- x where b, else 0
  abbrev pub when : Bool → R.carrier → R.carrier
  when b x = cond b x (R.of_int (pos 0))

  pub when-zero : (b : Bool) → when b (R.of_int (pos 0)) ≡ R.of_int (pos 0)
  when-zero true = refl
  when-zero false = refl

  pub when-and : (b c : Bool) (x : R.carrier) → when (b && c) x ≡ when b (when c x)
  when-and true c x = refl
  when-and false c x = refl

  pub zero_left : (x : R.carrier) → R.add (R.of_int (pos 0)) x ≡ x
  zero_left x = R.add_comm _ _ ∙ R.add_zero x

  pub when-sum : {A : Type 0} (b : Bool) (f : A → R.carrier) (xs : List A) → when b (sum_list R f xs) ≡ sum_list R (λ x. when b (f x)) xs
  when-sum true f xs = refl
  when-sum false f xs = sym (sum_list-zero R xs)

  -- the sum over what two tests select, of which the first is the same for all
  pub sum_list-filter_and : {A : Type 0} (b : Bool) (test : A → Bool) (f : A → R.carrier) (xs : List A) → sum_list R f (filter (λ x. b && test x) xs) ≡ when b (sum_list R f (filter test xs))
  sum_list-filter_and b test f xs =
      sum_list-filter R (λ x. b && test x) f xs ∙ sum_list-congruence R _ _ xs (λ x. when-and b (test x) (f x))
      ∙ sym (ap (when b) (sum_list-filter R test f xs) ∙ when-sum b _ xs)

  -- ---- one number of a range
  pick_below : (n a len : ℕ) (f : ℕ → R.carrier) → n < a → sum_list R (λ d. when (n == d) (f d)) (range_with_len a len) ≡ R.of_int (pos 0)
  pick_below n a zero f h = refl
  pick_below n a (suc len) f h =
      ap₂ R.add (ap (λ b. when b (f a)) (ne_eqb n a (λ e. omega arith))) (pick_below n (a + 1) len f (omega arith)) ∙ R.add_zero _

  -- its term alone
  pub pick : (n a len : ℕ) (f : ℕ → R.carrier) → a ≤ n → n < a + len → sum_list R (λ d. when (n == d) (f d)) (range_with_len a len) ≡ f n
  pick n a zero f h k = absurd (omega arith)
  pick n a (suc len) f h k = ⊎_elim
      (λ e. ap₂ R.add (ap (λ b. when b (f a)) (eq-eqb n a e)) (pick_below n (a + 1) len f (omega arith)) ∙ R.add_zero _ ∙ ap f (sym e))
      (λ e. ap₂ R.add (ap (λ b. when b (f a)) (ne_eqb n a e)) (pick n (a + 1) len f (larger e) (omega arith)) ∙ zero_left _)
      (cases_eq n a)
    where
      larger : (n ≡ a → ⊥) → a + 1 ≤ n
      larger e = omega arith

  -- ---- where exactly one class takes each member, the sums over the classes of what they take make the sum over all members
  pub sum_list-once : {Member Class : Type 0} (takes : Member → Class → Bool) (f : Member → R.carrier) (members : List Member) (classes : List Class)
      → All (λ x. count_by (takes x) classes ≡ 1) members
      → sum_list R f members ≡ sum_list R (λ c. sum_list R f (filter (λ x. takes x c) members)) classes
  sum_list-once takes f members classes once = sum_list-classes R (λ c x. takes x c) classes f members (λ k d l. length-filter _ classes ∙ once k d l)

-- Statements of which one can tell whether they hold.
use Rattle.std.proofs.Common.{ℕ, zero, suc, ◌≡◌, ◌<◌, ◌≤◌, ◌⊎◌, inl, inr, Bool, true, false, List, [], ◌∷◌, refl, sym, subst, arith}
use Rattle.std.specs.Prelude.{ℤ, pos, negsuc, ◌≤ℤ◌, ◌<ℤ◌, All}
use Rattle.std.proofs.lemmas.Bool.{cases_lt, true≢false}
use Rattle.std.proofs.lemmas.Int.{ints}
use Rattle.std.proofs.lemmas.List.Elements.{All-nil, All-cons, All-head, All-tail}

abbrev pub Decided : Type 0 → Type 0
Decided A = A ⊎ (A → ⊥)

-- ---- statements of statements
pub same : {A B : Type 0} → (A → B) → (B → A) → Decided A → Decided B
same to from (inl a) = inl (to a)
same to from (inr never) = inr (λ b. never (from b))

pub both : {A B : Type 0} → Decided A → Decided B → Decided (A × B)
both (inl a) (inl b) = inl (a, b)
both (inl a) (inr never) = inr (λ h. never h.1)
both (inr never) d = inr (λ h. never h.0)

pub either : {A B : Type 0} → Decided A → Decided B → Decided (A ⊎ B)
either (inl a) d = inl (inl a)
either (inr never) (inl b) = inl (inr b)
either {A} {B} (inr never) (inr none) = inr neither
  where
    neither : A ⊎ B → ⊥
    neither (inl a) = never a
    neither (inr b) = none b

pub implied : {A B : Type 0} → Decided A → Decided B → Decided (A → B)
implied (inr never) d = inl (λ a. absurd (never a))
implied (inl a) (inl b) = inl (λ a. b)
implied (inl a) (inr never) = inr (λ f. never (f a))

-- ---- numbers
pub is_less : (a b : ℕ) → Decided (a < b)
is_less a b = elim (cases_lt a b) [ inl lt ↦ inl lt | inr le ↦ inr (λ lt. absurd (omega (arith, lt, le))) ]

pub is_most : (a b : ℕ) → Decided (a ≤ b)
is_most a b = elim (cases_lt b a) [ inl lt ↦ inr (λ le. absurd (omega (arith, lt, le))) | inr le ↦ inl le ]

pub is_equal : (a b : ℕ) → Decided (a ≡ b)
is_equal a b = elim (cases_lt a b) [
  | inl lt ↦ inr (λ e. absurd (omega (arith, lt, e)))
  | inr le ↦ elim (cases_lt b a) [ inl lt ↦ inr (λ e. absurd (omega (arith, lt, e))) | inr ge ↦ inl (omega (arith, le, ge)) ]
]

pub is_most_int : (a b : ℤ) → Decided (a ≤ℤ b)
is_most_int (pos a) (pos b) = elim (cases_lt b a) [ inl lt ↦ inr (λ le. absurd (omega (arith, ints, lt, le))) | inr le ↦ inl (omega (arith, ints, le)) ]
is_most_int (pos a) (negsuc b) = inr (λ le. absurd (omega (arith, ints, le)))
is_most_int (negsuc a) (pos b) = inl (omega (arith, ints))
is_most_int (negsuc a) (negsuc b) = elim (cases_lt a b) [ inl lt ↦ inr (λ le. absurd (omega (arith, ints, lt, le))) | inr le ↦ inl (omega (arith, ints, le)) ]

pub is_less_int : (a b : ℤ) → Decided (a <ℤ b)
is_less_int a b = elim (is_most_int b a) [ inl le ↦ inr (λ lt. absurd (omega (arith, ints, lt, le))) | inr never ↦ inl (less a b never) ]
  where
    less : (a b : ℤ) → (b ≤ℤ a → ⊥) → a <ℤ b
    less (pos a) (pos b) never = elim (cases_lt a b) [ inl lt ↦ omega (arith, ints, lt) | inr le ↦ absurd (never (omega (arith, ints, le))) ]
    less (pos a) (negsuc b) never = absurd (never (omega (arith, ints)))
    less (negsuc a) (pos b) never = omega (arith, ints)
    less (negsuc a) (negsuc b) never = elim (cases_lt b a) [ inl lt ↦ omega (arith, ints, lt) | inr le ↦ absurd (never (omega (arith, ints, le))) ]

pub is_true : (b : Bool) → Decided (b ≡ true)
is_true true = inl refl
is_true false = inr (λ e. true≢false (sym e))

pub is_false : (b : Bool) → Decided (b ≡ false)
is_false true = inr true≢false
is_false false = inl refl

-- ---- many
pub of_all : {X : Type 0} (P : X → Type 0) → ((x : X) → Decided (P x)) → (xs : List X) → Decided (All P xs)
of_all P d [] = inl (All-nil P)
of_all P d (x ∷ xs) = same (λ h. All-cons P x xs h.0 h.1) (λ h. (All-head P x xs h, All-tail P x xs h)) (both (d x) (of_all P d xs))

-- the least number below n of which P fails, if there is one
pub record IsFirst (P : ℕ → Type 0) (n k : ℕ) : Type 0 where
  pub below : k < n
  pub fails : P k → ⊥
  pub before : (j : ℕ) → j < k → P j

pub first_below : (P : ℕ → Type 0) → ((k : ℕ) → Decided (P k)) → (n : ℕ) → ((k : ℕ) → k < n → P k) ⊎ ((k : ℕ) × IsFirst P n k)
first_below P d zero = inl (λ k lt. absurd (omega (arith, lt)))
first_below P d (suc n) = elim (first_below P d n) [
  | inr found ↦ inr (found.0, record { below = omega (arith, found.1.below); fails = found.1.fails; before = found.1.before })
  | inl all ↦ elim (d n) [ inl h ↦ inl (one_more all h) | inr never ↦ inr (n, record { below = omega arith; fails = never; before = all }) ]
]
  where
    one_more : ((k : ℕ) → k < n → P k) → P n → (k : ℕ) → k < suc n → P k
    one_more all h k lt = elim (cases_lt k n) [ inl less ↦ all k less | inr le ↦ let e : n ≡ k = omega (arith, lt, le) in subst P e h ]

pub of_below : (P : ℕ → Type 0) → ((k : ℕ) → Decided (P k)) → (n : ℕ) → Decided ((k : ℕ) → k < n → P k)
of_below P d n = elim (first_below P d n) [ inl all ↦ inl all | inr found ↦ inr (λ all. found.1.fails (all found.0 found.1.below)) ]

-- Members of lists, of their images and of what filters keep.
use Rattle.std.proofs.Common.{ℕ, ◌≡◌, ◌≢◌, zero, suc, List, [], ◌∷◌, ◌++◌, Bool, true, false, cond, filter, refl, sym, ap, ◌∙◌, arith, append-nil}
use Rattle.std.specs.Prelude.{All, AllPairs, Contains, count_by}
use Rattle.std.specs.List.{flat_map, list_any}
use Rattle.std.proofs.lemmas.Bool.{false≢true, or_cases, cases_Bool}
use Rattle.std.proofs.lemmas.List.Elements.{All-tail, filter-append}
use Rattle.std.proofs.lemmas.List.Folds.{list_any_at}
use Rattle.std.proofs.lemmas.List.Sums.{sum_by-cons}
use mathlib.Core.Logic.{⊎_elim}
use Rattle.exact_math.proofs.Lists.{All-from_members, later, first_differs, rest_differ}

-- where only one piece has something that passes
pieces_none : {X A : Type 0} (p : A → Bool) (f : X → List A) (xs : List X) → ((y : X) → Contains xs y → filter p (f y) ≡ []) → filter p (flat_map f xs) ≡ []
pieces_none p f [] h = refl
pieces_none p f (y ∷ ys) h = filter-append p (f y) (flat_map f ys) ∙ ap (λ l. l ++ filter p (flat_map f ys)) (h y (0, omega arith, refl)) ∙ pieces_none p f ys (λ z m. h z (later y z ys m))

pub filter_piece : {X A : Type 0} (p : A → Bool) (f : X → List A) (xs : List X) (x : X) → AllPairs (λ a b. a ≢ b) xs → Contains xs x → ((y : X) → Contains xs y → y ≢ x → filter p (f y) ≡ []) → filter p (flat_map f xs) ≡ filter p (f x)
filter_piece p f [] x apart h none = absurd (omega (arith, h.1))
filter_piece p f (y ∷ ys) x apart (zero, lt, e) none =
    filter-append p (f y) (flat_map f ys)
    ∙ ap (λ l. filter p (f y) ++ l) (pieces_none p f ys (λ z m. none z (later y z ys m) (λ same. first_differs y z ys apart m (e ∙ sym same))))
    ∙ append-nil (filter p (f y))
    ∙ ap (λ z. filter p (f z)) e
filter_piece p f (y ∷ ys) x apart (suc k, lt, e) none =
    filter-append p (f y) (flat_map f ys)
    ∙ ap (λ l. l ++ filter p (flat_map f ys)) (none y (0, omega arith, refl) (λ same. first_differs y x ys apart (k, omega arith, e) same))
    ∙ filter_piece p f ys x (rest_differ (λ a b. a ≢ b) y ys apart) (k, omega arith, e) (λ z m. none z (later y z ys m))

-- ---- tests of some member
pub record Found {X : Type 0} (p : X → Bool) (xs : List X) : Type 0 where
  pub member : X
  pub listed : Contains xs member
  pub passes : p member ≡ true

pub found : {X : Type 0} (p : X → Bool) (xs : List X) → list_any p xs ≡ true → Found p xs
found p [] e = absurd (false≢true e)
found p (x ∷ xs) e = ⊎_elim
    (λ t. record { member = x; listed = (0, omega arith, refl); passes = t })
    (λ t. let r = found p xs t in record { member = r.member; listed = later x r.member xs r.listed; passes = r.passes })
    (or_cases (p x) (list_any p xs) e)

pub list_any-member : {X : Type 0} (p : X → Bool) (xs : List X) (x : X) → Contains xs x → p x ≡ true → list_any p xs ≡ true
list_any-member p xs x h t = list_any_at p xs h.0 x h.1 (ap p h.2 ∙ t)

pub none_passes : {X : Type 0} (p : X → Bool) (xs : List X) → list_any p xs ≡ false → All (λ x. p x ≡ false) xs
none_passes p xs e = All-from_members (λ x. p x ≡ false) xs (λ x h. ⊎_elim (λ t. absurd (false≢true (sym e ∙ list_any-member p xs x h t))) (λ f. f) (cases_Bool (p x)))

-- ---- counts
count_none : {X : Type 0} (p : X → Bool) (xs : List X) → All (λ x. p x ≡ false) xs → count_by p xs ≡ 0
count_none p [] h = refl
count_none p (x ∷ xs) h =
    let none : cond {A = ℕ} (p x) 1 0 ≡ 0 = ap (λ (b : Bool). cond {A = ℕ} b 1 0) (h 0 x (omega arith)) in
    omega (arith, none, sum_by-cons (λ z. cond (p z) 1 0) x xs, count_none p xs (All-tail (λ x. p x ≡ false) x xs h))

-- one member passes, and the list has it once
pub count_one : {X : Type 0} (p : X → Bool) (xs : List X) (x : X) → AllPairs (λ a b. a ≢ b) xs → Contains xs x → p x ≡ true → ((y : X) → Contains xs y → p y ≡ true → y ≡ x) → count_by p xs ≡ 1
count_one p [] x apart h t only = absurd (omega (arith, h.1))
count_one p (y ∷ ys) x apart (zero, lt, e) t only =
    let one : cond {A = ℕ} (p y) 1 0 ≡ 1 = ap (λ (b : Bool). cond {A = ℕ} b 1 0) (ap p e ∙ t) in
    let none = count_none p ys (All-from_members (λ z. p z ≡ false) ys (λ z m. ⊎_elim (λ u. absurd (first_differs y z ys apart m (e ∙ sym (only z (later y z ys m) u)))) (λ f. f) (cases_Bool (p z)))) in
    omega (arith, one, none, sum_by-cons (λ z. cond (p z) 1 0) y ys)
count_one p (y ∷ ys) x apart (suc k, lt, e) t only =
    let fails : p y ≡ false = ⊎_elim (λ u. absurd (first_differs y x ys apart (k, omega arith, e) (only y (0, omega arith, refl) u))) (λ f. f) (cases_Bool (p y)) in
    let none : cond {A = ℕ} (p y) 1 0 ≡ 0 = ap (λ (b : Bool). cond {A = ℕ} b 1 0) fails in
    omega (arith, none, sum_by-cons (λ z. cond (p z) 1 0) y ys, count_one p ys x (rest_differ (λ a b. a ≢ b) y ys apart) (k, omega arith, e) t (λ z m. only z (later y z ys m)))

-- Sums of boxes and of numbers over lists.
use Rattle.std.proofs.Common.{ℕ, ◌≡◌, ◌+◌, List, [], ◌∷◌, map, Bool, true, false, cond, filter, refl, sym, ap, ap₂, ◌∙◌, arith}
use Rattle.std.specs.Prelude.{All, Contains, fold, sum_by}
use Rattle.std.proofs.lemmas.Bool.{false≢true}
use Rattle.std.proofs.lemmas.List.Elements.{All-tail}
use Rattle.std.proofs.lemmas.List.Folds.{fold-map}
use Rattle.std.proofs.lemmas.List.Sums.{sum_by-cons}
use Rattle.exact_math.specs.Ends.{BoxEnds, zero_box, add_box}
use Rattle.complex_box.proofs.ZeroBoxes.{zero_right}
use Rattle.soundness.specs.Computed.{total_box}
use Rattle.exact_math.proofs.Lists.{later}

pub total_box-map : {A B : Type 0} (g : B → BoxEnds) (f : A → B) (xs : List A) → total_box g (map f xs) ≡ total_box (λ x. g (f x)) xs
total_box-map g f xs = fold-map (λ b y. add_box b (g y)) f zero_box xs

added_same : {A : Type 0} (f g : A → BoxEnds) (b : BoxEnds) (xs : List A) → All (λ x. f x ≡ g x) xs → fold (λ b x. add_box b (f x)) b xs ≡ fold (λ b x. add_box b (g x)) b xs
added_same f g b [] h = refl
added_same f g b (x ∷ xs) h =
    ap (λ y. fold (λ b x. add_box b (f x)) (add_box b y) xs) (h 0 x (omega arith)) ∙ added_same f g (add_box b (g x)) xs (All-tail (λ x. f x ≡ g x) x xs h)

pub total_box-same : {A : Type 0} (f g : A → BoxEnds) (xs : List A) → All (λ x. f x ≡ g x) xs → total_box f xs ≡ total_box g xs
total_box-same f g xs h = added_same f g zero_box xs h

-- what only the first test keeps adds nothing
pub total_box-fewer : {A : Type 0} (f : A → BoxEnds) (p q : A → Bool) (xs : List A) → ((x : A) → Contains xs x → q x ≡ true → p x ≡ true) → ((x : A) → Contains xs x → p x ≡ true → q x ≡ false → f x ≡ zero_box)
    → total_box f (filter p xs) ≡ total_box f (filter q xs)
total_box-fewer {A} f p q xs also nothing = go zero_box xs also nothing
  where
    go : (b : BoxEnds) (xs : List A) → ((x : A) → Contains xs x → q x ≡ true → p x ≡ true) → ((x : A) → Contains xs x → p x ≡ true → q x ≡ false → f x ≡ zero_box)
        → fold (λ b x. add_box b (f x)) b (filter p xs) ≡ fold (λ b x. add_box b (f x)) b (filter q xs)
    go b [] also nothing = refl
    go b (x ∷ xs) also nothing = step (p x) (q x) (also x (0, omega arith, refl)) (nothing x (0, omega arith, refl)) (λ b. go b xs (λ y h. also y (later x y xs h)) (λ y h. nothing y (later x y xs h)))
      where
        step : (u v : Bool) → (v ≡ true → u ≡ true) → (u ≡ true → v ≡ false → f x ≡ zero_box)
            → ((b : BoxEnds) → fold (λ b x. add_box b (f x)) b (filter p xs) ≡ fold (λ b x. add_box b (f x)) b (filter q xs))
            → fold (λ b x. add_box b (f x)) b (cond u (x ∷ filter p xs) (filter p xs)) ≡ fold (λ b x. add_box b (f x)) b (cond v (x ∷ filter q xs) (filter q xs))
        step true true s t ih = ih (add_box b (f x))
        step true false s t ih = ap (λ y. fold (λ b x. add_box b (f x)) (add_box b y) (filter p xs)) (t refl refl) ∙ ap (λ y. fold (λ b x. add_box b (f x)) y (filter p xs)) (zero_right b) ∙ ih b
        step false true s t ih = absurd (false≢true (s refl))
        step false false s t ih = ih b

pub sum_by-map : {A B : Type 0} (g : B → ℕ) (f : A → B) (xs : List A) → sum_by g (map f xs) ≡ sum_by (λ x. g (f x)) xs
sum_by-map g f xs = fold-map (λ n y. n + g y) f 0 xs

pub sum_by-same : {A : Type 0} (f g : A → ℕ) (xs : List A) → All (λ x. f x ≡ g x) xs → sum_by f xs ≡ sum_by g xs
sum_by-same f g [] h = refl
sum_by-same f g (x ∷ xs) h = sum_by-cons f x xs ∙ ap₂ (λ m n. m + n) (h 0 x (omega arith)) (sum_by-same f g xs (All-tail (λ x. f x ≡ g x) x xs h)) ∙ sym (sum_by-cons g x xs)

pub sum_by-add : {A : Type 0} (f g : A → ℕ) (xs : List A) → sum_by (λ x. f x + g x) xs ≡ sum_by f xs + sum_by g xs
sum_by-add f g [] = refl
sum_by-add f g (x ∷ xs) = omega (arith, sum_by-cons (λ y. f y + g y) x xs, sum_by-cons f x xs, sum_by-cons g x xs, sum_by-add f g xs)

-- Sums in which only what passes a test counts.
use Rattle.std.proofs.Common.{ℕ, ◌≡◌, ◌+◌, ◌<◌, List, [], ◌∷◌, length, take, get_or, Bool, true, false, cond, filter, refl, sym, ap, ◌∙◌, arith}
use Rattle.std.specs.Prelude.{fold, sum_by}
use Rattle.std.proofs.lemmas.List.Sums.{fold_more, sum_by-cons}
use Rattle.exact_math.specs.Ends.{BoxEnds, zero_box, add_box}
use Rattle.complex_box.proofs.ZeroBoxes.{zero_right}
use Rattle.soundness.specs.Computed.{total_box}

added_where : {A : Type 0} (p : A → Bool) (f : A → BoxEnds) (b : BoxEnds) (xs : List A)
    → fold (λ b x. add_box b (cond (p x) (f x) zero_box)) b xs ≡ fold (λ b x. add_box b (f x)) b (filter p xs)
added_where p f b [] = refl
added_where {A} p f b (x ∷ xs) = step (p x) (λ b. added_where p f b xs)
  where
    step : (u : Bool) → ((b : BoxEnds) → fold (λ b x. add_box b (cond (p x) (f x) zero_box)) b xs ≡ fold (λ b x. add_box b (f x)) b (filter p xs))
        → fold (λ b x. add_box b (cond (p x) (f x) zero_box)) (add_box b (cond u (f x) zero_box)) xs ≡ fold (λ b x. add_box b (f x)) b (cond u (x ∷ filter p xs) (filter p xs))
    step true ih = ih (add_box b (f x))
    step false ih = ap (λ s. fold (λ b x. add_box b (cond (p x) (f x) zero_box)) s xs) (zero_right b) ∙ ih b

pub total_box-where : {A : Type 0} (p : A → Bool) (f : A → BoxEnds) (xs : List A) → total_box (λ x. cond (p x) (f x) zero_box) xs ≡ total_box f (filter p xs)
total_box-where p f xs = added_where p f zero_box xs

pub sum_by-where : {A : Type 0} (p : A → Bool) (f : A → ℕ) (xs : List A) → sum_by (λ x. cond (p x) (f x) 0) xs ≡ sum_by f (filter p xs)
sum_by-where p f [] = refl
sum_by-where {A} p f (x ∷ xs) = sum_by-cons (λ y. cond (p y) (f y) 0) x xs ∙ step (p x) (filter p xs) (sum_by-where p f xs)
  where
    step : (b : Bool) (kept : List A) {n : ℕ} → n ≡ sum_by f kept → cond b (f x) 0 + n ≡ sum_by f (cond b (x ∷ kept) kept)
    step true kept e = ap (λ m. f x + m) e ∙ sym (sum_by-cons f x kept)
    step false kept e = omega (arith, e)

-- one member of a list more
pub total-step : {A : Type 0} (f : A → BoxEnds) (xs : List A) (i : ℕ) (d : A) → i < length xs → {s e : BoxEnds} → s ≡ total_box f (take i xs) → e ≡ add_box s (f (get_or xs i d)) → e ≡ total_box f (take (i + 1) xs)
total-step f xs i d lt a b = b ∙ ap (λ s. add_box s (f (get_or xs i d))) a ∙ sym (fold_more (λ s y. add_box s (f y)) zero_box xs i d lt)

-- Sums of rows over lists, one member more at a time.
use Rattle.std.proofs.Common.{ℕ, ◌+◌, ◌<◌, ◌≡◌, Bool, true, false, cond, List, [], ◌∷◌, length, get_or, take, filter, refl, sym, ap, ◌∙◌, arith, ℤ, ◌+ℤ◌}
use Rattle.std.specs.Prelude.{fold, sum_by}
use Rattle.std.proofs.lemmas.Int.{ints}
use Rattle.std.proofs.lemmas.List.Sums.{fold_more, sum_by-cons}
use Rattle.exact_math.specs.Ends.{BoxEnds, zero_box, add_box}
use Rattle.complex_box.proofs.ZeroBoxes.{zero_right}
use Rattle.row_recursions.specs.Rows.{RowsAdd}
use Rattle.soundness.specs.Steps.{total_box, total_row}

pub add_box-assoc : (a b c : BoxEnds) → add_box (add_box a b) c ≡ add_box a (add_box b c)
add_box-assoc a b c = λ i. record {
  re = record { lo = whole a.re.lo b.re.lo c.re.lo i; hi = whole a.re.hi b.re.hi c.re.hi i };
  im = record { lo = whole a.im.lo b.im.lo c.im.lo i; hi = whole a.im.hi b.im.hi c.im.hi i };
}
  where
    whole : (x y z : ℤ) → (x +ℤ y) +ℤ z ≡ x +ℤ (y +ℤ z)
    whole x y z = omega (arith, ints)

-- nothing was added yet
pub none_added : {A : Type 0} (P : ℕ) (f : A → ℕ → BoxEnds) (xs : List A) (start : ℕ → BoxEnds) → RowsAdd P start (total_row f (take 0 xs)) start
none_added P f xs start k h = sym (zero_right (start k))

-- one more
pub one_added : {A : Type 0} (P : ℕ) (f : A → ℕ → BoxEnds) (xs : List A) (i : ℕ) (d : A) (start old new : ℕ → BoxEnds) → i < length xs
    → RowsAdd P start (total_row f (take i xs)) old → RowsAdd P old (f (get_or xs i d)) new → RowsAdd P start (total_row f (take (i + 1) xs)) new
one_added P f xs i d start old new lt was adds k h =
    adds k h ∙ ap (λ b. add_box b (f (get_or xs i d) k)) (was k h) ∙ add_box-assoc (start k) _ _
    ∙ ap (add_box (start k)) (sym (fold_more (λ b x. add_box b (f x k)) zero_box xs i d lt))

-- a sum from zero on, one more
pub total_more : {A : Type 0} (f : A → ℕ → BoxEnds) (xs : List A) (i : ℕ) (d : A) (k : ℕ) (old new : BoxEnds) → i < length xs
    → total_row f (take i xs) k ≡ old → new ≡ add_box old (f (get_or xs i d) k) → total_row f (take (i + 1) xs) k ≡ new
total_more f xs i d k old new lt was e = fold_more (λ b x. add_box b (f x k)) zero_box xs i d lt ∙ ap (λ b. add_box b (f (get_or xs i d) k)) was ∙ sym e

-- what a test leaves out adds nothing
pub total_box-kept : {A : Type 0} (p : A → Bool) (f : A → BoxEnds) (xs : List A) → total_box (λ x. cond (p x) (f x) zero_box) xs ≡ total_box f (filter p xs)
total_box-kept {A} p f xs = from zero_box xs
  where
    one : (v : Bool) (b : BoxEnds) (x : A) (xs : List A)
        → ((b : BoxEnds) → fold (λ b x. add_box b (cond (p x) (f x) zero_box)) b xs ≡ fold (λ b x. add_box b (f x)) b (filter p xs))
        → fold (λ b x. add_box b (cond (p x) (f x) zero_box)) (add_box b (cond v (f x) zero_box)) xs ≡ fold (λ b x. add_box b (f x)) b (cond v (x ∷ filter p xs) (filter p xs))
    one true b x xs rest = rest (add_box b (f x))
    one false b x xs rest = ap (λ y. fold (λ b x. add_box b (cond (p x) (f x) zero_box)) y xs) (zero_right b) ∙ rest b

    from : (b : BoxEnds) (xs : List A) → fold (λ b x. add_box b (cond (p x) (f x) zero_box)) b xs ≡ fold (λ b x. add_box b (f x)) b (filter p xs)
    from b [] = refl
    from b (x ∷ xs) = one (p x) b x xs (λ b. from b xs)

pub sum_by-kept : {A : Type 0} (p : A → Bool) (f : A → ℕ) (xs : List A) → sum_by (λ x. cond (p x) (f x) 0) xs ≡ sum_by f (filter p xs)
sum_by-kept p f [] = refl
sum_by-kept {A} p f (x ∷ xs) = sum_by-cons (λ x. cond (p x) (f x) 0) x xs ∙ one (p x) (sum_by-kept p f xs)
  where
    one : (v : Bool) → sum_by (λ x. cond (p x) (f x) 0) xs ≡ sum_by f (filter p xs) → cond v (f x) 0 + sum_by (λ x. cond (p x) (f x) 0) xs ≡ sum_by f (cond v (x ∷ filter p xs) (filter p xs))
    one true e = ap (λ n. f x + n) e ∙ sym (sum_by-cons f x (filter p xs))
    one false e = omega (arith, e)

pub sum_by-both : {A : Type 0} (f g : A → ℕ) (xs : List A) → sum_by (λ x. f x + g x) xs ≡ sum_by f xs + sum_by g xs
sum_by-both f g [] = refl
sum_by-both f g (x ∷ xs) = omega (arith, sum_by-both f g xs, sum_by-cons (λ x. f x + g x) x xs, sum_by-cons f x xs, sum_by-cons g x xs)

-- How large sums of boxes and of rows are.
use Rattle.std.proofs.Common.{ℕ, ◌≡◌, ◌+◌, ◌*◌, ◌≤◌, List, [], ◌∷◌, ap, ◌∙◌, arith}
use Rattle.std.specs.Prelude.{All, fold, sum_by}
use Rattle.std.proofs.lemmas.List.Elements.{All-tail}
use Rattle.std.proofs.lemmas.List.Sums.{sum_by-cons}
use Rattle.exact_math.specs.Ends.{BoxEnds, BoxEndsWithin, zero_box, add_box}
use Rattle.complex_box.proofs.Sizes.{box_wider, add_box_within, zero_within}
use Rattle.row_recursions.specs.Sizes.{RowWithin}
use Rattle.soundness.specs.Computed.{total_box, total_row}

-- from a box on
sum_within : {A : Type 0} (f : A → BoxEnds) (w : A → ℕ) (n : ℕ) (b : BoxEnds) (xs : List A) → BoxEndsWithin n b → All (λ x. BoxEndsWithin (w x) (f x)) xs → BoxEndsWithin (n + sum_by w xs) (fold (λ b x. add_box b (f x)) b xs)
sum_within f w n b [] h each = box_wider n (n + 0) b (omega arith) h
sum_within f w n b (x ∷ xs) h each =
    box_wider (n + w x + sum_by w xs) (n + sum_by w (x ∷ xs)) _ (omega (arith, sum_by-cons w x xs))
    (sum_within f w (n + w x) (add_box b (f x)) xs (add_box_within n (w x) b (f x) h (each 0 x (omega arith))) (All-tail (λ x. BoxEndsWithin (w x) (f x)) x xs each))

pub total_box-within : {A : Type 0} (f : A → BoxEnds) (w : A → ℕ) (xs : List A) → All (λ x. BoxEndsWithin (w x) (f x)) xs → BoxEndsWithin (sum_by w xs) (total_box f xs)
total_box-within f w xs each = box_wider (0 + sum_by w xs) (sum_by w xs) (total_box f xs) (omega arith) (sum_within f w 0 zero_box xs (zero_within 0) each)

pub total_row-within : {A : Type 0} (P : ℕ) (f : A → ℕ → BoxEnds) (w : A → ℕ) (xs : List A) → All (λ x. RowWithin P (w x) (f x)) xs → RowWithin P (sum_by w xs) (total_row f xs)
total_row-within P f w xs each k h = total_box-within (λ x. f x k) w xs (λ i d lt. each i d lt k h)

pub wider : (P m n : ℕ) (f : ℕ → BoxEnds) → m ≤ n → RowWithin P m f → RowWithin P n f
wider P m n f le h k lt = box_wider m n (f k) le (h k lt)

-- a multiple of each is the multiple of the sum
pub sum_by-times : {A : Type 0} (c : ℕ) (w : A → ℕ) (xs : List A) → sum_by (λ x. c * w x) xs ≡ c * sum_by w xs
sum_by-times c w [] = omega arith
sum_by-times c w (x ∷ xs) = sum_by-cons (λ x. c * w x) x xs ∙ omega (arith, sum_by-times c w xs, ap (λ n. c * n) (sum_by-cons w x xs))

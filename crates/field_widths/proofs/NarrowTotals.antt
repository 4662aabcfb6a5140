-- How wide sums of boxes and of rows are.
use Rattle.std.proofs.Common.{ℕ, ◌+◌, ◌≤◌, List, [], ◌∷◌, arith}
use Rattle.std.specs.Prelude.{All, fold, sum_by}
use Rattle.std.proofs.lemmas.List.Elements.{All-tail}
use Rattle.std.proofs.lemmas.List.Sums.{sum_by-cons}
use Rattle.exact_math.specs.Ends.{BoxEnds, BoxEndsNarrow, zero_box, add_box}
use Rattle.exact_math.proofs.Widths.{narrow-box, narrow-zero_box, narrow-add_box}
use Rattle.row_recursions.specs.Widths.{RowNarrow}
use Rattle.soundness.specs.Computed.{total_box, total_row}

-- from a box on
sum_narrow : {A : Type 0} (f : A → BoxEnds) (w : A → ℕ) (n : ℕ) (b : BoxEnds) (xs : List A) → BoxEndsNarrow n b → All (λ x. BoxEndsNarrow (w x) (f x)) xs → BoxEndsNarrow (n + sum_by w xs) (fold (λ b x. add_box b (f x)) b xs)
sum_narrow f w n b [] h each = narrow-box (omega arith) h
sum_narrow f w n b (x ∷ xs) h each =
    narrow-box (omega (arith, sum_by-cons w x xs))
    (sum_narrow f w (n + w x) (add_box b (f x)) xs (narrow-add_box h (each 0 x (omega arith))) (All-tail (λ x. BoxEndsNarrow (w x) (f x)) x xs each))

pub total_box-narrow : {A : Type 0} (f : A → BoxEnds) (w : A → ℕ) (xs : List A) → All (λ x. BoxEndsNarrow (w x) (f x)) xs → BoxEndsNarrow (sum_by w xs) (total_box f xs)
total_box-narrow f w xs each = narrow-box (omega arith) (sum_narrow f w 0 zero_box xs (narrow-zero_box 0) each)

pub total_row-narrow : {A : Type 0} (P : ℕ) (f : A → ℕ → BoxEnds) (w : A → ℕ) (xs : List A) → All (λ x. RowNarrow P (w x) (f x)) xs → RowNarrow P (sum_by w xs) (total_row f xs)
total_row-narrow P f w xs each k h = total_box-narrow (λ x. f x k) w xs (λ i d lt. each i d lt k h)

-- a row that is at most m wide is at most n wide
pub row-narrower : (P m n : ℕ) (f : ℕ → BoxEnds) → m ≤ n → RowNarrow P m f → RowNarrow P n f
row-narrower P m n f le h k lt = narrow-box le (h k lt)

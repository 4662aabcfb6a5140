-- Sums of rows over lists, one member more at a time.
use Rattle.std.proofs.Common.{ℕ, ◌+◌, ◌<◌, ◌≡◌, List, length, get_or, take, sym, ap, ◌∙◌, arith, ℤ, ◌+ℤ◌}
use Rattle.std.proofs.lemmas.Int.{ints}
use Rattle.std.proofs.lemmas.List.Sums.{fold_more}
use Rattle.exact_math.specs.Ends.{BoxEnds, zero_box, add_box}
use Rattle.complex_box.proofs.ZeroBoxes.{zero_right}
use Rattle.row_recursions.specs.Rows.{RowsAdd}
use Rattle.soundness.specs.Computed.{total_row}

pub add_box-assoc : (a b c : BoxEnds) → add_box (add_box a b) c ≡ add_box a (add_box b c)
add_box-assoc a b c = λ i. record {
  re = record { lo = whole a.re.lo b.re.lo c.re.lo i; hi = whole a.re.hi b.re.hi c.re.hi i };
  im = record { lo = whole a.im.lo b.im.lo c.im.lo i; hi = whole a.im.hi b.im.hi c.im.hi i };
}
  where
    whole : (x y z : ℤ) → (x +ℤ y) +ℤ z ≡ x +ℤ (y +ℤ z)
    whole x y z = omega (arith, ints)

-- nothing was added yet
pub none_added : {A : Type 0} (P : ℕ) (f : A → ℕ → BoxEnds) (xs : List A) (start : ℕ → BoxEnds) → RowsAdd P start (total_row f (take 0 xs)) start
none_added P f xs start k h = sym (zero_right (start k))

-- one more
pub one_added : {A : Type 0} (P : ℕ) (f : A → ℕ → BoxEnds) (xs : List A) (i : ℕ) (d : A) (start old new : ℕ → BoxEnds) → i < length xs
    → RowsAdd P start (total_row f (take i xs)) old → RowsAdd P old (f (get_or xs i d)) new → RowsAdd P start (total_row f (take (i + 1) xs)) new
one_added P f xs i d start old new lt was adds k h =
    adds k h ∙ ap (λ b. add_box b (f (get_or xs i d) k)) (was k h) ∙ add_box-assoc (start k) _ _
    ∙ ap (add_box (start k)) (sym (fold_more (λ b x. add_box b (f x k)) zero_box xs i d lt))

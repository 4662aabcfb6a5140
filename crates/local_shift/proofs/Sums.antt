-- What a row holds to which a shifted row was added, and how large it is.
use Rattle.std.proofs.Common.{◌≡◌, sym, ap, ◌∙◌, subst, ℕ, ◌+◌, ◌^◌, ◌<◌, List, length, arith, pos, All}
use Rattle.std.proofs.lemmas.Int.{ints}
use Rattle.exact_math.specs.Ends.{BoxEnds, BoxEndsWithin, zero_box, add_box, quot_box}
use Rattle.exact_math.specs.Gaussian.{add_gaussian, scale_gaussian}
use Rattle.exact_math.specs.Ratio.{◌+ᶜ◌}
use Rattle.complex_box.specs.Rows.{zero_cbox, IsZero}
use Rattle.complex_box.specs.declared.CBox.{CBox}
use Rattle.complex_box.proofs.Sizes.{box_wider, add_box_within, quot_box_within}
use Rattle.cell_name.specs.declared.cell.Quadrant.{Quadrant}
use Rattle.row_recursions.specs.Contents.{AddsFieldDown}
use Rattle.row_recursions.specs.Rows.{row_of, RowsAdd, down_round, shifted_down}
use Rattle.row_recursions.specs.Sizes.{RowWithin}
use Rattle.row_recursions.proofs.DownLaws.{field_down}
use Rattle.row_recursions.proofs.Equations.{shifted_down-is}
use Rattle.row_recursions.proofs.FieldLaws.{sum_of_fields, field_same}
use Rattle.row_recursions.proofs.RowSizes.{shifted_down_within}
use Rattle.row_recursions.specs.Cells.{quadrant_of}
use Rattle.row_recursions.proofs.Turns.{unit_quadrant}
use Rattle.local_shift.proofs.RoundSteps.{rounds_within}

module _ (P : ℕ) (q : Quadrant) (m : ℕ → BoxEnds) where
  -- half of the last round is the row brought down
  pub halves_add : (old moved new : ℕ → BoxEnds) → RowsAdd P old (λ k. quot_box (moved k) (pos 2)) new → ((k : ℕ) → k < P → moved k ≡ down_round P m (quadrant_of q) P k)
      → RowsAdd P old (shifted_down P m (quadrant_of q)) new
  halves_add old moved new adds is k h = adds k h ∙ ap (add_box (old k)) (ap (λ b. quot_box b (pos 2)) (is k h) ∙ sym (shifted_down-is P m (quadrant_of q) k))

  -- the sums fit
  pub halves_fit : (old moved : ℕ → BoxEnds) → RowWithin P (2 ^ 90) m → RowWithin P (2 ^ 110) old → ((k : ℕ) → k < P → moved k ≡ down_round P m (quadrant_of q) P k)
      → RowWithin P (2 ^ 126) (λ k. add_box (old k) (quot_box (moved k) (pos 2)))
  halves_fit old moved bounded sum is k h = box_wider (2 ^ 110 + 2 ^ 91) (2 ^ 126) _ (omega arith)
      (add_box_within (2 ^ 110) (2 ^ 91) (old k) (quot_box (moved k) (pos 2)) (sum k h)
      (quot_box_within (2 ^ 91) (moved k) (pos 2) (omega (arith, ints)) (subst (BoxEndsWithin (2 ^ 91)) (sym (is k h)) (rounds_within P q m bounded P k (omega arith)))))

  module _ (old new : ℕ → BoxEnds) (adds : RowsAdd P old (shifted_down P m (quadrant_of q)) new) where
    -- both fields
    pub holds_both : AddsFieldDown P (quadrant_of q) m old new
    holds_both s b own field s≥1 parent child =
        field_same P s (add_gaussian b (scale_gaussian s (quadrant_of q))) (λ t. own t +ᶜ field t) (λ k. add_box (old k) (shifted_down P m (quadrant_of q) k)) new adds
        (sum_of_fields P s (add_gaussian b (scale_gaussian s (quadrant_of q))) own field old (shifted_down P m (quadrant_of q)) s≥1 child (field_down P s (quadrant_of q) b field m s≥1 parent))

    pub sum_within : (k n : ℕ) → RowWithin P k m → RowWithin P n old → RowWithin P (k + n) new
    sum_within k n v w i h = subst (BoxEndsWithin (k + n)) (sym (adds i h)) (box_wider (n + k) (k + n) _ (omega arith)
        (add_box_within n k (old i) (shifted_down P m (quadrant_of q) i) (w i h) (shifted_down_within P k (quadrant_of q) m (unit_quadrant q) v i h)))

-- the boxes of a row of zero boxes
pub nothing_at : (P : ℕ) (xs : List CBox) → length xs ≡ P → All IsZero xs → (k : ℕ) → k < P → row_of xs k ≡ zero_box
nothing_at P xs e z k h = z k zero_cbox (omega arith)

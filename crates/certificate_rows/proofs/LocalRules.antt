-- What the local row of a node rests on: its parent and its entries.
use Rattle.std.proofs.Common.{ℕ, zero, suc, ◌≡◌, ◌<◌, ◌≤◌, ◌+◌, List, length, refl, sym, ap, ap₂, ◌∙◌, subst, arith}
use Rattle.std.specs.Prelude.{All, sum_by}
use Rattle.exact_math.specs.Ends.{BoxEnds, add_box}
use Rattle.cell_name.specs.Square.{Square, side}
use Rattle.cert_text.specs.Certificate.{Certificate}
use Rattle.kernel_table.specs.Kernel.{kernel_entry}
use Rattle.letters.specs.declared.Letter.TheVariants.{V, X}
use Rattle.limits.specs.Limits.{most_entries, widest_grid}
use Rattle.row_recursions.specs.Cells.{far_coefficients_in}
use Rattle.row_recursions.specs.Rows.{RowsAdd, AreSameRows, shifted_down, converted}
use Rattle.soundness.specs.Accounts.{Accounting, sources_under}
use Rattle.soundness.specs.Computed.{point_of, brought_down, converted_rows, far_rows, computed_local_radius, radius_above, weight_under}
use Rattle.soundness.specs.Squares.{quadrant, sides_between}
use Rattle.soundness.specs.Steps.{total_row}
use Rattle.truncation.specs.Tails.{pair_loss, single_loss}
use Rattle.certificate_nodes.proofs.Counts.{few_entries}
use Rattle.certificate_nodes.specs.AtNodes.{entry_numbers_at}
use Rattle.certificate_nodes.specs.Presented.{PresentedModel, accounting_of, EntriesHold}
use Rattle.certificate_rules.specs.LineRules.{IsFit}
use Rattle.certificate_rules.proofs.Ranges.{parent_less}
use Rattle.certificate_rows.specs.Entries.{nth_entry, HasDistance, v_row, x_row, loss_at}
use Rattle.certificate_rows.specs.Given.{IsOverList, parent_at, cell_at}
use Rattle.certificate_rows.proofs.Entries.{numbers_few, fits, distances, total_of_letter, sum_of_letter}
use Rattle.certificate_rows.proofs.Totals.{add_box-assoc, sum_by-both}

-- ---- the parent
pub brought_down_is : (P : ℕ) (A : Accounting) (n k : ℕ) → 0 < n → brought_down P A n k ≡ shifted_down P (A.local (A.parent n)) (quadrant (A.cell n)) k
brought_down_is P A zero k positive = absurd (omega (arith, positive))
brought_down_is P A (suc n) k positive = refl

-- ---- three rows, one after another
pub three_rows : (P : ℕ) (computed down v x a b new : ℕ → BoxEnds) → ((k : ℕ) → computed k ≡ add_box (down k) (add_box (v k) (x k))) → AreSameRows P down a → RowsAdd P a v b → (other : ℕ → BoxEnds)
    → AreSameRows P x other → RowsAdd P b other new → AreSameRows P computed new
three_rows P computed down v x a b new is first second other third last k h =
    is k ∙ sym (add_box-assoc (down k) (v k) (x k)) ∙ ap₂ add_box (ap (λ y. add_box y (v k)) (first k h) ∙ sym (second k h)) (third k h) ∙ sym (last k h)

module _ (g : PresentedModel) (over : IsOverList g) (n : ℕ) where
  abbrev A : Accounting
  A = accounting_of g

  pub parent_in_range : 0 < n → n < g.certificate.head.cells → (c : Certificate) (p : ℕ) → c ≡ g.certificate → p ≡ parent_at c n → p < c.head.cells
  parent_in_range positive lt c p same e =
      let less = parent_less g.certificate over.is_certificate n positive in
      omega (arith, less, lt, e ∙ ap (λ d. parent_at d n) same, ap (λ d. d.head.cells) same)

  -- ---- the entries by their numbers
  module _ (xs : List ℕ) (are : xs ≡ entry_numbers_at g.certificate n) where
    pub entries_not_many : length xs ≤ most_entries widest_grid
    entries_not_many = omega (arith, ap (λ l. length l) are, numbers_few g.certificate n, over.is_certificate.entries_are, few_entries g.certificate over.is_certificate)

    module _ (hold : EntriesHold g) where
      pub entries_fit : All (λ e. IsFit g.points g.certificate (nth_entry g.certificate e).letter n (nth_entry g.certificate e).c) xs
      entries_fit = subst (All (λ e. IsFit g.points g.certificate (nth_entry g.certificate e).letter n (nth_entry g.certificate e).c)) (sym are)
          (fits g.certificate g.points (λ e lt. hold e (omega (arith, lt, over.is_certificate.entries_are))) n)

      pub entries_apart : (cell : Square) → cell ≡ cell_at g.certificate n → All (λ e. HasDistance g.certificate cell (nth_entry g.certificate e)) xs
      entries_apart cell is =
          let Q : Square → Type 0 = λ q. All (λ e. HasDistance g.certificate q (nth_entry g.certificate e)) xs in
          let R : List ℕ → Type 0 = λ l. All (λ e. HasDistance g.certificate (cell_at g.certificate n) (nth_entry g.certificate e)) l in
          subst Q (sym is) (subst R (sym are) (distances g.certificate g.points (λ e lt. hold e (omega (arith, lt, over.is_certificate.entries_are))) n))

    -- ---- what they add, and what they can lose
    module _ (P : ℕ) (cell : Square) (is : cell ≡ cell_at g.certificate n) where
      pub v_total : (k : ℕ) → total_row (λ e. v_row g.certificate P cell (nth_entry g.certificate e)) xs k ≡ converted_rows P A n k
      v_total k =
          ap₂ (λ q l. total_row (λ e. v_row g.certificate P q (nth_entry g.certificate e)) l k) is are
          ∙ total_of_letter g.certificate g.points n V (λ e. converted P (kernel_entry (sides_between (A.cell n) (A.cell e.c))) (A.multipole e.c) k)

      pub x_total : (k : ℕ) → total_row (λ e. x_row A cell (nth_entry g.certificate e)) xs k ≡ far_rows P A n k
      x_total k =
          ap₂ (λ q l. total_row (λ e. x_row A q (nth_entry g.certificate e)) l k) is are
          ∙ total_of_letter g.certificate g.points n X (λ e. total_row (λ x. far_coefficients_in (A.cell n) (point_of x)) (sources_under A e.c) k)

      pub loss_total : (s : ℕ) → s ≡ side cell → radius_above P A n + sum_by (λ e. loss_at A P s (nth_entry g.certificate e)) xs ≡ computed_local_radius P A n
      loss_total s same =
          let t = side (A.cell n) in
          let side_is : s ≡ t = same ∙ ap side is in
          let all = ap₂ (λ u l. sum_by (λ e. loss_at A P u (nth_entry g.certificate e)) l) side_is are in
          let v = sum_of_letter g.certificate g.points n V (λ e. pair_loss P (weight_under P A e.c) t) in
          let x = sum_of_letter g.certificate g.points n X (λ e. single_loss P (weight_under P A e.c) t) in
          ap (λ m. radius_above P A n + m) (all ∙ sum_by-both _ _ (entry_numbers_at g.certificate n) ∙ ap₂ (λ a b. a + b) v x)

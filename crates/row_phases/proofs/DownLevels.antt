-- One level of local rows: what its run may read, and what holds once the run is filled.
use Rattle.std.proofs.Common.{ℕ, ◌+◌, ◌-◌, ◌^◌, ◌≡◌, ◌<◌, ◌≤◌, inl, inr, List, ◌++◌, length, length-append, refl, ap, sym, subst, ◌∙◌, arith}
use Rattle.std.proofs.lemmas.Bool.{cases_lt}
use Rattle.std.proofs.lemmas.List.{get_or_append_left, get_or-append_right}
use Rattle.limits.proofs.Grids.{within_widest}
use Rattle.cell_name.specs.Square.{Square}
use Rattle.cell_lists.proofs.CellNumbers.{level_positive, parent_before}
use Rattle.quadtree.specs.TreeModel.{IsLevel, IsTree, size, square_of, node_of}
use Rattle.field_basis.proofs.Trees.{some_tree, tree_of_basis}
use Rattle.field_basis.specs.Basis.{BasisModel, IsBasis}
use Rattle.field_basis.specs.FieldPlaces.{AreAllMultipolePlaces, HasLocalPlace, IsLocalPlace}
use Rattle.field_basis.specs.MadePlaces.{IsMadeLocal}
use Rattle.field_basis.specs.Place.{PlaceModel, no_place, place_at}
use Rattle.row_phases.specs.DownRuns.{IsRunBelow}
use Rattle.row_phases.specs.Levels.{AreAllMadeUp, AreMadeBefore}

pub made_up_are : (P : ℕ) (b : BasisModel) (up : List PlaceModel) → AreAllMadeUp P b up → AreAllMultipolePlaces P b.points b.tree up
made_up_are P b up h = record { as_many = h.as_many; each = λ n lt. (h.each n lt).place_is }

pub few_cells : (P : ℕ) (b : BasisModel) → IsBasis P b → size b.tree < 2 ^ 32
few_cells P b is = omega (arith, is.is_tree.few, (within_widest b.tree.grid is.is_tree.known_grid).cells)

-- a part of a run is one
pub part_of_run : (P : ℕ) (b : BasisModel) (up above : List PlaceModel) (first count start len : ℕ) → IsRunBelow P b up above first count → start + len ≤ count → IsRunBelow P b up above (first + start) len
part_of_run P b up above first count start len h inside = record {
  basis = h.basis;
  rows = h.rows;
  in_range = omega (arith, h.in_range);
  parents = λ n from to lo. h.parents n (omega arith) (omega arith) lo;
}

-- what a part's call made of a place, by the run
pub place_in_run : (Q : ℕ → PlaceModel → Type 0) (first start offset k : ℕ) (x y : PlaceModel) → start + offset ≡ k → x ≡ y → Q (first + start + offset) x → Q (first + k) y
place_in_run Q first start offset k x y e same here =
    let at : first + start + offset ≡ first + k = omega arith in
    subst (λ m. Q m y) at (subst (Q (first + start + offset)) same here)

module _ (P : ℕ) (b : BasisModel) (is : IsBasis P b) (level first end : ℕ) (cells : IsLevel b.tree level first end) (old above rest : List PlaceModel) (whole : old ≡ above ++ rest) (above_len : length above ≡ first) (made : AreMadeBefore P b level old) where
  tree : IsTree b.tree
  tree = some_tree b.points b.tree (tree_of_basis P b is)

  -- the parent of a cell of the level stands above, and its row is made
  parent_made : (n : ℕ) → first ≤ n → n < end → 0 < n → HasLocalPlace P b above (node_of b.tree n).parent
  parent_made n from to lo =
      let p : ℕ = (node_of b.tree n).parent in
      let lt : n < size b.tree = omega (arith, cells.in_range) in
      let parent = parent_before b.tree tree n lo lt in
      let level_is : (square_of b.tree n).level ≡ level = (cells.exact n lt).0 (from, to) in
      let less : (square_of b.tree p).level ≡ (square_of b.tree n).level - 1 = ap (λ (s : Square). s.level) parent.is_parent in
      let positive = level_positive b.tree tree n lo lt in
      let before : (square_of b.tree p).level < level = omega (arith, level_is, less, positive) in
      let inside : p < length above = elim (cases_lt p first) [
        | inl lt ↦ omega (arith, above_len)
        | inr ge ↦ let same : (square_of b.tree p).level ≡ level = (cells.exact p parent.in_range).0 (ge, omega (arith, parent.before)) in absurd (omega (arith, same, before))
      ] in
      record {
        in_range = inside;
        place_is = subst (IsLocalPlace P b p) (ap (λ l. place_at l p) whole ∙ get_or_append_left above rest no_place p inside) (made.each p parent.in_range before).place_is;
      }

  pub level_is_run : (up : List PlaceModel) → AreAllMadeUp P b up → (count : ℕ) → first + count ≡ end → IsRunBelow P b up above first count
  level_is_run up rows count e = record {
    basis = is;
    rows = made_up_are P b up rows;
    in_range = omega (arith, cells.in_range);
    parents = λ n from to lo. parent_made n from (omega arith) lo;
  }

  -- once the run of the level is filled
  module _ (run new behind : List PlaceModel) (rest_is : rest ≡ run ++ behind) (run_len : first + length run ≡ end) (new_len : length new ≡ length run) where
    old_is : old ≡ above ++ (run ++ behind)
    old_is = whole ∙ ap (λ l. above ++ l) rest_is

    same_length : length (above ++ (new ++ behind)) ≡ length old
    same_length = omega (arith, length-append above (new ++ behind), length-append new behind, ap length old_is, length-append above (run ++ behind), length-append run behind)

    stays_above : (n : ℕ) → n < first → place_at (above ++ (new ++ behind)) n ≡ place_at old n
    stays_above n h =
        let inside : n < length above = omega arith in
        get_or_append_left above (new ++ behind) no_place n inside ∙ sym (ap (λ l. place_at l n) whole ∙ get_or_append_left above rest no_place n inside)

    stands_behind : (n : ℕ) → end ≤ n → (xs : List PlaceModel) → first + length xs ≡ end → place_at (above ++ (xs ++ behind)) n ≡ place_at behind (n - end)
    stands_behind n h xs e =
        let at : n - first - length xs ≡ n - end = omega arith in
        get_or-append_right above (xs ++ behind) first n no_place above_len (omega arith) ∙ get_or-append_right xs behind (length xs) (n - first) no_place refl (omega arith) ∙ ap (λ i. place_at behind i) at

    stays_behind : (n : ℕ) → end ≤ n → place_at (above ++ (new ++ behind)) n ≡ place_at old n
    stays_behind n h = stands_behind n h new (omega arith) ∙ sym (ap (λ l. place_at l n) old_is ∙ stands_behind n h run run_len)

    stands_in_run : (n : ℕ) → first ≤ n → n < end → place_at (above ++ (new ++ behind)) n ≡ place_at new (n - first)
    stands_in_run n from to = get_or-append_right above (new ++ behind) first n no_place above_len from ∙ get_or_append_left new behind no_place (n - first) (omega arith)

    pub level_made : ((k : ℕ) → k < length run → IsMadeLocal P b (first + k) (place_at new k)) → AreMadeBefore P b (level + 1) (above ++ (new ++ behind))
    level_made all = record { as_many = same_length ∙ made.as_many; each = each }
      where
        -- a cell that is not of the level
        other : (n : ℕ) → n < size b.tree → (square_of b.tree n).level < level + 1 → (((first ≤ n) × (n < end)) → ⊥) → IsMadeLocal P b n (place_at old n)
        other n lt low out = made.each n lt (elim (cases_lt (square_of b.tree n).level level) [
          | inl less ↦ less
          | inr ge ↦ absurd (out ((cells.exact n lt).1 (omega arith)))
        ])

        each : (n : ℕ) → n < size b.tree → (square_of b.tree n).level < level + 1 → IsMadeLocal P b n (place_at (above ++ (new ++ behind)) n)
        each n lt low = elim (cases_lt n first) [
          | inl early ↦ subst (IsMadeLocal P b n) (sym (stays_above n early)) (other n lt low (λ h. absurd (omega (arith, h.0))))
          | inr from ↦ elim (cases_lt n end) [
            | inr late ↦ subst (IsMadeLocal P b n) (sym (stays_behind n late)) (other n lt low (λ h. absurd (omega (arith, h.1))))
            | inl to ↦
                let here = all (n - first) (omega arith) in
                let at : first + (n - first) ≡ n = omega arith in
                subst (IsMadeLocal P b n) (sym (stands_in_run n from to)) (subst (λ m. IsMadeLocal P b m (place_at new (n - first))) at here)
          ]
        ]

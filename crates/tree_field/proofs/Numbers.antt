-- The cells of a tree by their numbers, with the parent of each.
use Rattle.std.proofs.Common.{ℕ, ◌≡◌, ◌-◌, ◌<◌, ◌≤◌, zero, suc, inl, inr, List, [], ◌∷◌, length, Bool, true, false, cond, ◌&&◌, refl, sym, ap, ◌∙◌, arith}
use Rattle.std.specs.Prelude.{◌==◌, Contains, slice_index_or}
use Rattle.std.proofs.lemmas.Bool.{false≢true, cases_lt, and_parts, and_from, eqb-true, eq-eqb, lt-ltb, le-ltb}
use Rattle.points.specs.declared.Point.{Point}
use Rattle.cell_name.specs.Order.{IsBefore}
use Rattle.cell_name.specs.Square.{Square, root, no_square, parent}
use Rattle.cell_name.proofs.Cells.{same_square}
use Rattle.cell_name.proofs.Order.{IsBefore-irrefl}
use Rattle.quadtree.specs.Tree.{AreInGrid, IsTreeCell, AreExactly}
pub use Rattle.tree_field.specs.Accounting.{same_cell, number_among, cell_at, above}
use Rattle.quadtree.proofs.Parents.{IsTreeCell-parent}

pub same_from_test : (c d : Square) → same_cell c d ≡ true → c ≡ d
same_from_test c d e =
    let three = and_parts ((c.grid == d.grid) && (c.level == d.level) && (c.i == d.i)) (c.j == d.j) e in
    let two = and_parts ((c.grid == d.grid) && (c.level == d.level)) (c.i == d.i) three.0 in
    let one = and_parts (c.grid == d.grid) (c.level == d.level) two.0 in
    same_square c d (eqb-true _ _ one.0) (eqb-true _ _ one.1) (eqb-true _ _ two.1) (eqb-true _ _ three.1)

pub test_itself : (c : Square) → same_cell c c ≡ true
test_itself c = and_from _ _ (and_from _ _ (and_from _ _ (eq-eqb c.grid c.grid refl) (eq-eqb c.level c.level refl)) (eq-eqb c.i c.i refl)) (eq-eqb c.j c.j refl)

-- it stands there
pub record IsNumber (cells : List Square) (c : Square) (n : ℕ) : Type 0 where
  pub in_range : n < length cells
  pub is : (d : Square) → slice_index_or cells n d ≡ c

pub number_is : (cells : List Square) (c : Square) → Contains cells c → IsNumber cells c (number_among cells c)
unfolding number_among
number_is [] c h = absurd (omega (arith, h.1))
number_is (d ∷ ds) c h = step (same_cell d c) refl h (number_is ds c)
  where
    step : (b : Bool) → same_cell d c ≡ b → Contains (d ∷ ds) c → (Contains ds c → IsNumber ds c (number_among ds c)) → IsNumber (d ∷ ds) c (cond b 0 (suc (number_among ds c)))
    step true e h rest = record { in_range = omega arith; is = λ z. same_from_test d c e }
    step false e (zero, lt, f) rest = absurd (false≢true (sym e ∙ ap (λ z. same_cell z c) f ∙ test_itself c))
    step false e (suc k, lt, f) rest = let r = rest (k, omega arith, f) in record { in_range = omega (arith, r.in_range); is = r.is }

module _ (grid : ℕ) (points : List Point) (cap : ℕ) (cells : List Square) (positive : 0 < grid) (inside : AreInGrid grid points) (are : AreExactly (IsTreeCell grid points cap) cells) where
  pub tree_cell : (n : ℕ) → n < length cells → IsTreeCell grid points cap (cell_at cells n)
  tree_cell n lt = are.each n no_square lt

  pub number_below : (c : Square) → IsTreeCell grid points cap c → number_among cells c < length cells
  number_below c h = (number_is cells c (are.whole c h)).in_range

  pub cell_of_number : (c : Square) → IsTreeCell grid points cap c → cell_at cells (number_among cells c) ≡ c
  cell_of_number c h = (number_is cells c (are.whole c h)).is no_square

  -- a cell has one number
  pub same_number : (m n : ℕ) → m < length cells → n < length cells → cell_at cells m ≡ cell_at cells n → m ≡ n
  same_number m n lm ln e =
      elim (cases_lt m n) [
        | inl lt ↦ absurd (IsBefore-irrefl (cell_at cells m) (cell_at cells n) e (are.ascending m n no_square lt ln))
        | inr le ↦ elim (cases_lt n m) [
          | inl lt ↦ absurd (IsBefore-irrefl (cell_at cells n) (cell_at cells m) (sym e) (are.ascending n m no_square lt lm))
          | inr ge ↦ omega arith
        ]
      ]

  pub number_of_cell : (n : ℕ) → n < length cells → number_among cells (cell_at cells n) ≡ n
  number_of_cell n lt = same_number _ n (number_below _ (tree_cell n lt)) lt (cell_of_number _ (tree_cell n lt))

  -- a cell stands after its parent
  parent_first : (n : ℕ) → n < length cells → 0 < (cell_at cells n).level → number_among cells (parent (cell_at cells n)) < n
  parent_first n lt lo =
      let c : Square = cell_at cells n in
      let up = IsTreeCell-parent grid points cap c positive inside (tree_cell n lt) lo in
      let m : ℕ = number_among cells (parent c) in
      let level : (cell_at cells m).level ≡ c.level - 1 = ap (λ (s : Square). s.level) (cell_of_number (parent c) up) in
      elim (cases_lt m n) [
        | inl before ↦ before
        | inr le ↦ elim (cases_lt n m) [
          | inl after ↦ absurd (no (cell_at cells m) level (are.ascending n m no_square after (number_below (parent c) up)))
          | inr ge ↦ absurd (let same : (cell_at cells m).level ≡ c.level = ap (λ k. (cell_at cells k).level) (omega arith) in omega arith)
        ]
      ]
    where
      no : (d : Square) → d.level ≡ (cell_at cells n).level - 1 → IsBefore (cell_at cells n) d → ⊥
      no d e b = elim b.before [ inl deep ↦ omega arith | inr same ↦ absurd (omega (arith, same.0)) ]

  root_from_level : (n : ℕ) → n < length cells → (cell_at cells n).level ≤ 0 → cell_at cells n ≡ root grid
  root_from_level n lt e = elim (tree_cell n lt).reached [ inl is_root ↦ is_root | inr below ↦ absurd (omega (arith, below.0)) ]

  pub first_is_root : 0 < length cells → cell_at cells 0 ≡ root grid
  first_is_root lt =
      elim (cases_lt 0 (cell_at cells 0).level) [
        | inl lo ↦ absurd (let h = parent_first 0 lt lo in omega arith)
        | inr le ↦ root_from_level 0 lt le
      ]

  pub level_positive : (n : ℕ) → 0 < n → n < length cells → 0 < (cell_at cells n).level
  level_positive n lo lt =
      elim (cases_lt 0 (cell_at cells n).level) [
        | inl h ↦ h
        | inr le ↦ absurd (let e : n ≡ 0 = same_number n 0 lt (omega arith) (root_from_level n lt le ∙ sym (first_is_root (omega arith))) in omega arith)
      ]

  above-inside : (n : ℕ) → n < length cells → above cells n ≡ number_among cells (parent (cell_at cells n))
  above-inside n lt = ap (λ (b : Bool). cond b (number_among cells (parent (cell_at cells n))) 0) (lt-ltb n (length cells) lt)

  above-outside : (n : ℕ) → length cells ≤ n → above cells n ≡ 0
  above-outside n le = ap (λ (b : Bool). cond b (number_among cells (parent (cell_at cells n))) 0) (le-ltb n (length cells) le)

  pub above_root : above cells 0 ≡ 0
  above_root =
      elim (cases_lt 0 (length cells)) [
        | inl lt ↦ above-inside 0 lt ∙ ap (λ c. number_among cells (parent c)) (first_is_root lt) ∙ ap (number_among cells) (sym (first_is_root lt)) ∙ number_of_cell 0 lt
        | inr le ↦ above-outside 0 le
      ]

  pub above_first : (n : ℕ) → 0 < n → above cells n < n
  above_first n lo =
      elim (cases_lt n (length cells)) [
        | inl lt ↦ omega (arith, above-inside n lt, parent_first n lt (level_positive n lo lt))
        | inr le ↦ omega (arith, above-outside n le)
      ]

  -- the cell of the parent's number is the parent
  pub cell_above : (n : ℕ) → 0 < n → n < length cells → cell_at cells (above cells n) ≡ parent (cell_at cells n)
  cell_above n lo lt =
      ap (cell_at cells) (above-inside n lt) ∙ cell_of_number _ (IsTreeCell-parent grid points cap (cell_at cells n) positive inside (tree_cell n lt) (level_positive n lo lt))

  -- the number of a cell that has another as its parent
  pub above_number : (c : Square) → IsTreeCell grid points cap c → above cells (number_among cells c) ≡ number_among cells (parent c)
  above_number c h = above-inside _ (number_below c h) ∙ ap (λ d. number_among cells (parent d)) (cell_of_number c h)

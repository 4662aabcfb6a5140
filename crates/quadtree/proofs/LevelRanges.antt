-- The cells of a level stand together.
use Rattle.std.proofs.Common.{ℕ, ◌≡◌, ◌<◌, ◌≤◌, inl, inr, List, [], ◌∷◌, length, get_or, map, true, false, ltb, leb, ltb-true, leb-true, refl, sym, ap, ◌∙◌, arith}
use Rattle.std.specs.Prelude.{AllPairs, ◌↔◌}
use Rattle.std.specs.List.Sorted.{IsNonDecreasingBy, IsPartitionPoint}
use Rattle.std.proofs.lemmas.Bool.{cases_lt, false≢true, lt-ltb}
use Rattle.std.proofs.lemmas.List.{get_or-map, length-map}
use Rattle.cell_name.specs.declared.cell.Cell.{Cell}
use Rattle.cell_name.specs.Cell.{square}
use Rattle.cell_name.specs.Order.{IsBefore}
use Rattle.cell_name.specs.Square.{Square, no_square}
use Rattle.quadtree.specs.TreeModel.{TreeModel, size, square_of, IsLevel}

level_before : (c d : Square) → IsBefore c d → c.level ≤ d.level
level_before c d h = elim h.before [ inl lt ↦ omega arith | inr same ↦ omega (arith, same.0) ]

-- the levels of ascending cells do not fall
pub levels_rise : (cells : List Cell) → AllPairs IsBefore (map square cells) → IsNonDecreasingBy (λ (c : Cell). c.level) cells
levels_rise cells up i j d le inside =
    elim (cases_lt i j) [
      | inl lt ↦
          let many = length-map cells square in
          let at : (k : ℕ) → k < length cells → get_or (map square cells) k no_square ≡ square (get_or cells k d) = λ k l. get_or-map square cells k d no_square l in
          let h : IsBefore (get_or (map square cells) i no_square) (get_or (map square cells) j no_square) = up i j no_square lt (omega arith) in
          let low = level_before _ _ h in
          omega (arith, low, ap (λ (s : Square). s.level) (at i (omega arith)), ap (λ (s : Square). s.level) (at j inside))
      | inr ge ↦ let e : i ≡ j = omega arith in omega (arith, ap (λ k. (get_or cells k d).level) e)
    ]

not_less : (a b : ℕ) → ltb a b ≡ false → b ≤ a
not_less a b e = elim (cases_lt a b) [ inl lt ↦ absurd (false≢true (sym e ∙ lt-ltb a b lt)) | inr le ↦ le ]

more_than : (a b : ℕ) → leb a b ≡ false → b < a
more_than a b e = elim (cases_lt b a) [ inl lt ↦ lt | inr le ↦ absurd (false≢true (sym e ∙ le_test a b le)) ]
  where
    le_test : (a b : ℕ) → a ≤ b → leb a b ≡ true
    le_test a b h = grind arith

-- from the first cell of a level on, before the first cell below it
pub level_between : (tree : TreeModel) (level first end : ℕ) → first ≤ size tree → end ≤ size tree → IsPartitionPoint (λ (c : Cell). ltb c.level level ≡ true) (λ (c : Cell). ltb c.level level ≡ false) tree.cells first → IsPartitionPoint (λ (c : Cell). leb c.level level ≡ true) (λ (c : Cell). leb c.level level ≡ false) tree.cells end → IsLevel tree level first end
level_between tree level first end lf le from to = by_cells tree.cells refl
  where
    by_cells : (cells : List Cell) → tree.cells ≡ cells → IsLevel tree level first end
    by_cells [] e =
        let none : size tree ≡ 0 = ap length e in
        record { ordered = omega arith; in_range = le; exact = λ n lt. absurd (omega arith) }
    by_cells (c ∷ cs) e = record { ordered = ordered; in_range = le; exact = exact }
      where
        ordered : first ≤ end
        ordered =
            elim (cases_lt end first) [
              | inr fine ↦ fine
              | inl lt ↦
                  let low = ltb-true _ _ (from.0 end c (omega arith) lt) in
                  let high = more_than _ _ (to.1 end c (omega arith) (omega arith)) in
                  absurd (omega (arith, low, high))
            ]

        here : (n : ℕ) → n < size tree → (square_of tree n).level ≡ (get_or tree.cells n c).level
        here n lt = ap (λ (s : Square). s.level) (get_or-map square tree.cells n c no_square lt)

        exact : (n : ℕ) → n < size tree → ((first ≤ n) × (n < end)) ↔ ((square_of tree n).level ≡ level)
        exact n lt = (
          λ h. omega (arith, here n lt, not_less _ _ (from.1 n c h.0 lt), leb-true _ _ (to.0 n c (omega arith) h.1)),
          λ h. (
            elim (cases_lt n first) [ inl early ↦ absurd (omega (arith, h, here n lt, ltb-true _ _ (from.0 n c (omega arith) early))) | inr fine ↦ fine ],
            elim (cases_lt n end) [ inl fine ↦ fine | inr late ↦ absurd (omega (arith, h, here n lt, more_than _ _ (to.1 n c late lt))) ],
          ),
        )

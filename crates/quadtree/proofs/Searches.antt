-- What a binary search in ascending cells finds.
use Rattle.std.proofs.Common.{ℕ, ◌≡◌, ◌+◌, ◌<◌, length, get_or, map, Ordering, Less, Equal, Greater, Option, Result, Ok, Err, List, sym, ◌∙◌, subst, arith, inl, inr}
use Rattle.std.specs.Prelude.{MatchOption, All, AllPairs, Contains}
use Rattle.std.specs.List.{AllWithin}
use Rattle.std.specs.List.Sorted.{IsSortedBy, IsNonDecreasingBy, IsSearchInRange, IsBinarySearchResult}
use Rattle.std.specs.Ordering.{is_lt, ordering_index}
use Rattle.std.specs.Result.{result_ok}
use Rattle.std.proofs.lemmas.Bool.{cases_lt}
use Rattle.std.proofs.lemmas.Cmp.{on_total}
use Rattle.std.proofs.lemmas.List.{get_or-map, length-map}
use Rattle.std.proofs.lemmas.List.Sorted.{searchable_from_sorted}
use Rattle.cell_name.specs.declared.cell.Cell.{Cell}
use Rattle.cell_name.specs.Cell.{square}
use Rattle.cell_name.specs.Order.{IsBefore}
use Rattle.cell_name.specs.Square.{Square, no_square}
use Rattle.cell_name.proofs.Order.{square_cmp, square_cmp_total, not_less-from_IsBefore, same-from_Equal, Equal-from_same}

-- the comparison of two cells of the program
abbrev pub cell_cmp : Cell → Cell → Ordering
cell_cmp x y = square_cmp (square x) (square y)

-- the square of the cell at a number
pub square_at_number : (cells : List Cell) (n : ℕ) (d : Cell) (e : Square) → n < length cells → get_or (map square cells) n e ≡ square (get_or cells n d)
square_at_number cells n d e lt = get_or-map square cells n d e lt

-- the cells are of one grid
abbrev pub HaveGrid : ℕ → List Square → Type 0
HaveGrid grid cells = All (λ (s : Square). s.grid ≡ grid) cells

-- ascending cells are sorted
sorted : (grid : ℕ) (cells : List Cell) → HaveGrid grid (map square cells) → AllPairs IsBefore (map square cells) → IsSortedBy (λ a b. is_lt (cell_cmp a b)) cells
sorted grid cells same up k d low high =
    let at : IsBefore (get_or (map square cells) k no_square) (get_or (map square cells) (k + 1) no_square) = up k (k + 1) no_square (omega arith) (omega (arith, length-map cells square)) in
    let here : get_or (map square cells) k no_square ≡ square (get_or cells k d) = square_at_number cells k d no_square (omega arith) in
    let next : get_or (map square cells) (k + 1) no_square ≡ square (get_or cells (k + 1) d) = square_at_number cells (k + 1) d no_square high in
    let G : Square → Type 0 = λ s. s.grid ≡ grid in
    let of_grid : (n : ℕ) → n < length cells → (square (get_or cells n d)).grid ≡ grid = λ n lt. subst G (square_at_number cells n d no_square lt) (same n no_square (omega (arith, lt, length-map cells square))) in
    not_less-from_IsBefore (square (get_or cells k d)) (square (get_or cells (k + 1) d)) (of_grid k (omega arith) ∙ sym (of_grid (k + 1) high)) (rw (here, next) at at)

-- where the search found no place
not_found : (cells : List Cell) (x : Cell) (i : ℕ) → AllWithin (λ y. cell_cmp y x ≡ Less) cells 0 i → AllWithin (λ y. cell_cmp y x ≡ Greater) cells i (length cells) → Contains (map square cells) (square x) → ⊥
not_found cells x i below above h =
    let k : ℕ = h.0 in
    let lt : k < length cells = omega (arith, h.1, length-map cells square) in
    let e : square (get_or cells k x) ≡ square x = sym (square_at_number cells k x (square x) lt) ∙ h.2 in
    let tied : cell_cmp (get_or cells k x) x ≡ Equal = Equal-from_same (square (get_or cells k x)) (square x) e in
    elim (cases_lt k i) [
      | inl before ↦ let less = below k x (omega arith) before in cc
      | inr after ↦ let greater = above k x after lt in cc
    ]

-- the number that a search of ascending cells finds, or that the cell isn't among them
pub found : (grid : ℕ) (cells : List Cell) (x : Cell) → HaveGrid grid (map square cells) → AllPairs IsBefore (map square cells) → (r : Result ℕ ℕ) (o : Option ℕ) → o ≡ result_ok r → IsSearchInRange r (length cells) → IsBinarySearchResult (λ y. cell_cmp y x) cells r → MatchOption o (Contains (map square cells) (square x) → ⊥) (λ n. (n < length cells) × (get_or (map square cells) n no_square ≡ square x))
found grid cells x same up (Ok n) o e bound h =
    let P : Option ℕ → Type 0 = λ v. MatchOption v (Contains (map square cells) (square x) → ⊥) (λ n. (n < length cells) × (get_or (map square cells) n no_square ≡ square x)) in
    subst P (sym e) (bound, square_at_number cells n x no_square bound ∙ same-from_Equal (square (get_or cells n x)) (square x) (h x))
found grid cells x same up (Err i) o e bound h =
    let P : Option ℕ → Type 0 = λ v. MatchOption v (Contains (map square cells) (square x) → ⊥) (λ n. (n < length cells) × (get_or (map square cells) n no_square ≡ square x)) in
    let rising : IsNonDecreasingBy (λ y. ordering_index (cell_cmp y x)) cells = searchable_from_sorted (on_total square square_cmp_total) (λ y. y) cells x (sorted grid cells same up) in
    let parts = h rising in
    subst P (sym e) (not_found cells x i parts.0 parts.1)

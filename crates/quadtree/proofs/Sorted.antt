-- The cells of the tree, sorted.
use Rattle.std.proofs.Common.{ℕ, ◌≡◌, ◌+◌, List, [], ◌∷◌, get_or, Bool, true, false, Decides, Ordering, Less, Equal, Greater, refl, sym, ap, ◌∙◌, subst, arith}
use Rattle.std.specs.Prelude.{AllPairs}
use Rattle.std.specs.List.Sorted.{IsPermutation, IsSortedBy}
use Rattle.std.specs.Ordering.{is_lt, is_eq, nat_cmp, ordering_then}
use Rattle.std.proofs.lemmas.List.{get_or-map, length-map}
use Rattle.std.proofs.lemmas.List.Sorted.{All-permutation, Contains-permutation, ranks_by, sorted_far}
use Rattle.points.specs.declared.Point.{Point}
use Rattle.cell_name.specs.Cell.{square}
use Rattle.cell_name.specs.Order.{IsBefore}
use Rattle.cell_name.specs.Square.{Square}
use Rattle.cell_name.proofs.Order.{square_cmp, square_cmp_total, IsBefore-from_not_less, same-from_Equal, Equal-from_same}
use Rattle.quadtree.specs.declared.split.Run.{Run}
use Rattle.quadtree.specs.Splitting.{squares_of, IsCellOfLevel, AreCellsOfLevel}
use Rattle.quadtree.proofs.Distinct.{different-permutation}

-- the comparison of two runs, which their cells decide
abbrev pub numbers_cmp : Run → Run → Ordering
numbers_cmp a b = ordering_then (nat_cmp a.parent b.parent) (ordering_then (nat_cmp a.from b.from) (nat_cmp a.to b.to))

abbrev pub run_cmp : Run → Run → Ordering
run_cmp a b = ordering_then (square_cmp (square a.cell) (square b.cell)) (numbers_cmp a b)

cell_not_less : (o p : Ordering) → is_lt (ordering_then o p) ≡ false → is_lt o ≡ false
cell_not_less Less p h = h
cell_not_less Equal p h = refl
cell_not_less Greater p h = refl

-- whether two cells are one
abbrev same : Square → Square → Bool
same c d = is_eq (square_cmp c d)

is_equal : (o : Ordering) → is_eq o ≡ true → o ≡ Equal
is_equal Less e = absurd (let f : false ≡ true = e in cc)
is_equal Equal e = refl
is_equal Greater e = absurd (let f : false ≡ true = e in cc)

same-decides : (c d : Square) → Decides (same c d) (c ≡ d)
same-decides c d = (λ h. same-from_Equal c d (is_equal (square_cmp c d) h), λ e. ap is_eq (Equal-from_same c d e))

-- sorted runs have sorted cells
sorted_squares : (runs : List Run) → IsSortedBy (λ a b. is_lt (run_cmp a b)) runs → IsSortedBy (λ a b. is_lt (square_cmp a b)) (squares_of runs)
sorted_squares [] up k d low high = absurd (omega arith)
sorted_squares (r ∷ rs) up k d low high =
    let runs : List Run = r ∷ rs in
    let n = length-map runs (λ (q : Run). square q.cell) in
    let first : Run = get_or runs k r in
    let second : Run = get_or runs (k + 1) r in
    let here : get_or (squares_of runs) k d ≡ square first.cell = get_or-map (λ (q : Run). square q.cell) runs k r d (omega arith) in
    let next : get_or (squares_of runs) (k + 1) d ≡ square second.cell = get_or-map (λ (q : Run). square q.cell) runs (k + 1) r d (omega arith) in
    let P : Square → Type 0 = λ a. is_lt (square_cmp (get_or (squares_of runs) (k + 1) d) a) ≡ false in
    let Q : Square → Type 0 = λ b. is_lt (square_cmp b (square first.cell)) ≡ false in
    subst P (sym here) (subst Q (sym next) (cell_not_less (square_cmp (square second.cell) (square first.cell)) (numbers_cmp second first) (up k r low (omega arith))))

-- the cells of a level in another order
pub cells_moved : (grid : ℕ) (points : List Point) (cap level : ℕ) (was now : List Square) → IsPermutation was now → AreCellsOfLevel grid points cap level was → AreCellsOfLevel grid points cap level now
cells_moved grid points cap level was now moved h =
    record {
      each = All-permutation (IsCellOfLevel grid points cap level) was now moved h.each;
      whole = λ c k. Contains-permutation was now c moved (h.whole c k);
      different = different-permutation same same-decides was now moved h.different;
    }

-- sorted runs of a level have ascending cells
pub ascending_from_sort : (grid : ℕ) (points : List Point) (cap level : ℕ) (runs : List Run) → AreCellsOfLevel grid points cap level (squares_of runs) → IsSortedBy (λ a b. is_lt (run_cmp a b)) runs → AllPairs IsBefore (squares_of runs)
ascending_from_sort grid points cap level runs h up i j d lt inside =
    let a : Square = get_or (squares_of runs) i d in
    let b : Square = get_or (squares_of runs) j d in
    let first = h.each i d (omega arith) in
    let second = h.each j d inside in
    IsBefore-from_not_less a b (first.in_tree.of_grid ∙ sym second.in_tree.of_grid) (h.different i j d lt inside)
    (sorted_far (λ x y. is_lt (square_cmp x y)) (ranks_by square_cmp_total (λ (c : Square). c)) (squares_of runs) (sorted_squares runs up) i j d (omega arith) inside)

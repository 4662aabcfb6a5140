-- The order of cells by level, column and row, as a comparison.
use Rattle.std.proofs.Common.{ℕ, ◌≡◌, ◌<◌, inl, inr, true, false, Ordering, Less, Equal, Greater, refl, sym, ap, subst, arith}
use Rattle.std.specs.Cmp.{IsTotalOrder}
use Rattle.std.specs.Ordering.{nat_cmp, ordering_then, is_lt, MatchOrdering}
use Rattle.std.proofs.lemmas.Cmp.{ranked, by_ranked, nat_cmp_total, on_total, then_total, tied_itself}
use Rattle.cell_name.specs.Order.{IsBefore}
use Rattle.cell_name.specs.Square.{Square}
use Rattle.cell_name.proofs.Cells.{same_square}

abbrev pub square_cmp : Square → Square → Ordering
square_cmp c d = ordering_then (nat_cmp c.level d.level) (ordering_then (nat_cmp c.i d.i) (ordering_then (nat_cmp c.j d.j) (nat_cmp c.grid d.grid)))

pub square_cmp_total : IsTotalOrder square_cmp
square_cmp_total =
    then_total (on_total (λ (c : Square). c.level) nat_cmp_total)
    (then_total (on_total (λ (c : Square). c.i) nat_cmp_total) (then_total (on_total (λ (c : Square). c.j) nat_cmp_total) (on_total (λ (c : Square). c.grid) nat_cmp_total)))

-- what the comparison says of cells of one grid
pub square_ranked : (c d : Square) → c.grid ≡ d.grid → MatchOrdering (square_cmp c d) (IsBefore c d) (c ≡ d) (IsBefore d c)
square_ranked c d same =
    by_ranked (c.level < d.level) (c.level ≡ d.level) (d.level < c.level) (nat_cmp c.level d.level) (ranked c.level d.level (nat_cmp c.level d.level) refl)
    (λ e lt. let P : Ordering → Type 0 = λ o. Says (ordering_then o (ordering_then (nat_cmp c.i d.i) rest)) in subst P (sym e) (record { before = inl lt }))
    (λ e level. let P : Ordering → Type 0 = λ o. Says (ordering_then o (ordering_then (nat_cmp c.i d.i) rest)) in subst P (sym e) (by_column level))
    (λ e gt. let P : Ordering → Type 0 = λ o. Says (ordering_then o (ordering_then (nat_cmp c.i d.i) rest)) in subst P (sym e) (record { before = inl gt }))
  where
    Says : Ordering → Type 0
    Says o = MatchOrdering o (IsBefore c d) (c ≡ d) (IsBefore d c)

    rest : Ordering
    rest = ordering_then (nat_cmp c.j d.j) (nat_cmp c.grid d.grid)

    by_grid : c.level ≡ d.level → c.i ≡ d.i → c.j ≡ d.j → Says (nat_cmp c.grid d.grid)
    by_grid level column row =
        by_ranked (c.grid < d.grid) (c.grid ≡ d.grid) (d.grid < c.grid) (nat_cmp c.grid d.grid) (ranked c.grid d.grid (nat_cmp c.grid d.grid) refl)
        (λ e lt. absurd (omega arith))
        (λ e grid. subst Says (sym e) (same_square c d same level column row))
        (λ e gt. absurd (omega arith))

    by_row : c.level ≡ d.level → c.i ≡ d.i → Says rest
    by_row level column =
        by_ranked (c.j < d.j) (c.j ≡ d.j) (d.j < c.j) (nat_cmp c.j d.j) (ranked c.j d.j (nat_cmp c.j d.j) refl)
        (λ e lt. let P : Ordering → Type 0 = λ o. Says (ordering_then o (nat_cmp c.grid d.grid)) in subst P (sym e) (record { before = inr (level, inr (column, lt)) }))
        (λ e row. let P : Ordering → Type 0 = λ o. Says (ordering_then o (nat_cmp c.grid d.grid)) in subst P (sym e) (by_grid level column row))
        (λ e gt. let P : Ordering → Type 0 = λ o. Says (ordering_then o (nat_cmp c.grid d.grid)) in subst P (sym e) (record { before = inr (sym level, inr (sym column, gt)) }))

    by_column : c.level ≡ d.level → Says (ordering_then (nat_cmp c.i d.i) rest)
    by_column level =
        by_ranked (c.i < d.i) (c.i ≡ d.i) (d.i < c.i) (nat_cmp c.i d.i) (ranked c.i d.i (nat_cmp c.i d.i) refl)
        (λ e lt. let P : Ordering → Type 0 = λ o. Says (ordering_then o rest) in subst P (sym e) (record { before = inr (level, inl lt) }))
        (λ e column. let P : Ordering → Type 0 = λ o. Says (ordering_then o rest) in subst P (sym e) (by_row level column))
        (λ e gt. let P : Ordering → Type 0 = λ o. Says (ordering_then o rest) in subst P (sym e) (record { before = inr (sym level, inl gt) }))

-- no cell stands before itself
pub IsBefore-irrefl : (c d : Square) → c ≡ d → IsBefore c d → ⊥
IsBefore-irrefl c d e b =
    let level : c.level ≡ d.level = ap (λ (s : Square). s.level) e in
    let i : c.i ≡ d.i = ap (λ (s : Square). s.i) e in
    let j : c.j ≡ d.j = ap (λ (s : Square). s.j) e in
    elim b.before [
      | inl lt ↦ omega arith
      | inr rest ↦ elim rest.1 [ inl lt ↦ omega arith | inr last ↦ absurd (omega (arith, last.1)) ]
    ]

pub IsBefore-asym : (c d : Square) → IsBefore c d → IsBefore d c → ⊥
IsBefore-asym c d p q =
    elim p.before [
      | inl lt ↦
          elim q.before [
            | inl gt ↦ omega arith
            | inr rest ↦ absurd (omega (arith, lt, rest.0))
          ]
      | inr rest ↦
          elim q.before [
            | inl gt ↦ absurd (omega (arith, gt, rest.0))
            | inr other ↦
                elim rest.1 [
                  | inl lt ↦ elim other.1 [ inl gt ↦ omega arith | inr gt ↦ absurd (omega (arith, lt, gt.0)) ]
                  | inr lt ↦ elim other.1 [ inl gt ↦ absurd (omega (arith, gt, lt.0)) | inr gt ↦ absurd (omega (arith, lt.1, gt.1)) ]
                ]
          ]
    ]

-- a cell that stands before another is not above it
pub not_less-from_IsBefore : (c d : Square) → c.grid ≡ d.grid → IsBefore c d → is_lt (square_cmp d c) ≡ false
not_less-from_IsBefore c d same b = by_order (square_cmp d c) refl (square_ranked d c (sym same))
  where
    by_order : (o : Ordering) → square_cmp d c ≡ o → MatchOrdering o (IsBefore d c) (d ≡ c) (IsBefore c d) → is_lt o ≡ false
    by_order Less e h = absurd (IsBefore-asym c d b h)
    by_order Equal e h = refl
    by_order Greater e h = refl

-- of two different cells, one that is not below the other comes after it
pub IsBefore-from_not_less : (c d : Square) → c.grid ≡ d.grid → (c ≡ d → ⊥) → is_lt (square_cmp d c) ≡ false → IsBefore c d
IsBefore-from_not_less c d same other h = by_order (square_cmp d c) h (square_ranked d c (sym same))
  where
    by_order : (o : Ordering) → is_lt o ≡ false → MatchOrdering o (IsBefore d c) (d ≡ c) (IsBefore c d) → IsBefore c d
    by_order Less e m = absurd (let f : true ≡ false = e in cc)
    by_order Equal e m = absurd (other (sym m))
    by_order Greater e m = m

-- cells that compare as equal are, on whatever grids
pub same-from_Equal : (c d : Square) → square_cmp c d ≡ Equal → c ≡ d
same-from_Equal c d e =
    let level = then_equal (nat_cmp c.level d.level) _ e in
    let column = then_equal (nat_cmp c.i d.i) _ level.1 in
    let row = then_equal (nat_cmp c.j d.j) _ column.1 in
    same_square c d (nat_equal c.grid d.grid row.1) (nat_equal c.level d.level level.0) (nat_equal c.i d.i column.0) (nat_equal c.j d.j row.0)
  where
    then_equal : (o p : Ordering) → ordering_then o p ≡ Equal → (o ≡ Equal) × (p ≡ Equal)
    then_equal Less p e = absurd (let f : Less ≡ Equal = e in cc)
    then_equal Equal p e = (refl, e)
    then_equal Greater p e = absurd (let f : Greater ≡ Equal = e in cc)

    nat_equal : (m n : ℕ) → nat_cmp m n ≡ Equal → m ≡ n
    nat_equal m n e =
        let P : Ordering → Type 0 = λ o. MatchOrdering o (m < n) (m ≡ n) (n < m) in
        subst P e (ranked m n (nat_cmp m n) refl)

pub Equal-from_same : (c d : Square) → c ≡ d → square_cmp c d ≡ Equal
Equal-from_same c d e = let P : Square → Type 0 = λ s. square_cmp c s ≡ Equal in subst P e (tied_itself square_cmp_total c)

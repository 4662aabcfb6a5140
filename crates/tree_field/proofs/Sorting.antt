-- Different cells can be put into ascending order.
use Rattle.std.proofs.Common.{ℕ, ◌≡◌, ◌≢◌, ◌<◌, zero, suc, inl, inr, ◌⊎◌, List, [], ◌∷◌, Bool, true, false, cond, refl, sym, ◌∙◌, subst, arith}
use Rattle.std.specs.Prelude.{All, AllPairs, Contains}
use Rattle.std.specs.Ordering.{is_lt}
use Rattle.std.proofs.lemmas.List.Elements.{All-head, All-tail, All-contains, All-nil, All-cons}
use Rattle.std.proofs.lemmas.List.Kept.{AllPairs-cons}
use Rattle.std.specs.Ordering.{MatchOrdering}
use Rattle.std.proofs.Common.{Ordering, Less, Equal, Greater}
use Rattle.std.proofs.lemmas.Bool.{false≢true}
use mathlib.Core.Logic.{⊎_elim}
use Rattle.cell_name.specs.Order.{IsBefore}
use Rattle.cell_name.specs.Square.{Square}
use Rattle.cell_name.proofs.Order.{square_cmp, square_ranked, IsBefore-from_not_less}
use Rattle.exact_math.proofs.Lists.{All-from_members, later, first_differs, rest_differ}

IsBefore-trans : (c d e : Square) → IsBefore c d → IsBefore d e → IsBefore c e
IsBefore-trans c d e p q = record { before = levels p.before q.before }
  where
    rows : (c.i < d.i) ⊎ ((c.i ≡ d.i) × (c.j < d.j)) → (d.i < e.i) ⊎ ((d.i ≡ e.i) × (d.j < e.j)) → (c.i < e.i) ⊎ ((c.i ≡ e.i) × (c.j < e.j))
    rows (inl a) (inl b) = inl (omega arith)
    rows (inl a) (inr b) = inl (omega (arith, b.0))
    rows (inr a) (inl b) = inl (omega (arith, a.0))
    rows (inr a) (inr b) = inr (omega (arith, a.0, b.0), omega (arith, a.1, b.1))

    levels : (c.level < d.level) ⊎ ((c.level ≡ d.level) × ((c.i < d.i) ⊎ ((c.i ≡ d.i) × (c.j < d.j)))) → (d.level < e.level) ⊎ ((d.level ≡ e.level) × ((d.i < e.i) ⊎ ((d.i ≡ e.i) × (d.j < e.j))))
        → (c.level < e.level) ⊎ ((c.level ≡ e.level) × ((c.i < e.i) ⊎ ((c.i ≡ e.i) × (c.j < e.j))))
    levels (inl a) (inl b) = inl (omega arith)
    levels (inl a) (inr b) = inl (omega (arith, b.0))
    levels (inr a) (inl b) = inl (omega (arith, a.0))
    levels (inr a) (inr b) = inr (omega (arith, a.0, b.0), rows a.1 b.1)

before_from_test : (c d : Square) → c.grid ≡ d.grid → is_lt (square_cmp c d) ≡ true → IsBefore c d
before_from_test c d same e = by (square_cmp c d) e (square_ranked c d same)
  where
    by : (o : Ordering) → is_lt o ≡ true → MatchOrdering o (IsBefore c d) (c ≡ d) (IsBefore d c) → IsBefore c d
    by Less e m = m
    by Equal e m = absurd (false≢true e)
    by Greater e m = absurd (false≢true e)

-- a cell put into an ascending list
abbrev insert_cell : Square → List Square → List Square
insert_cell c [] = c ∷ []
insert_cell c (d ∷ ds) = cond (is_lt (square_cmp c d)) (c ∷ (d ∷ ds)) (d ∷ insert_cell c ds)

insert_has : (c : Square) (xs : List Square) → Contains (insert_cell c xs) c
insert_has c [] = (0, omega arith, refl)
insert_has c (d ∷ ds) = step (is_lt (square_cmp c d)) (insert_cell c ds) (insert_has c ds)
  where
    step : (b : Bool) (l : List Square) → Contains l c → Contains (cond b (c ∷ (d ∷ ds)) (d ∷ l)) c
    step true l h = (0, omega arith, refl)
    step false l h = later d c l h

insert_keeps : (c : Square) (xs : List Square) (x : Square) → Contains xs x → Contains (insert_cell c xs) x
insert_keeps c [] x h = absurd (omega (arith, h.1))
insert_keeps c (d ∷ ds) x h = step (is_lt (square_cmp c d)) (insert_cell c ds) h (λ k. insert_keeps c ds x k)
  where
    step : (b : Bool) (l : List Square) → Contains (d ∷ ds) x → (Contains ds x → Contains l x) → Contains (cond b (c ∷ (d ∷ ds)) (d ∷ l)) x
    step true l h rest = later c x (d ∷ ds) h
    step false l (zero, lt, e) rest = (0, omega arith, e)
    step false l (suc k, lt, e) rest = later d x l (rest (k, omega arith, e))

insert_from : (c : Square) (xs : List Square) (x : Square) → Contains (insert_cell c xs) x → (c ≡ x) ⊎ Contains xs x
insert_from c [] x (zero, lt, e) = inl e
insert_from c [] x (suc k, lt, e) = absurd (omega arith)
insert_from c (d ∷ ds) x h = step (is_lt (square_cmp c d)) (insert_cell c ds) h (λ k. insert_from c ds x k)
  where
    step : (b : Bool) (l : List Square) → Contains (cond b (c ∷ (d ∷ ds)) (d ∷ l)) x → (Contains l x → (c ≡ x) ⊎ Contains ds x) → (c ≡ x) ⊎ Contains (d ∷ ds) x
    step true l (zero, lt, e) rest = inl e
    step true l (suc k, lt, e) rest = inr (k, omega arith, e)
    step false l (zero, lt, e) rest = inr (0, omega arith, e)
    step false l (suc k, lt, e) rest = ⊎_elim (λ s. inl s) (λ m. inr (later d x ds m)) (rest (k, omega arith, e))

insert_ascends : (c : Square) (xs : List Square) → All (λ d. c.grid ≡ d.grid) xs → ((d : Square) → Contains xs d → c ≢ d) → AllPairs IsBefore xs → AllPairs IsBefore (insert_cell c xs)
insert_ascends c [] grids apart up = AllPairs-cons IsBefore c [] (All-nil (IsBefore c)) up
insert_ascends c (d ∷ ds) grids apart up =
    step (is_lt (square_cmp c d)) refl (insert_ascends c ds (All-tail (λ d. c.grid ≡ d.grid) d ds grids) (λ x h. apart x (later d x ds h)) (rest_differ IsBefore d ds up))
  where
    same : c.grid ≡ d.grid
    same = grids 0 d (omega arith)

    after : (x : Square) → Contains ds x → IsBefore d x
    after x h = subst (IsBefore d) h.2 (up 0 (suc h.0) x (omega arith) (omega (arith, h.1)))

    step : (b : Bool) → is_lt (square_cmp c d) ≡ b → AllPairs IsBefore (insert_cell c ds) → AllPairs IsBefore (cond b (c ∷ (d ∷ ds)) (d ∷ insert_cell c ds))
    step true e rest =
        let first = before_from_test c d same e in
        AllPairs-cons IsBefore c (d ∷ ds) (All-cons (IsBefore c) d ds first (All-from_members (IsBefore c) ds (λ x h. IsBefore-trans c d x first (after x h)))) up
    step false e rest =
        let first = IsBefore-from_not_less d c (sym same) (λ s. apart d (0, omega arith, refl) (sym s)) e in
        AllPairs-cons IsBefore d (insert_cell c ds) (All-from_members (IsBefore d) (insert_cell c ds) (λ x h. ⊎_elim (λ s. subst (IsBefore d) s first) (after x) (insert_from c ds x h))) rest

-- all of them
abbrev pub sorted_cells : List Square → List Square
sorted_cells [] = []
sorted_cells (c ∷ cs) = insert_cell c (sorted_cells cs)

pub sorted_has : (xs : List Square) (x : Square) → Contains xs x → Contains (sorted_cells xs) x
sorted_has [] x h = absurd (omega (arith, h.1))
sorted_has (c ∷ cs) x (zero, lt, e) = subst (Contains (insert_cell c (sorted_cells cs))) e (insert_has c (sorted_cells cs))
sorted_has (c ∷ cs) x (suc k, lt, e) = insert_keeps c (sorted_cells cs) x (sorted_has cs x (k, omega arith, e))

pub sorted_from : (xs : List Square) (x : Square) → Contains (sorted_cells xs) x → Contains xs x
sorted_from [] x h = absurd (omega (arith, h.1))
sorted_from (c ∷ cs) x h = ⊎_elim (λ s. (0, omega arith, s)) (λ m. later c x cs (sorted_from cs x m)) (insert_from c (sorted_cells cs) x h)

pub sorted_ascend : (grid : ℕ) (xs : List Square) → All (λ c. c.grid ≡ grid) xs → AllPairs (λ a b. a ≢ b) xs → AllPairs IsBefore (sorted_cells xs)
sorted_ascend grid [] grids apart = λ i j d lt inside. absurd (omega arith)
sorted_ascend grid (c ∷ cs) grids apart =
    let rest = All-tail (λ c. c.grid ≡ grid) c cs grids in
    insert_ascends c (sorted_cells cs)
    (All-from_members (λ d. c.grid ≡ d.grid) (sorted_cells cs) (λ d h. All-head (λ c. c.grid ≡ grid) c cs grids ∙ sym (All-contains (λ c. c.grid ≡ grid) cs d rest (sorted_from cs d h))))
    (λ d h. first_differs c d cs apart (sorted_from cs d h))
    (sorted_ascend grid cs rest (rest_differ (λ a b. a ≢ b) c cs apart))

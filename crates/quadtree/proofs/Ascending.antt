-- Cells in ascending order: their list is determined by its members.
use Rattle.std.proofs.Common.{ℕ, ◌≡◌, ◌≢◌, zero, suc, inl, inr, List, [], ◌∷◌, get_or, refl, sym, ap₂, ◌∙◌, subst, arith}
use Rattle.std.specs.Prelude.{AllPairs, Contains}
use Rattle.std.proofs.lemmas.List.Elements.{All-from_recursion, All-nil}
use Rattle.std.proofs.lemmas.List.Kept.{AllPairs-cons}
use Rattle.cell_name.specs.Order.{IsBefore}
use Rattle.cell_name.specs.Square.{Square, child}
use Rattle.cell_name.proofs.Order.{IsBefore-irrefl, IsBefore-asym}
use Rattle.cell_name.specs.Quarters.{quarters}
use Rattle.exact_math.proofs.Lists.{rest_differ, later}

before_later : (x y : Square) (xs : List Square) → AllPairs IsBefore (x ∷ xs) → Contains xs y → IsBefore x y
before_later x y xs up h = subst (IsBefore x) h.2 (up 0 (suc h.0) y (omega arith) (omega (arith, h.1)))

pub ascending_differ : (xs : List Square) → AllPairs IsBefore xs → AllPairs (λ a b. a ≢ b) xs
ascending_differ xs up i j d lt inside e = IsBefore-irrefl (get_or xs i d) (get_or xs j d) e (up i j d lt inside)

pub same_list : (xs ys : List Square) → AllPairs IsBefore xs → AllPairs IsBefore ys → ((c : Square) → Contains xs c → Contains ys c) → ((c : Square) → Contains ys c → Contains xs c) → xs ≡ ys
same_list [] [] p q f g = refl
same_list [] (y ∷ ys) p q f g = absurd (let h = g y (0, omega arith, refl) in omega (arith, h.1))
same_list (x ∷ xs) [] p q f g = absurd (let h = f x (0, omega arith, refl) in omega (arith, h.1))
same_list (x ∷ xs) (y ∷ ys) p q f g =
    ap₂ (λ c l. c ∷ l) heads
    (same_list xs ys (rest_differ IsBefore x xs p) (rest_differ IsBefore y ys q)
    (λ c h. past x y xs ys c p heads h (f c (later x c xs h)))
    (λ c h. past y x ys xs c q (sym heads) h (g c (later y c ys h))))
  where
    second : Contains (y ∷ ys) x → Contains (x ∷ xs) y → x ≡ y
    second (zero, lt, e) b = sym e
    second (suc k, lt, e) (zero, lt', e') = e'
    second (suc k, lt, e) (suc l, lt', e') = absurd (IsBefore-asym x y (before_later x y xs p (l, omega arith, e')) (before_later y x ys q (k, omega arith, e)))

    heads : x ≡ y
    heads = second (f x (0, omega arith, refl)) (g y (0, omega arith, refl))

    -- a later member is none that is first
    past : (x y : Square) (xs ys : List Square) (c : Square) → AllPairs IsBefore (x ∷ xs) → x ≡ y → Contains xs c → Contains (y ∷ ys) c → Contains ys c
    past x y xs ys c up e h (zero, lt, e') = absurd (IsBefore-irrefl x c (e ∙ e') (before_later x c xs up h))
    past x y xs ys c up e h (suc k, lt, e') = (k, omega arith, e')

-- the four quarters of a cell
pub quarters_ascend : (c : Square) → AllPairs IsBefore (quarters c)
quarters_ascend c =
    let sw : Square = child c 0 0 in
    let nw : Square = child c 0 1 in
    let se : Square = child c 1 0 in
    let ne : Square = child c 1 1 in
    AllPairs-cons IsBefore sw (nw ∷ se ∷ ne ∷ []) (All-from_recursion (IsBefore sw) (nw ∷ se ∷ ne ∷ []) (rows 0, (columns 0 0, (columns 0 1, tt))))
    (AllPairs-cons IsBefore nw (se ∷ ne ∷ []) (All-from_recursion (IsBefore nw) (se ∷ ne ∷ []) (columns 1 0, (columns 1 1, tt))) (AllPairs-cons IsBefore se (ne ∷ []) (All-from_recursion (IsBefore se) (ne ∷ []) (rows 1, tt)) (AllPairs-cons IsBefore ne [] (All-nil (IsBefore ne)) none)))
  where
    none : AllPairs IsBefore []
    none i j d lt inside = absurd (omega arith)

    rows : (right : ℕ) → IsBefore (child c right 0) (child c right 1)
    rows right = record { before = inr (refl, inr (refl, omega arith)) }

    columns : (top top' : ℕ) → IsBefore (child c 0 top) (child c 1 top')
    columns top top' = record { before = inr (refl, inl (omega arith)) }

-- No source lies in the cells of two entries of one cell and letter: both would account for it and for a target in the cell.
use Rattle.std.proofs.Common.{ℕ, ◌≡◌, ◌+◌, ◌<◌, ◌≤◌, inl, inr, suc, List, [], ◌∷◌, get_or, Bool, true, false, cond, filter, ap, arith}
use Rattle.std.specs.Prelude.{All, AllPairs, Contains, sum_by}
use Rattle.std.proofs.lemmas.Bool.{and_parts, cases_Bool}
use Rattle.std.proofs.lemmas.List.Elements.{All-tail}
use Rattle.std.proofs.lemmas.List.Sums.{sum_by-cons}
use mathlib.Core.Logic.{⊎_elim}
use Rattle.cell_name.specs.Order.{IsBefore}
use Rattle.cell_name.specs.Square.{Square, holds_test}
use Rattle.cell_name.proofs.HoldsTest.{Holds-from_test}
use Rattle.cell_name.proofs.Order.{IsBefore-irrefl}
use Rattle.cell_lists.specs.Entries.{IsEntry, IsTargetAndSource}
use Rattle.cell_lists.proofs.OneEntry.{only_entry}
use Rattle.letters.specs.declared.Letter.{Letter}
use Rattle.points.specs.Points.{is_source}
use Rattle.points.specs.declared.Point.{Point}
use Rattle.quadtree.specs.Tree.{AreInGrid, IsTreeCell, is_source_in}
use Rattle.tree_field.specs.Lists.{TreeLists, AreTreeLists}
use Rattle.exact_math.proofs.Lists.{All-from_members, AllPairs-both, rest_differ}
use Rattle.tree_field.specs.Sizes.{EntriesShareNoSource}
use Rattle.quadtree.proofs.Occupants.{target_in}

-- ---- sums over what tests keep
-- a test passes for one of two members at most
abbrev NotBoth : {A : Type 0} → (A → Bool) → A → A → Type 0
NotBoth f c d = f c ≡ true → f d ≡ true → ⊥

-- what a member adds where a test passes
abbrev share : Bool → ℕ → ℕ
share b n = cond {A = ℕ} b n 0

no_share : {A : Type 0} (f : A → Bool) (n : ℕ) (cs : List A) → All (λ c. f c ≡ false) cs → sum_by (λ c. share (f c) n) cs ≡ 0
no_share f n [] h = omega arith
no_share f n (c ∷ cs) h =
    let none : share (f c) n ≡ 0 = ap (λ b. share b n) (h 0 c (omega arith)) in
    omega (arith, none, sum_by-cons (λ c. share (f c) n) c cs, no_share f n cs (All-tail (λ c. f c ≡ false) c cs h))

one_share : {A : Type 0} (f : A → Bool) (n : ℕ) (cs : List A) → AllPairs (NotBoth f) cs → sum_by (λ c. share (f c) n) cs ≤ n
one_share f n [] h = omega arith
one_share {A} f n (c ∷ cs) h = elim (cases_Bool (f c)) [
  | inl t ↦
      let one : share (f c) n ≡ n = ap (λ b. share b n) t in
      let rest = no_share f n cs (λ k d lt. others t (get_or cs k d) (h 0 (suc k) d (omega arith) (omega arith))) in
      omega (arith, one, rest, sum_by-cons (λ c. share (f c) n) c cs)
  | inr e ↦
      let none : share (f c) n ≡ 0 = ap (λ b. share b n) e in
      let rest = one_share f n cs (rest_differ (NotBoth f) c cs h) in
      omega (arith, none, rest, sum_by-cons (λ c. share (f c) n) c cs)
]
  where
    others : f c ≡ true → (d : A) → NotBoth f c d → f d ≡ false
    others t d apart = ⊎_elim (λ u. absurd (apart t u)) (λ e. e) (cases_Bool (f d))

module _ {A B : Type 0} (f : A → B → Bool) (w : B → ℕ) where
  -- one more in the list
  more : (b : Bool) (p : B) (kept : List B) → sum_by w (cond b (p ∷ kept) kept) ≡ share b (w p) + sum_by w kept
  more true p kept = sum_by-cons w p kept
  more false p kept = omega arith

  each_more : (p : B) (ps : List B) (cs : List A)
      → sum_by (λ c. sum_by w (filter (f c) (p ∷ ps))) cs ≡ sum_by (λ c. share (f c p) (w p)) cs + sum_by (λ c. sum_by w (filter (f c) ps)) cs
  each_more p ps [] = omega arith
  each_more p ps (c ∷ cs) =
      let a = sum_by-cons (λ c. sum_by w (filter (f c) (p ∷ ps))) c cs in
      let b = sum_by-cons (λ c. share (f c p) (w p)) c cs in
      let d = sum_by-cons (λ c. sum_by w (filter (f c) ps)) c cs in
      let here = more (f c p) p (filter (f c) ps) in
      omega (arith, a, b, d, here, each_more p ps cs)

  none_kept : (cs : List A) → sum_by (λ c. sum_by w (filter (f c) [])) cs ≡ 0
  none_kept [] = omega arith
  none_kept (c ∷ cs) = omega (arith, sum_by-cons (λ c. sum_by w (filter (f c) [])) c cs, none_kept cs)

  -- tests of which no two pass one member keep no more together than there is
  pub sum_by-disjoint : (cs : List A) (xs : List B) → All (λ p. AllPairs (NotBoth (λ c. f c p)) cs) xs → sum_by (λ c. sum_by w (filter (f c) xs)) cs ≤ sum_by w xs
  sum_by-disjoint cs [] apart = omega (arith, none_kept cs)
  sum_by-disjoint cs (p ∷ ps) apart =
      let one = one_share (λ c. f c p) (w p) cs (apart 0 p (omega arith)) in
      let rest = sum_by-disjoint cs ps (All-tail (λ p. AllPairs (NotBoth (λ c. f c p)) cs) p ps apart) in
      omega (arith, one, rest, each_more p ps cs, sum_by-cons w p ps)

-- ---- entries
module _ (grid : ℕ) (points : List Point) (cap : ℕ) (lists : TreeLists) (positive : 0 < grid) (inside : AreInGrid grid points) (are : AreTreeLists grid points cap lists) where
  -- two entries with a source in common are one
  same_entry : (letter : Letter) (b c d : Square) (p : Point) → Contains points p → IsEntry grid points cap letter b c → IsEntry grid points cap letter b d → is_source_in c p ≡ true → is_source_in d p ≡ true → c ≡ d
  same_entry letter b c d p listed ec ed tc td =
      let in_c = and_parts (is_source p.kind) (holds_test c p.x p.y) tc in
      let in_d = and_parts (is_source p.kind) (holds_test d p.x p.y) td in
      let t = target_in points b ec.target in
      let pair : IsTargetAndSource points t.point p = record { target_listed = t.listed; is_target = t.passes; source_listed = listed; is_source = in_c.0 } in
      let one = only_entry grid points cap letter b d t.point p positive inside pair ed (record { target_held = t.held; source_held = Holds-from_test d p.x p.y in_d.1 }) in
      (one letter b c ec (record { target_held = t.held; source_held = Holds-from_test c p.x p.y in_c.1 })).2

  -- and so no source lies in two of their cells
  not_in_both : (letter : Letter) (b : Square) → IsTreeCell grid points cap b → (p : Point) → Contains points p → AllPairs (NotBoth (λ c. is_source_in c p)) (lists.entries letter b)
  not_in_both letter b tb p listed =
      let es = are.entries_are letter b tb in
      AllPairs-both (IsEntry grid points cap letter b) IsBefore (NotBoth (λ c. is_source_in c p)) (lists.entries letter b) es.each es.ascending
      (λ c d ec ed before tc td. IsBefore-irrefl c d (same_entry letter b c d p listed ec ed tc td) before)

pub entries_share_no_source : EntriesShareNoSource
entries_share_no_source grid points cap lists positive inside are letter b tb w =
    let cells : List Square = lists.entries letter b in
    sum_by-disjoint is_source_in w cells points
    (All-from_members (λ p. AllPairs (NotBoth (λ c. is_source_in c p)) cells) points (not_in_both grid points cap lists positive inside are letter b tb))

-- One more list.
use Rattle.std.proofs.Common.{ℕ, ◌≡◌, ◌+◌, ◌-◌, List, [], ◌∷◌, ◌++◌, length, drop, refl, sym, ap, ◌∙◌, subst, arith, length-append}
use Rattle.std.specs.Prelude.{All, slice_range, sum_by}
use Rattle.std.proofs.lemmas.List.{map-append}
use Rattle.std.proofs.lemmas.List.Elements.{All-head, All-tail, All-push, All-weaker}
use Rattle.std.proofs.lemmas.List.Edits.{length-between}
use Rattle.std.proofs.lemmas.List.Sums.{sum_by-append, sum_by-cons}
use Rattle.std.proofs.lemmas.Slice.{between_to_end}
use Rattle.std.proofs.Math.Seq.{drop-append_seam}
use Rattle.quadtree.proofs.Runs.{slice_range-grown}
use Rattle.cell_lists.specs.declared.flat.Range.{Range}
use Rattle.cell_lists.specs.FlatLists.{lists_in, IsRange, AreRanges}

lists_kept : (items more : List ℕ) (ranges : List Range) → All (IsRange items) ranges → lists_in (items ++ more) ranges ≡ lists_in items ranges
lists_kept items more [] h = refl
lists_kept items more (r ∷ rs) h =
    let here = All-head (IsRange items) r rs h in
    let e = slice_range-grown items more r.from r.to here.ordered here.in_range in
    let rest = lists_kept items more rs (All-tail (IsRange items) r rs h) in
    ap (λ l. l ∷ lists_in (items ++ more) rs) e ∙ ap (λ l. slice_range items r.from r.to ∷ l) rest

-- the range of what was appended has just that
last_list : (items more : List ℕ) (from to : ℕ) → from ≡ length items → to ≡ length (items ++ more) → slice_range (items ++ more) from to ≡ more
last_list items more from to lo hi =
    between_to_end (items ++ more) from to (omega (arith, hi)) ∙ ap (λ n. drop n (items ++ more)) lo ∙ drop-append_seam items more

pub lists_push : (items more items' : List ℕ) (ranges ranges' : List Range) (r : Range) (was : List (List ℕ)) → items' ≡ items ++ more → ranges' ≡ ranges ++ r ∷ [] → r.from ≡ length items → r.to ≡ length items' → All (IsRange items) ranges → lists_in items ranges ≡ was → lists_in items' ranges' ≡ was ++ more ∷ []
lists_push items more items' ranges ranges' r was grown pushed from to ordered is =
    let f : Range → List ℕ = λ (q : Range). slice_range (items ++ more) q.from q.to in
    let last : slice_range (items ++ more) r.from r.to ≡ more = last_list items more r.from r.to from (to ∙ ap length grown) in
    ap (λ l. lists_in l ranges') grown ∙ ap (lists_in (items ++ more)) pushed ∙ map-append f ranges (r ∷ []) ∙
    ap (λ l. l ++ slice_range (items ++ more) r.from r.to ∷ []) (lists_kept items more ranges ordered ∙ is) ∙ ap (λ l. was ++ l ∷ []) last

-- a range is as long as its list
lists_total : (items : List ℕ) (ranges : List Range) → All (IsRange items) ranges → sum_by (λ (l : List ℕ). length l) (lists_in items ranges) ≡ sum_by (λ (r : Range). r.to - r.from) ranges
lists_total items [] h = refl
lists_total items (r ∷ rs) h =
    let here = All-head (IsRange items) r rs h in
    let rest = lists_total items rs (All-tail (IsRange items) r rs h) in
    let size : length (slice_range items r.from r.to) ≡ r.to - r.from = length-between items r.from r.to here.in_range in
    rw (sum_by-cons (λ (l : List ℕ). length l) (slice_range items r.from r.to) (lists_in items rs), sum_by-cons (λ (q : Range). q.to - q.from) r rs) (omega (arith, rest, size))

pub total_is : (items : List ℕ) (ranges : List Range) (lists : List (List ℕ)) → AreRanges items ranges → lists_in items ranges ≡ lists → length items ≡ sum_by (λ (l : List ℕ). length l) lists
total_is items ranges lists h is = h.filled ∙ sym (lists_total items ranges h.each) ∙ ap (sum_by (λ (l : List ℕ). length l)) is

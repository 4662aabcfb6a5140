-- One more row.
use Rattle.std.proofs.Common.{ℕ, ◌≡◌, ◌-◌, List, [], ◌∷◌, ◌++◌, length, take, drop, refl, sym, ap, ◌∙◌, subst, arith, length-append}
use Rattle.std.specs.Prelude.{slice_range}
use Rattle.std.proofs.lemmas.List.{take-append-le, drop-append-le, length-drop, map-append}
use Rattle.std.proofs.lemmas.List.Elements.{All-head, All-tail, All-append, All-weaker, All-cons, All-nil}
use Rattle.std.proofs.lemmas.Slice.{between_to_end}
use Rattle.std.proofs.Math.Seq.{drop-append_seam}
use Rattle.certificate_nodes.specs.declared.point_rows.Range.{Range}
use Rattle.certificate_nodes.specs.PointRows.{rows_in, IsRowRange, AreRowRanges}
use Rattle.points.specs.declared.Point.{Point}

-- a range of points that go on
range_kept : (items more : List Point) (r : Range) → IsRowRange items r → slice_range (items ++ more) r.from r.to ≡ slice_range items r.from r.to
range_kept items more r h =
    ap (take (r.to - r.from)) (drop-append-le r.from items more (omega (arith, h.ordered, h.in_range))) ∙ take-append-le (r.to - r.from) (drop r.from items) more (omega (arith, h.in_range, length-drop r.from items))

rows_kept : (items more : List Point) (ranges : List Range) → AreRowRanges items ranges → rows_in (items ++ more) ranges ≡ rows_in items ranges
rows_kept items more [] h = refl
rows_kept items more (r ∷ rs) h =
    let e = range_kept items more r (All-head (IsRowRange items) r rs h) in
    let rest = rows_kept items more rs (All-tail (IsRowRange items) r rs h) in
    ap (λ l. l ∷ rows_in (items ++ more) rs) e ∙ ap (λ l. slice_range items r.from r.to ∷ l) rest

-- the range of what was appended has just that
last_row : (items more : List Point) (from to : ℕ) → from ≡ length items → to ≡ length (items ++ more) → slice_range (items ++ more) from to ≡ more
last_row items more from to lo hi =
    between_to_end (items ++ more) from to (omega (arith, hi)) ∙ ap (λ n. drop n (items ++ more)) lo ∙ drop-append_seam items more

pub rows_push : (items more items' : List Point) (ranges ranges' : List Range) (r : Range) (was : List (List Point)) → items' ≡ items ++ more → ranges' ≡ ranges ++ r ∷ [] → r.from ≡ length items → r.to ≡ length items' → AreRowRanges items ranges → rows_in items ranges ≡ was → rows_in items' ranges' ≡ was ++ more ∷ []
rows_push items more items' ranges ranges' r was grown pushed from to ordered is =
    let f : Range → List Point = λ (q : Range). slice_range (items ++ more) q.from q.to in
    let last : slice_range (items ++ more) r.from r.to ≡ more = last_row items more r.from r.to from (to ∙ ap length grown) in
    ap (λ l. rows_in l ranges') grown ∙ ap (rows_in (items ++ more)) pushed ∙ map-append f ranges (r ∷ []) ∙
    ap (λ l. l ++ slice_range (items ++ more) r.from r.to ∷ []) (rows_kept items more ranges ordered ∙ is) ∙ ap (λ l. was ++ l ∷ []) last

range_longer : (items more : List Point) (r : Range) → IsRowRange items r → IsRowRange (items ++ more) r
range_longer items more r h = record { ordered = h.ordered; in_range = omega (arith, h.in_range, length-append items more) }

pub ranges_push : (items more items' : List Point) (ranges ranges' : List Range) (r : Range) → items' ≡ items ++ more → ranges' ≡ ranges ++ r ∷ [] → r.from ≡ length items → r.to ≡ length items' → AreRowRanges items ranges → AreRowRanges items' ranges'
ranges_push items more items' ranges ranges' r grown pushed from to ordered =
    subst (λ l. AreRowRanges l ranges') (sym grown)
    (subst (AreRowRanges (items ++ more)) (sym pushed)
    (All-append (IsRowRange (items ++ more)) ranges (r ∷ []) (All-weaker (IsRowRange items) (IsRowRange (items ++ more)) (range_longer items more) ranges ordered)
    (All-cons (IsRowRange (items ++ more)) r [] (record { ordered = omega (arith, from, to, ap length grown, length-append items more); in_range = omega (arith, to, ap length grown) }) (All-nil (IsRowRange (items ++ more))))))

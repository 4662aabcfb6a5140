-- One more row, and the numbers of rows of boxes.
use Rattle.std.proofs.Common.{ℕ, zero, suc, ◌≡◌, ◌<◌, ◌≤◌, ◌-◌, ◌*◌, ◌^◌, ℤ, pos, List, [], ◌∷◌, ◌++◌, length, take, drop, get_or, refl, sym, ap, ap₂, ◌∙◌, subst, append_assoc, arith}
use Rattle.std.specs.Prelude.{slice_range, Result, Ok, Err, OnErr}
use Rattle.std.proofs.lemmas.List.{take-append-le, drop-append-le, length-drop, map-append}
use Rattle.std.proofs.lemmas.List.Elements.{All-head, All-tail}
use Rattle.std.proofs.lemmas.Slice.{between_to_end}
use Rattle.std.proofs.Math.ListN.{replicate}
use Rattle.std.proofs.Math.Seq.{drop-append_seam}
use Rattle.exact_math.specs.Ends.{zero_box}
use Rattle.exact_math.specs.Within.{Within}
use Rattle.complex_box.specs.Box.{box_ends}
use Rattle.complex_box.specs.declared.CBox.{CBox}
use Rattle.row_recursions.specs.Rows.{row_of}
use Rattle.cert_text.specs.declared.rows.Range.{Range}
use Rattle.cert_text.specs.Certificate.{nth_number}
use Rattle.cert_text.specs.Rows.{numbers_of, AreBoxEnds, rows_in, IsRowRange, AreRowRanges, local_numbers, local_rows, row_at}

-- a range of boxes that go on
range_kept : (items more : List CBox) (r : Range) → IsRowRange items r → slice_range (items ++ more) r.from r.to ≡ slice_range items r.from r.to
range_kept items more r h =
    ap (take (r.to - r.from)) (drop-append-le r.from items more (omega (arith, h.ordered, h.in_range))) ∙ take-append-le (r.to - r.from) (drop r.from items) more (omega (arith, h.in_range, length-drop r.from items))

pub rows_kept : (items more : List CBox) (ranges : List Range) → AreRowRanges items ranges → rows_in (items ++ more) ranges ≡ rows_in items ranges
rows_kept items more [] h = refl
rows_kept items more (r ∷ rs) h =
    let e = ap numbers_of (range_kept items more r (All-head (IsRowRange items) r rs h)) in
    let rest = rows_kept items more rs (All-tail (IsRowRange items) r rs h) in
    ap (λ l. l ∷ rows_in (items ++ more) rs) e ∙ ap (λ l. numbers_of (slice_range items r.from r.to) ∷ l) rest

-- the range of what was appended has just that
last_row : (items more : List CBox) (from to : ℕ) → from ≡ length items → to ≡ length (items ++ more) → slice_range (items ++ more) from to ≡ more
last_row items more from to lo hi =
    between_to_end (items ++ more) from to (omega (arith, hi)) ∙ ap (λ n. drop n (items ++ more)) lo ∙ drop-append_seam items more

pub rows_push : (items more items' : List CBox) (numbers : List ℤ) (ranges ranges' : List Range) (r : Range) (was : List (List ℤ)) → items' ≡ items ++ more → numbers_of more ≡ numbers → ranges' ≡ ranges ++ r ∷ [] → r.from ≡ length items → r.to ≡ length items' → AreRowRanges items ranges → rows_in items ranges ≡ was → rows_in items' ranges' ≡ was ++ numbers ∷ []
rows_push items more items' numbers ranges ranges' r was grown made pushed from to ordered is =
    let f : Range → List ℤ = λ (q : Range). numbers_of (slice_range (items ++ more) q.from q.to) in
    let last : numbers_of (slice_range (items ++ more) r.from r.to) ≡ numbers = ap numbers_of (last_row items more r.from r.to from (to ∙ ap length grown)) ∙ made in
    ap (λ l. rows_in l ranges') grown ∙ ap (rows_in (items ++ more)) pushed ∙ map-append f ranges (r ∷ []) ∙
    ap (λ l. l ++ numbers_of (slice_range (items ++ more) r.from r.to) ∷ []) (rows_kept items more ranges ordered ∙ is) ∙ ap (λ l. was ++ l ∷ []) last

-- ---- the numbers of boxes
pub numbers_push : (bs : List CBox) (b : CBox) → numbers_of (bs ++ b ∷ []) ≡ numbers_of bs ++ b.re.lo ∷ b.re.hi ∷ b.im.lo ∷ b.im.hi ∷ []
numbers_push [] b = refl
numbers_push (a ∷ bs) b = ap (λ zs. a.re.lo ∷ a.re.hi ∷ a.im.lo ∷ a.im.hi ∷ zs) (numbers_push bs b)

pub numbers_length : (bs : List CBox) → length (numbers_of bs) ≡ 4 * length bs
numbers_length [] = refl
numbers_length (b ∷ bs) = omega (arith, numbers_length bs)

-- ---- local rows
pub local_push : (radii : List ℤ) (rows : List (List ℤ)) (radius : ℤ) (ends : List ℤ) → length radii ≡ length rows → local_rows (radii ++ radius ∷ []) (rows ++ ends ∷ []) ≡ local_rows radii rows ++ local_numbers radius ends ∷ []
local_push [] [] radius ends e = refl
local_push [] (row ∷ rows) radius ends e = absurd (omega (arith, e))
local_push (r ∷ radii) [] radius ends e = absurd (omega (arith, e))
local_push (r ∷ radii) (row ∷ rows) radius ends e = ap (λ l. local_numbers r row ∷ l) (local_push radii rows radius ends (omega (arith, e)))

pub local_length : (radii : List ℤ) (rows : List (List ℤ)) → length radii ≡ length rows → length (local_rows radii rows) ≡ length radii
local_length [] rows e = refl
local_length (r ∷ radii) [] e = absurd (omega (arith, e))
local_length (r ∷ radii) (row ∷ rows) e = omega (arith, local_length radii rows (omega (arith, e)))

-- the ends and the radius of a local row
pub local_ends_at : (radii : List ℤ) (rows : List (List ℤ)) (n : ℕ) → length radii ≡ length rows → drop 1 (row_at (local_rows radii rows) n) ≡ row_at rows n
local_ends_at [] [] n e = refl
local_ends_at [] (row ∷ rows) n e = absurd (omega (arith, e))
local_ends_at (r ∷ radii) [] n e = absurd (omega (arith, e))
local_ends_at (r ∷ radii) ([] ∷ rows) zero e = refl
local_ends_at (r ∷ radii) ((z ∷ zs) ∷ rows) zero e = refl
local_ends_at (r ∷ radii) (row ∷ rows) (suc n) e = local_ends_at radii rows n (omega (arith, e))

pub no_radius : (radii : List ℤ) (rows : List (List ℤ)) (n : ℕ) → length radii ≡ length rows → length (row_at rows n) ≡ 0 → pos 0 ≡ nth_number (row_at (local_rows radii rows) n) 0
no_radius [] rows n e none = refl
no_radius (r ∷ radii) [] n e none = absurd (omega (arith, e))
no_radius (r ∷ radii) ([] ∷ rows) zero e none = refl
no_radius (r ∷ radii) ((z ∷ zs) ∷ rows) zero e none = absurd (omega (arith, none))
no_radius (r ∷ radii) (row ∷ rows) (suc n) e none = no_radius radii rows n (omega (arith, e)) none

pub radius_at : (radii : List ℤ) (rows : List (List ℤ)) (n : ℕ) (x : ℤ) → length radii ≡ length rows → n < length radii → 0 < length (row_at rows n) → x ≡ get_or radii n x → x ≡ nth_number (row_at (local_rows radii rows) n) 0
radius_at [] rows n x e lt some is = absurd (omega (arith, lt))
radius_at (r ∷ radii) [] n x e lt some is = absurd (omega (arith, e))
radius_at (r ∷ radii) ([] ∷ rows) zero x e lt some is = absurd (omega (arith, some))
radius_at (r ∷ radii) ((z ∷ zs) ∷ rows) zero x e lt some is = is
radius_at (r ∷ radii) (row ∷ rows) (suc n) x e lt some is = radius_at radii rows n x (omega (arith, e)) (omega (arith, lt)) some is

-- ---- one box more
pub four_within : (rest : List ℤ) → AreBoxEnds rest → 4 ≤ length rest → Within (2 ^ 126) (nth_number rest 0) × Within (2 ^ 126) (nth_number rest 1) × Within (2 ^ 126) (nth_number rest 2) × Within (2 ^ 126) (nth_number rest 3)
four_within [] h long = absurd (omega (arith, long))
four_within (i ∷ []) h long = absurd (omega (arith, long))
four_within (i ∷ j ∷ []) h long = absurd (omega (arith, long))
four_within (i ∷ j ∷ k ∷ []) h long = absurd (omega (arith, long))
four_within (i ∷ j ∷ k ∷ m ∷ zs) h long = (h.0.within.lo, h.0.within.hi, h.1.within.lo, h.1.within.hi)

pub boxes_more : (old items new : List CBox) (b : CBox) (numbers rest left : List ℤ) → ((more : List CBox) × (items ≡ old ++ more) × (numbers_of more ++ rest ≡ numbers)) × AreBoxEnds rest → new ≡ items ++ b ∷ [] → 4 ≤ length rest → left ≡ drop 4 rest → b.re.lo ≡ nth_number rest 0 → b.re.hi ≡ nth_number rest 1 → b.im.lo ≡ nth_number rest 2 → b.im.hi ≡ nth_number rest 3 → ((more : List CBox) × (new ≡ old ++ more) × (numbers_of more ++ left ≡ numbers)) × AreBoxEnds left
boxes_more old items new b numbers [] left h grown long is p q r s = absurd (omega (arith, long))
boxes_more old items new b numbers (i ∷ []) left h grown long is p q r s = absurd (omega (arith, long))
boxes_more old items new b numbers (i ∷ j ∷ []) left h grown long is p q r s = absurd (omega (arith, long))
boxes_more old items new b numbers (i ∷ j ∷ k ∷ []) left h grown long is p q r s = absurd (omega (arith, long))
boxes_more old items new b numbers (i ∷ j ∷ k ∷ m ∷ zs) left h grown long is p q r s =
    let more = h.0.0 ++ b ∷ [] in
    let last : b.re.lo ∷ b.re.hi ∷ b.im.lo ∷ b.im.hi ∷ left ≡ i ∷ j ∷ k ∷ m ∷ zs = ap₂ ◌∷◌ p (ap₂ ◌∷◌ q (ap₂ ◌∷◌ r (ap₂ ◌∷◌ s is))) in
    let all : numbers_of more ++ left ≡ numbers =
    ap (λ l. l ++ left) (numbers_push h.0.0 b) ∙ append_assoc (numbers_of h.0.0) (b.re.lo ∷ b.re.hi ∷ b.im.lo ∷ b.im.hi ∷ []) left ∙ ap (λ l. numbers_of h.0.0 ++ l) last ∙ h.0.2 in
    ((more, grown ∙ ap (λ l. l ++ b ∷ []) h.0.1 ∙ append_assoc old h.0.0 (b ∷ []), all), subst AreBoxEnds (sym is) h.1.2)

-- ---- zero boxes
pub zeros_all : (n : ℕ) (b : CBox) → box_ends b ≡ zero_box → (k : ℕ) → row_of (replicate n b) k ≡ zero_box
zeros_all zero b e k = refl
zeros_all (suc n) b e zero = e
zeros_all (suc n) b e (suc k) = zeros_all n b e k

-- what holds, holds of an error
pub on_error : {A E : Type 0} (r : Result A E) (P : Type 0) → P → OnErr r P
on_error (Ok x) P h = tt
on_error (Err e) P h = h

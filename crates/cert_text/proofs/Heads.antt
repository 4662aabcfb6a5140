-- Line 1, read as six numbers.
use Rattle.std.proofs.Common.{◌≡◌, ◌≢◌, ◌+◌, ◌≤◌, ◌<◌, ◌^◌, inl, inr, ℕ, zero, suc, ℤ, pos, negsuc, min, Bool, true, false, List, [], ◌∷◌, ◌++◌, length, get_or, take, map, sym, ap, ◌∙◌, subst, refl, arith, SFits, to_z, of_z, get_or-take, append_assoc, ◌-◌}
use Rattle.std.specs.Int.{w128}
use Rattle.std.specs.Prelude.{codes, cond, ◌==◌}
use Rattle.std.proofs.lemmas.Int.{ints, to_z-of_z}
use Rattle.std.proofs.lemmas.List.{append_cancel_left}
use Rattle.limits.specs.Limits.{IsVersion, grid_of, first_grid, by_grid, most_points, most_cells, most_entries}
use Rattle.limits.proofs.Grids.{version_cases}
use Rattle.points.specs.Limits.{IsOrderOf}
use Rattle.number_text.specs.Numbers.{numbers_text, cut_wide, most_wide}
use Rattle.number_text.proofs.NumbersText.{numbers_text-once}
use Rattle.cert_text.specs.declared.form.Found.{Found}
use Rattle.cert_text.specs.Lines.{Line, line, line_bytes, first_line}
use Rattle.cert_text.specs.Sections.{HasWord, AreCounts, IsNumberBelow}
use Rattle.cert_text.specs.Faults.{BeginWith, BeginWithHead, HeadFault}
use Rattle.cert_text.specs.declared.fault.CertKind.TheVariants.{Syntax, Range}
use Rattle.cert_text.specs.Private.{HasNone, IsFound}

-- ---- numbers that are cut
pub cut_kept : (n : ℕ) → n ≤ most_wide → cut_wide (pos n) ≡ pos n
cut_kept n small = ap pos (omega (arith, small))

pub cut_back : (z : ℤ) (n : ℕ) → n < most_wide → cut_wide z ≡ pos n → z ≡ pos n
cut_back (pos m) n small is = ap pos (omega (arith, small, is_pos m n is))
  where
    is_pos : (m n : ℕ) → pos (min m most_wide) ≡ pos n → min m most_wide ≡ n
    is_pos m n e = cc
cut_back (negsuc m) n small is = omega (arith, ints, small, is)

-- a number that was read, as a number of 128 bits holds it
abbrev pub held : ℤ → ℤ
held z = to_z w128 (of_z w128 z)

pub held_cut : (z : ℤ) → held (cut_wide z) ≡ cut_wide z
held_cut (pos n) = to_z-of_z w128 (cut_wide (pos n)) (omega (arith, ints))
held_cut (negsuc n) = to_z-of_z w128 (cut_wide (negsuc n)) (omega (arith, ints))

-- ---- six numbers
-- the first six of some numbers are these, cut
pub record AreSix (numbers : List ℤ) (a b c d e f : ℤ) : Type 0 where
  pub first : held (get_or numbers 0 (pos 0)) ≡ cut_wide a
  pub second : held (get_or numbers 1 (pos 0)) ≡ cut_wide b
  pub third : held (get_or numbers 2 (pos 0)) ≡ cut_wide c
  pub fourth : held (get_or numbers 3 (pos 0)) ≡ cut_wide d
  pub fifth : held (get_or numbers 4 (pos 0)) ≡ cut_wide e
  pub sixth : held (get_or numbers 5 (pos 0)) ≡ cut_wide f

are_six : (numbers : List ℤ) (a b c d e f : ℤ) → take 6 numbers ≡ map cut_wide (a ∷ b ∷ c ∷ d ∷ e ∷ f ∷ []) → AreSix numbers a b c d e f
are_six numbers a b c d e f are = record {
  first = at 0 a (omega arith) (ap (λ zs. get_or zs 0 (pos 0)) are);
  second = at 1 b (omega arith) (ap (λ zs. get_or zs 1 (pos 0)) are);
  third = at 2 c (omega arith) (ap (λ zs. get_or zs 2 (pos 0)) are);
  fourth = at 3 d (omega arith) (ap (λ zs. get_or zs 3 (pos 0)) are);
  fifth = at 4 e (omega arith) (ap (λ zs. get_or zs 4 (pos 0)) are);
  sixth = at 5 f (omega arith) (ap (λ zs. get_or zs 5 (pos 0)) are);
}
  where
    at : (k : ℕ) (z : ℤ) → k < 6 → get_or (take 6 numbers) k (pos 0) ≡ cut_wide z → held (get_or numbers k (pos 0)) ≡ cut_wide z
    at k z below is = ap held (sym (get_or-take 6 numbers k (pos 0) below) ∙ is) ∙ held_cut z

-- line 1 as it was read
pub record IsLineOne (bytes rest : List ℕ) (numbers : List ℤ) : Type 0 where
  pub version : ℤ
  pub order : ℤ
  pub points : ℤ
  pub targets : ℤ
  pub cells : ℤ
  pub entries : ℤ
  pub begin : BeginWith bytes (line (codes "fmmcert") (version ∷ order ∷ points ∷ targets ∷ cells ∷ entries ∷ [])) rest
  pub are : AreSix numbers version order points targets cells entries

line_one_of : (bytes rest : List ℕ) (numbers zs : List ℤ) → length zs ≡ 6 → take 6 numbers ≡ map cut_wide zs → BeginWith bytes (line (codes "fmmcert") zs) rest → IsLineOne bytes rest numbers
line_one_of bytes rest numbers [] long are begin = absurd (omega (arith, long))
line_one_of bytes rest numbers (a ∷ []) long are begin = absurd (omega (arith, long))
line_one_of bytes rest numbers (a ∷ b ∷ []) long are begin = absurd (omega (arith, long))
line_one_of bytes rest numbers (a ∷ b ∷ c ∷ []) long are begin = absurd (omega (arith, long))
line_one_of bytes rest numbers (a ∷ b ∷ c ∷ d ∷ []) long are begin = absurd (omega (arith, long))
line_one_of bytes rest numbers (a ∷ b ∷ c ∷ d ∷ e ∷ []) long are begin = absurd (omega (arith, long))
line_one_of bytes rest numbers (a ∷ b ∷ c ∷ d ∷ e ∷ f ∷ []) long are begin =
    record { version = a; order = b; points = c; targets = d; cells = e; entries = f; begin = begin; are = are_six numbers a b c d e f are }
line_one_of bytes rest numbers (a ∷ b ∷ c ∷ d ∷ e ∷ f ∷ g ∷ zs) long are begin = absurd (omega (arith, long))

pub line_one : (bytes : List ℕ) (numbers : List ℤ) (found : Found) → IsFound (HasWord (codes "fmmcert") 6) bytes numbers found → IsLineOne bytes found.rest.now numbers
line_one bytes numbers found is =
    line_one_of bytes found.rest.now numbers is.line.numbers is.form.count_is (subst (λ n. take n numbers ≡ map cut_wide is.line.numbers) (is.count_is ∙ is.form.count_is) is.numbers_are)
    (subst (λ w. bytes ≡ (w ++ numbers_text is.line.numbers) ++ found.rest.now) is.form.word_is is.begin)

-- the numbers of line 1 are read in one way
same_numbers : (bytes rest : List ℕ) (zs : List ℤ) (version order : ℕ) (counts : List ℤ) → length zs ≡ 6 → BeginWith bytes (line (codes "fmmcert") zs) rest → BeginWithHead bytes version order counts → pos version ∷ pos order ∷ counts ≡ zs
same_numbers bytes rest zs version order counts six begin begins =
    let ys : List ℤ = pos version ∷ pos order ∷ counts in
    let same : codes "fmmcert" ++ (numbers_text ys ++ begins.rest) ≡ codes "fmmcert" ++ (numbers_text zs ++ rest) =
    sym (append_assoc (codes "fmmcert") (numbers_text ys) begins.rest) ∙ sym begins.begin ∙ begin ∙ append_assoc (codes "fmmcert") (numbers_text zs) rest in
    (numbers_text-once ys zs begins.rest rest (omega (arith, six, begins.four)) (append_cancel_left (codes "fmmcert") (numbers_text ys ++ begins.rest) (numbers_text zs ++ rest) same)).0

-- ---- what is wrong with line 1
pub no_first : (bytes : List ℕ) → HasNone (HasWord (codes "fmmcert") 6) bytes → HeadFault bytes Syntax
no_first bytes none version order counts begins =
    none (first_line version order counts) begins.rest (record { word_is = refl; count_is = omega (arith, begins.four) }) begins.begin

small_version : (version : ℕ) → IsVersion version → version < most_wide
small_version version is = elim (version_cases version is) [ inl e ↦ omega (arith, e) | inr e ↦ omega (arith, e) ]

head_of_list : (a b : ℤ) (xs ys : List ℤ) → a ∷ xs ≡ b ∷ ys → a ≡ b
head_of_list a b xs ys e = ap (λ zs. get_or zs 0 (pos 0)) e

second_of_list : (a b c d : ℤ) (xs ys : List ℤ) → a ∷ b ∷ xs ≡ c ∷ d ∷ ys → b ≡ d
second_of_list a b c d xs ys e = ap (λ zs. get_or zs 1 (pos 0)) e

pub no_version : (bytes rest : List ℕ) (numbers : List ℤ) → IsLineOne bytes rest numbers → ((version : ℕ) → IsVersion version → held (get_or numbers 0 (pos 0)) ≢ pos version) → HeadFault bytes Syntax
no_version bytes rest numbers one none version order counts begins =
    let same = same_numbers bytes rest (one.version ∷ one.order ∷ one.points ∷ one.targets ∷ one.cells ∷ one.entries ∷ []) version order counts refl one.begin begins in
    none version begins.version_is (one.are.first ∙ ap cut_wide (sym (head_of_list _ _ _ _ same)) ∙ cut_kept version (omega (arith, small_version version begins.version_is)))

-- the version and the order that were read are those of the line
pub version_read : (bytes rest : List ℕ) (numbers : List ℤ) (version : ℕ) (one : IsLineOne bytes rest numbers) → IsVersion version → held (get_or numbers 0 (pos 0)) ≡ pos version → one.version ≡ pos version
version_read bytes rest numbers version one is read = cut_back one.version version (small_version version is) (sym one.are.first ∙ read)

small_order : (grid order : ℕ) → IsOrderOf grid order → order < most_wide
small_order grid order is = elim is.is_order [
  | inl e ↦ omega (arith, e)
  | inr e ↦ elim e [ inl e ↦ omega (arith, e) | inr e ↦ elim e [ inl e ↦ omega (arith, e) | inr e ↦ elim e [ inl e ↦ omega (arith, e) | inr e ↦ omega (arith, e) ] ] ]
]

pub order_read : (bytes rest : List ℕ) (numbers : List ℤ) (grid order : ℕ) (one : IsLineOne bytes rest numbers) → IsOrderOf grid order → held (get_or numbers 1 (pos 0)) ≡ pos order → one.order ≡ pos order
order_read bytes rest numbers grid order one is read = cut_back one.order order (small_order grid order is) (sym one.are.second ∙ read)

positive : (m n : ℕ) → pos m ≡ pos n → m ≡ n
positive m n e = cc

pub no_order : (bytes rest : List ℕ) (numbers : List ℤ) (version : ℕ) (one : IsLineOne bytes rest numbers) → one.version ≡ pos version
    → ((order : ℕ) → IsOrderOf (grid_of version) order → held (get_or numbers 1 (pos 0)) ≢ pos order) → HeadFault bytes Syntax
no_order bytes rest numbers version one is none other order counts begins =
    let same = same_numbers bytes rest (one.version ∷ one.order ∷ one.points ∷ one.targets ∷ one.cells ∷ one.entries ∷ []) other order counts refl one.begin begins in
    let versions : other ≡ version = positive other version (head_of_list _ _ _ _ same ∙ is) in
    let fits : IsOrderOf (grid_of version) order = subst (λ v. IsOrderOf (grid_of v) order) versions begins.order_is in
    none order fits (one.are.second ∙ ap cut_wide (sym (second_of_list _ _ _ _ _ _ same)) ∙ cut_kept order (omega (arith, small_order (grid_of version) order fits)))

-- ---- counts
limit_small : (grid first widest most : ℕ) → first ≤ most → widest ≤ most → by_grid grid first widest ≤ most
limit_small grid first widest most a b = by_test (grid == first_grid)
  where
    by_test : (t : Bool) → cond t first widest ≤ most
    by_test true = a
    by_test false = b

small_points : (grid : ℕ) → most_points grid < most_wide
small_points grid = omega (arith, limit_small grid 65536 131072 131072 (omega arith) (omega arith))

small_cells : (grid : ℕ) → most_cells grid < most_wide
small_cells grid = omega (arith, limit_small grid 65536 131072 131072 (omega arith) (omega arith))

small_entries : (grid : ℕ) → most_entries grid < most_wide
small_entries grid = omega (arith, limit_small grid (2 ^ 28 - 1) (2 ^ 29 - 1) (2 ^ 29) (omega arith) (omega arith))

-- a number in range isn't cut
count_kept : (z read : ℤ) (most : ℕ) → most < most_wide → read ≡ cut_wide z → IsNumberBelow (suc most) z → IsNumberBelow (suc most) read
count_kept (pos n) read most small is below = subst (IsNumberBelow (suc most)) (sym (is ∙ cut_kept n (omega (arith, ints, small, below.most)))) below
count_kept (negsuc n) read most small is below = absurd (omega (arith, ints, below.least))

count_read : (z read : ℤ) (most n : ℕ) → most < most_wide → read ≡ cut_wide z → IsNumberBelow (suc most) (pos n) → read ≡ pos n → z ≡ pos n
count_read z read most n small is below same = cut_back z n (omega (arith, ints, small, below.most)) (sym is ∙ same)

pub out_of_range : (bytes rest : List ℕ) (numbers : List ℤ) (version order grid : ℕ) (one : IsLineOne bytes rest numbers) → IsVersion version → grid ≡ grid_of version → IsOrderOf grid order → one.version ≡ pos version → one.order ≡ pos order
    → (AreCounts grid (held (get_or numbers 2 (pos 0)) ∷ held (get_or numbers 3 (pos 0)) ∷ held (get_or numbers 4 (pos 0)) ∷ held (get_or numbers 5 (pos 0)) ∷ []) → ⊥) → HeadFault bytes Range
out_of_range bytes rest numbers version order grid one is grid_is fits version_is order_is none = (
  version,
  order,
  one.points ∷ one.targets ∷ one.cells ∷ one.entries ∷ [],
  record {
    version_is = is;
    order_is = subst (λ g. IsOrderOf g order) grid_is fits;
    four = refl;
    rest = rest;
    begin = subst (λ z. BeginWith bytes (line (codes "fmmcert") (z ∷ pos order ∷ one.points ∷ one.targets ∷ one.cells ∷ one.entries ∷ [])) rest) version_is
        (subst (λ z. BeginWith bytes (line (codes "fmmcert") (one.version ∷ z ∷ one.points ∷ one.targets ∷ one.cells ∷ one.entries ∷ [])) rest) order_is one.begin);
  },
  λ counts. none (kept (subst (λ g. AreCounts g (one.points ∷ one.targets ∷ one.cells ∷ one.entries ∷ [])) (sym grid_is) counts)),
)
  where
    kept : AreCounts grid (one.points ∷ one.targets ∷ one.cells ∷ one.entries ∷ [])
        → AreCounts grid (held (get_or numbers 2 (pos 0)) ∷ held (get_or numbers 3 (pos 0)) ∷ held (get_or numbers 4 (pos 0)) ∷ held (get_or numbers 5 (pos 0)) ∷ [])
    kept counts = (
      count_kept one.points _ (most_points grid) (small_points grid) one.are.third counts.0,
      count_kept one.targets _ (most_points grid) (small_points grid) one.are.fourth counts.1,
      count_kept one.cells _ (most_cells grid) (small_cells grid) one.are.fifth counts.2,
      count_kept one.entries _ (most_entries grid) (small_entries grid) one.are.sixth counts.3,
    )

pub head_begins : (bytes rest : List ℕ) (numbers : List ℤ) (version order grid points targets cells entries : ℕ) (one : IsLineOne bytes rest numbers) → one.version ≡ pos version → one.order ≡ pos order
    → AreCounts grid (pos points ∷ pos targets ∷ pos cells ∷ pos entries ∷ [])
    → held (get_or numbers 2 (pos 0)) ∷ held (get_or numbers 3 (pos 0)) ∷ held (get_or numbers 4 (pos 0)) ∷ held (get_or numbers 5 (pos 0)) ∷ [] ≡ pos points ∷ pos targets ∷ pos cells ∷ pos entries ∷ []
    → BeginWith bytes (first_line version order (pos points ∷ pos targets ∷ pos cells ∷ pos entries ∷ [])) rest
head_begins bytes rest numbers version order grid points targets cells entries one version_is order_is counts same =
    let p = count_read one.points _ (most_points grid) points (small_points grid) one.are.third counts.0 (ap (λ zs. get_or zs 0 (pos 0)) same) in
    let t = count_read one.targets _ (most_points grid) targets (small_points grid) one.are.fourth counts.1 (ap (λ zs. get_or zs 1 (pos 0)) same) in
    let c = count_read one.cells _ (most_cells grid) cells (small_cells grid) one.are.fifth counts.2 (ap (λ zs. get_or zs 2 (pos 0)) same) in
    let e = count_read one.entries _ (most_entries grid) entries (small_entries grid) one.are.sixth counts.3 (ap (λ zs. get_or zs 3 (pos 0)) same) in
    subst (λ zs. BeginWith bytes (line (codes "fmmcert") zs) rest) (λ i. version_is i ∷ order_is i ∷ p i ∷ t i ∷ c i ∷ e i ∷ []) one.begin

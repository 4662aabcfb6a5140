-- The printed text spells its points, and no other text does.
use Rattle.std.proofs.Common.{◌≡◌, ◌<◌, ◌^◌, ℕ, ℤ, pos, negsuc, neg_ℤ, ◌≤ℤ◌, ◌<ℤ◌, List, [], ◌∷◌, ◌++◌, sym, ap, ◌∙◌, subst, refl, arith}
use Rattle.std.proofs.lemmas.Int.{ints}
use Rattle.std.specs.Fmt.{signed_decimal}
use Rattle.std.specs.List.{flat_map, All, AllByRecursion}
use Rattle.std.proofs.lemmas.List.{append_assoc, append-nil}
use Rattle.std.proofs.lemmas.List.Elements.{All-head, All-tail}
use lib.Signed.{mag}
use Rattle.exact_math.specs.Within.{Within}
use Rattle.limits.proofs.Grids.{version_has_grid}
use Rattle.limits.specs.Grid.{half}
use Rattle.limits.specs.Limits.{grid_of, most_strength, widest_grid}
use Rattle.number_text.specs.Numbers.{IsInt, AreInts}
use Rattle.number_text.specs.Parts.{IsFreeOf}
use Rattle.number_text.proofs.Rows.{int_free, one_spelled_row}
use Rattle.number_text.proofs.Spelling.{int_of_decimal}
use Rattle.points.specs.declared.Kind.{Kind}
use Rattle.points.specs.declared.Kind.TheVariants.{Charge, Dipole, Vortex, Target, Pole}
use Rattle.points.specs.declared.Point.{Point}
use Rattle.points.specs.declared.Points.{Points}
use Rattle.points.specs.Limits.{HasStrength, InRange, WithinLimits}
use Rattle.points.proofs.Ranges.{range_in_widest}
use Rattle.particle_text.specs.Text.{LineSpells, BeginsWith, AreLines, Spells, name_of, strength_of, numbers_of, numbers_line, line_text, text_of, head_line}
use Rattle.particle_text.proofs.Heads.{free_by_test}

-- small enough for a printed number
abbrev IsSmall : ℤ → Type 0
IsSmall z = mag z < 2 ^ 63

coordinate_small : (x : ℤ) → neg_ℤ (pos (half widest_grid)) ≤ℤ x → x <ℤ pos (half widest_grid) → IsSmall x
coordinate_small (pos n) low high = omega (arith, ints, low, high)
coordinate_small (negsuc n) low high = omega (arith, ints, low, high)

component_small : (z : ℤ) → Within most_strength z → IsSmall z
component_small (pos n) fits = omega (arith, ints, fits.above, fits.below)
component_small (negsuc n) fits = omega (arith, ints, fits.above, fits.below)

turned_small : (z : ℤ) → Within most_strength (neg_ℤ z) → IsSmall z
turned_small (pos n) fits = omega (arith, ints, fits.above, fits.below)
turned_small (negsuc n) fits = omega (arith, ints, fits.above, fits.below)

strength_small : (kind : Kind) → HasStrength kind → AllByRecursion IsSmall (strength_of kind)
strength_small (Charge q) fits = (component_small q fits.0, tt)
strength_small (Dipole re im) fits = (component_small re fits.0, (component_small im fits.1, tt))
strength_small (Vortex g) fits = (turned_small g fits.1, tt)
strength_small Target fits = tt
strength_small (Pole re im) fits = (component_small re fits.0, (component_small im fits.1, tt))

numbers_small : (p : Point) → InRange widest_grid p → AllByRecursion IsSmall (numbers_of p)
numbers_small p range =
    (coordinate_small p.x range.place.west range.place.east, (coordinate_small p.y range.place.south range.place.north, strength_small p.kind range.strength))

-- the numbers, each behind a space, with no line feed
abbrev body : List ℤ → List ℕ
body [] = []
body (z ∷ zs) = 32 ∷ (signed_decimal z ++ body zs)

body_and_feed : (zs : List ℤ) (rest : List ℕ) → numbers_line zs ++ rest ≡ body zs ++ 10 ∷ rest
body_and_feed [] rest = refl
body_and_feed (z ∷ zs) rest =
    ap (λ text. 32 ∷ text) (append_assoc (signed_decimal z) (numbers_line zs) rest ∙ ap (λ text. signed_decimal z ++ text) (body_and_feed zs rest) ∙ sym (append_assoc (signed_decimal z) (body zs) (10 ∷ rest)))

free_of_both : (byte : ℕ) (xs ys : List ℕ) → IsFreeOf byte xs → IsFreeOf byte ys → IsFreeOf byte (xs ++ ys)
free_of_both byte [] ys a b = b
free_of_both byte (x ∷ xs) ys a b = (a.0, free_of_both byte xs ys a.1 b)

number_free : (byte : ℕ) (z : ℤ) → byte < 45 → IsSmall z → IsFreeOf byte (signed_decimal z)
number_free byte z below small = int_free byte (signed_decimal z) z below (int_of_decimal z small)

body_free : (zs : List ℤ) → AllByRecursion IsSmall zs → IsFreeOf 10 (body zs)
body_free [] all = tt
body_free (z ∷ zs) all = ((λ same. omega (arith, same)), free_of_both 10 (signed_decimal z) (body zs) (number_free 10 z (omega arith) all.0) (body_free zs all.1))

-- the numbers from the first one on are a row
row_spelled : (z : ℤ) (zs : List ℤ) → IsSmall z → AllByRecursion IsSmall zs → AreInts (signed_decimal z ++ body zs) (z ∷ zs)
row_spelled z [] small all = subst (λ word. IsInt word z) (sym (append-nil (signed_decimal z))) (int_of_decimal z small)
row_spelled z (y ∷ zs) small all = (
  signed_decimal z,
  signed_decimal y ++ body zs,
  record { whole = refl; first = number_free 32 z (omega arith) small },
  int_of_decimal z small,
  row_spelled y zs all.0 all.1,
)

name_free_of_space : (kind : Kind) → IsFreeOf 32 (name_of kind)
name_free_of_space (Charge q) = free_by_test 32 (name_of (Charge q)) refl
name_free_of_space (Dipole re im) = free_by_test 32 (name_of (Dipole re im)) refl
name_free_of_space (Vortex g) = free_by_test 32 (name_of (Vortex g)) refl
name_free_of_space Target = free_by_test 32 (name_of Target) refl
name_free_of_space (Pole re im) = free_by_test 32 (name_of (Pole re im)) refl

name_free_of_feed : (kind : Kind) → IsFreeOf 10 (name_of kind)
name_free_of_feed (Charge q) = free_by_test 10 (name_of (Charge q)) refl
name_free_of_feed (Dipole re im) = free_by_test 10 (name_of (Dipole re im)) refl
name_free_of_feed (Vortex g) = free_by_test 10 (name_of (Vortex g)) refl
name_free_of_feed Target = free_by_test 10 (name_of Target) refl
name_free_of_feed (Pole re im) = free_by_test 10 (name_of (Pole re im)) refl

line_begins : (version : ℕ) (p : Point) (rest : List ℕ) → InRange (grid_of version) p → BeginsWith version (line_text p ++ rest) p rest
line_begins version p rest range =
    let small = numbers_small p (range_in_widest (grid_of version) p (version_has_grid version) range) in
    record {
      line = name_of p.kind ++ body (numbers_of p);
      cut = record {
        whole = append_assoc (name_of p.kind) (numbers_line (numbers_of p)) rest ∙ ap (λ text. name_of p.kind ++ text) (body_and_feed (numbers_of p) rest) ∙ sym (append_assoc (name_of p.kind) (body (numbers_of p)) (10 ∷ rest));
        first = free_of_both 10 (name_of p.kind) (body (numbers_of p)) (name_free_of_feed p.kind) (body_free (numbers_of p) small);
      };
      spelled = record {
        kind = range.kind;
        numbers = signed_decimal p.x ++ body (p.y ∷ strength_of p.kind);
        cut = record { whole = refl; first = name_free_of_space p.kind };
        spelled = row_spelled p.x (p.y ∷ strength_of p.kind) small.0 small.1;
      };
    }

lines_spelled : (version : ℕ) (points : List Point) → All (InRange (grid_of version)) points → AreLines version (flat_map line_text points) points
lines_spelled version [] range = refl
lines_spelled version (p ∷ points) range =
    let first = All-head (InRange (grid_of version)) p points range in
    let others = All-tail (InRange (grid_of version)) p points range in
    (flat_map line_text points, line_begins version p (flat_map line_text points) first, lines_spelled version points others)

-- the text of a list within the limits spells it
pub text_spelled : (points : Points) → WithinLimits points → Spells (text_of points) points
text_spelled points limits = record {
  limits = limits;
  lines = flat_map line_text points.list;
  head = append_assoc (head_line points.version points.mode) (10 ∷ []) (flat_map line_text points.list);
  body = lines_spelled points.version points.list limits.within.range;
}

-- a list has one text
one_line_text : (version : ℕ) (line other : List ℕ) (p : Point) → LineSpells version line p → LineSpells version other p → line ≡ other
one_line_text version line other p a b =
    a.cut.whole ∙ ap (λ numbers. name_of p.kind ++ 32 ∷ numbers) (one_spelled_row a.numbers b.numbers (numbers_of p) a.spelled b.spelled) ∙ sym b.cut.whole

one_body : (version : ℕ) (lines other : List ℕ) (points : List Point) → AreLines version lines points → AreLines version other points → lines ≡ other
one_body version lines other [] a b = a ∙ sym b
one_body version lines other (p ∷ points) a b =
    let first = one_line_text version a.1.line b.1.line p a.1.spelled b.1.spelled in
    let rest = one_body version a.0 b.0 points a.2 b.2 in
    a.1.cut.whole ∙ ap (λ line. line ++ 10 ∷ a.0) first ∙ ap (λ back. b.1.line ++ 10 ∷ back) rest ∙ sym b.1.cut.whole

pub one_text : (bytes other : List ℕ) (points : Points) → Spells bytes points → Spells other points → bytes ≡ other
one_text bytes other points a b =
    a.head ∙ ap (λ lines. head_line points.version points.mode ++ 10 ∷ lines) (one_body points.version a.lines b.lines points.list a.body b.body) ∙ sym b.head

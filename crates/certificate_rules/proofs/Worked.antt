-- Certificates of one charge 1 at (0, 0) and a target at (1, 0) in one leaf, at order 4. All rules hold of the first. In the others the leaf's row is 2 in place of 1, its
-- entry stands twice, or the target is missing; each has its first failure.
use Rattle.std.proofs.Common.{length, ◌≡◌, ℕ, zero, suc, ◌<◌, List, [], ◌∷◌, codes, refl, arith}
use Rattle.std.specs.Prelude.{ℤ, pos}
use Rattle.std.proofs.lemmas.Bool.{true≢false}
use Rattle.std.proofs.lemmas.Int.{ints}
use Rattle.cert_text.specs.Certificate.{Certificate}
use Rattle.cert_text.specs.Lines.{Line, line}
use Rattle.cert_text.proofs.Places.{lines_in}
use Rattle.cert_text.specs.declared.section.Section.{Section}
use Rattle.cert_text.specs.declared.section.Section.TheVariants.{Node, At, Multipole, Entry, Local, Target, End}
use Rattle.points.specs.declared.Kind.TheVariants.{Charge}
use Rattle.points.specs.declared.Kind.TheVariants as kinds
use Rattle.points.specs.declared.Mode.TheVariants.{Field}
use Rattle.points.specs.declared.Points.{Points}
use Rattle.row_recursions.specs.Rows.{source_moment, local_value, local_round, powers}
use Rattle.soundness.specs.Accounts.{under}
use Rattle.soundness.specs.Computed.{computed_leaf_row, computed_local_row}
use Rattle.soundness.specs.Rules.{RowInside, IsTiled}
use Rattle.soundness.proofs.Inside.{BoxEndsInside-same}
use Rattle.certificate_rules.specs.LineRules.{presented, HeadHolds, PointHolds, TargetHolds, TilingHolds}
use Rattle.certificate_rules.specs.Verdicts.{SectionHolds, HoldEverywhere, IsFirstFailure}
use Rattle.certificate_rules.proofs.Lines.{SectionsHoldBefore, hold_everywhere, head_fails, section_fails}

abbrev points : Points
points = record { version = 1; mode = Field; list = record { x = pos 0; y = pos 0; kind = Charge (pos 1) } ∷ record { x = pos 1; y = pos 0; kind = kinds.Target } ∷ [] }

abbrev zeros : List ℤ
zeros = pos 0 ∷ pos 0 ∷ pos 0 ∷ pos 0 ∷ pos 0 ∷ pos 0 ∷ pos 0 ∷ pos 0 ∷ pos 0 ∷ pos 0 ∷ pos 0 ∷ pos 0 ∷ pos 0 ∷ pos 0 ∷ []

abbrev near : Line
near = line (codes "u") (pos 0 ∷ pos 0 ∷ [])

-- with the first coefficient of the leaf's row, the lines of entries, and the counts of the real part
abbrev certificate_with : ℤ → List Line → ℤ → Certificate
certificate_with m entries count = record {
  head = record { version = 1; order = 4; points = 2; targets = 1; cells = 1; entries = length entries };
  nodes = line (codes "node") (pos 0 ∷ pos 0 ∷ pos 0 ∷ pos 0 ∷ []) ∷ [];
  ats = line (codes "at") (pos 0 ∷ []) ∷ line (codes "at") (pos 0 ∷ []) ∷ [];
  multipoles = line (codes "m") (m ∷ m ∷ zeros) ∷ [];
  entries = entries;
  locals = line (codes "l") (pos 0 ∷ pos 0 ∷ pos 0 ∷ zeros) ∷ [];
  targets = line (codes "t") (pos 1099511627776 ∷ pos 1099511627776 ∷ pos 0 ∷ pos 0 ∷ count ∷ count ∷ pos 0 ∷ pos 0 ∷ []) ∷ [];
}

abbrev certificate : ℤ → Certificate
certificate m = certificate_with m (near ∷ []) (pos 1000000000000)

head_holds : (m : ℤ) (es : List Line) (count : ℤ) → HeadHolds points (certificate_with m es count)
head_holds m es count = record { version = refl; point_count = refl; target_count = refl }

point_holds : (m : ℤ) (es : List Line) (count : ℤ) (k : ℕ) → k < 2 → PointHolds points (certificate_with m es count) k
point_holds m es count zero lt = record { leaf = refl; held = record { west = omega (arith, ints); east = omega (arith, ints); south = omega (arith, ints); north = omega (arith, ints) } }
point_holds m es count (suc zero) lt = record { leaf = refl; held = record { west = omega (arith, ints); east = omega (arith, ints); south = omega (arith, ints); north = omega (arith, ints) } }
point_holds m es count (suc (suc k)) lt = absurd (omega (arith, lt))

abbrev one : ℤ
one = pos 1099511627776

abbrev two : ℤ
two = pos 2199023255552

row_inside : RowInside 4 (computed_leaf_row (presented points (certificate one)) 0) ((presented points (certificate one)).multipole 0)
unfolding under source_moment powers
row_inside zero lt = BoxEndsInside-same refl
row_inside (suc zero) lt = BoxEndsInside-same refl
row_inside (suc (suc zero)) lt = BoxEndsInside-same refl
row_inside (suc (suc (suc zero))) lt = BoxEndsInside-same refl
row_inside (suc (suc (suc (suc k)))) lt = absurd (omega (arith, lt))

local_inside : (m : ℤ) → RowInside 4 (computed_local_row 4 (presented points (certificate m)) 0) ((presented points (certificate m)).local 0)
local_inside m zero lt = BoxEndsInside-same refl
local_inside m (suc zero) lt = BoxEndsInside-same refl
local_inside m (suc (suc zero)) lt = BoxEndsInside-same refl
local_inside m (suc (suc (suc zero))) lt = BoxEndsInside-same refl
local_inside m (suc (suc (suc (suc k)))) lt = absurd (omega (arith, lt))

tiled : (m : ℤ) → IsTiled (presented points (certificate m)) 0
unfolding under
tiled m zero d lt = refl
tiled m (suc k) d lt = absurd (omega (arith, lt))

target_holds : (m : ℤ) → TargetHolds points (certificate m) 0
unfolding under local_value local_round
target_holds m = record {
  box = BoxEndsInside-same refl;
  counts = record { re = record { lower = omega (arith, ints); upper = omega (arith, ints) }; im = record { lower = omega (arith, ints); upper = omega (arith, ints) } };
}

sections_hold : (section : Section) (n rule : ℕ) → n < lines_in (certificate one).head section → SectionHolds points (certificate one) section n rule
sections_hold Node zero rule lt = λ e. refl
sections_hold Node (suc n) rule lt = absurd (omega (arith, lt))
sections_hold At n rule lt = λ e. point_holds one (near ∷ []) (pos 1000000000000) n lt
sections_hold Multipole zero rule lt = (λ e leaf. record { of_leaf = λ l. row_inside; of_inner = λ l. absurd (true≢false l) }, λ e inner. absurd (true≢false inner))
sections_hold Multipole (suc n) rule lt = absurd (omega (arith, lt))
sections_hold Entry zero rule lt = λ e. (refl, refl)
sections_hold Entry (suc n) rule lt = absurd (omega (arith, lt))
sections_hold Local zero rule lt = (λ e some. record { row = local_inside one; radius = omega arith }, λ e leaf some. tiled one)
sections_hold Local (suc n) rule lt = absurd (omega (arith, lt))
sections_hold Target zero rule lt = λ e. target_holds one
sections_hold Target (suc n) rule lt = absurd (omega (arith, lt))
sections_hold End n rule lt = tt

pub all_hold : HoldEverywhere points (certificate one)
all_hold = hold_everywhere points (certificate one) (head_holds one (near ∷ []) (pos 1000000000000)) sections_hold

-- ---- the leaf's row is 2
row_outside : RowInside 4 (computed_leaf_row (presented points (certificate two)) 0) ((presented points (certificate two)).multipole 0) → ⊥
unfolding under source_moment powers
row_outside h = let first = (h 0 (omega arith)).re.lo in absurd (omega (arith, ints, first))

pub leaf_row_fails : IsFirstFailure points (certificate two) 2 5
leaf_row_fails = section_fails points (certificate two) Multipole 0 2 (omega arith) (head_holds two (near ∷ []) (pos 1000000000000)) before (λ r lt. (λ e. absurd (omega (arith, lt, e)), λ e. absurd (omega (arith, lt, e)))) (λ holds. row_outside ((holds.0 refl refl).of_leaf refl))
  where
    before : SectionsHoldBefore points (certificate two) 5
    before Node zero rule below lt = λ e. refl
    before Node (suc n) rule below lt = absurd (omega (arith, below))
    before At n rule below lt = λ e. point_holds two (near ∷ []) (pos 1000000000000) n below
    before Multipole n rule below lt = absurd (omega (arith, lt))
    before Entry n rule below lt = absurd (omega (arith, lt))
    before Local n rule below lt = absurd (omega (arith, lt))
    before Target n rule below lt = absurd (omega (arith, lt))
    before End n rule below lt = tt

-- ---- the entry stands twice
abbrev twice : Certificate
twice = certificate_with one (near ∷ near ∷ []) (pos 1000000000000)

twice_row : RowInside 4 (computed_leaf_row (presented points twice) 0) ((presented points twice).multipole 0)
unfolding under source_moment powers
twice_row zero lt = BoxEndsInside-same refl
twice_row (suc zero) lt = BoxEndsInside-same refl
twice_row (suc (suc zero)) lt = BoxEndsInside-same refl
twice_row (suc (suc (suc zero))) lt = BoxEndsInside-same refl
twice_row (suc (suc (suc (suc k)))) lt = absurd (omega (arith, lt))

twice_local : RowInside 4 (computed_local_row 4 (presented points twice) 0) ((presented points twice).local 0)
twice_local zero lt = BoxEndsInside-same refl
twice_local (suc zero) lt = BoxEndsInside-same refl
twice_local (suc (suc zero)) lt = BoxEndsInside-same refl
twice_local (suc (suc (suc zero))) lt = BoxEndsInside-same refl
twice_local (suc (suc (suc (suc k)))) lt = absurd (omega (arith, lt))

not_tiled : TilingHolds points twice 0 → ⊥
unfolding under
not_tiled h = let one : 2 ≡ 1 = h refl refl 0 (record { point = record { x = pos 0; y = pos 0; kind = Charge (pos 1) }; leaf = 0 }) (omega arith) in absurd (omega (arith, one))

pub tiling_fails : IsFirstFailure points twice 6 8
tiling_fails = section_fails points twice Local 0 6 (omega arith) (head_holds one (near ∷ near ∷ []) (pos 1000000000000)) before
    (λ r lt. (λ e some. record { row = twice_local; radius = omega arith }, λ e. absurd (omega (arith, lt, e)))) (λ holds. not_tiled (holds.1 refl))
  where
    before : SectionsHoldBefore points twice 8
    before Node zero rule below lt = λ e. refl
    before Node (suc n) rule below lt = absurd (omega (arith, below))
    before At n rule below lt = λ e. point_holds one (near ∷ near ∷ []) (pos 1000000000000) n below
    before Multipole zero rule below lt = (λ e leaf. record { of_leaf = λ l. twice_row; of_inner = λ l. absurd (true≢false l) }, λ e inner. absurd (true≢false inner))
    before Multipole (suc n) rule below lt = absurd (omega (arith, below))
    before Entry zero rule below lt = λ e. (refl, refl)
    before Entry (suc zero) rule below lt = λ e. (refl, refl)
    before Entry (suc (suc n)) rule below lt = absurd (omega (arith, below))
    before Local n rule below lt = absurd (omega (arith, lt))
    before Target n rule below lt = absurd (omega (arith, lt))
    before End n rule below lt = tt

-- ---- TARGETS is 0, and no target's line stands
abbrev without_target : Certificate
without_target = record {
  head = record { version = 1; order = 4; points = 2; targets = 0; cells = 1; entries = 1 };
  nodes = (certificate one).nodes;
  ats = (certificate one).ats;
  multipoles = (certificate one).multipoles;
  entries = (certificate one).entries;
  locals = (certificate one).locals;
  targets = [];
}

pub head_is_wrong : IsFirstFailure points without_target 8 1
head_is_wrong = head_fails points without_target (λ h. let count : 0 ≡ 1 = h.target_count in absurd (omega (arith, count)))

-- One can tell of each rule whether it holds, and so there is a verdict.
use Rattle.std.proofs.Common.{ℕ, zero, suc, ◌≡◌, ◌<◌, ◌≤◌, inl, inr, ◌⊎◌, refl, ap, ap₂, ◌∙◌, arith}
use Rattle.std.specs.Prelude.{length}
use Rattle.std.specs.List.{count_by}
use Rattle.std.proofs.lemmas.Bool.{cases_lt}
use Rattle.exact_math.specs.Ends.{Ends, BoxEnds, EndsInside, BoxEndsInside}
use Rattle.exact_math.specs.Gaussian.{Gaussian}
use Rattle.accounting_text.specs.Given.{given_entry}
use Rattle.cell_name.specs.Apart.{AreTwoOrThreeSidesApart}
use Rattle.cell_name.specs.Square.{Square, root, parent, Holds}
use Rattle.cert_text.specs.Certificate.{Certificate, nth_line}
use Rattle.cert_text.specs.Sections.{place_of}
use Rattle.cert_text.proofs.Places.{lines_in}
use Rattle.cert_text.specs.declared.section.Section.{Section}
use Rattle.cert_text.specs.declared.section.Section.TheVariants.{Node, At, Multipole, Entry, Local, Target, End}
use Rattle.letters.specs.declared.Letter.{Letter}
use Rattle.letters.specs.declared.Letter.TheVariants.{U, V, W, X}
use Rattle.limits.specs.Limits.{grid_of}
use Rattle.points.specs.Points.{place}
use Rattle.points.specs.declared.Points.{Points}
use Rattle.soundness.specs.Accounts.{Accounting, is_leaf, has_target_under, under, accounts}
use Rattle.soundness.specs.Computed.{computed_leaf_row, shifted_rows, computed_local_row, computed_local_radius, computed_target_box}
use Rattle.soundness.specs.Counts.{AreAround, EncloseBox}
use Rattle.soundness.specs.Rules.{RowInside, Apart, IsTiled, MultipoleHolds, LocalHolds}
use Rattle.soundness.specs.Squares.{IsQuarterOf, IsFarFrom}
use Rattle.certificate_rules.specs.Laws.{SomeVerdict}
use Rattle.certificate_rules.specs.LineRules.{presented, targets_of, nth_place, nth_target, node_of, given_counts, HeadHolds, NodeHolds, PointHolds, IsFit, EntryHolds, TargetHolds}
use Rattle.certificate_rules.specs.Verdicts.{line_number, SectionHolds, HoldsAt, HoldEverywhere, IsFirstFailure}
use Rattle.certificate_rules.proofs.Decided.{Decided, same, both, either, implied, is_less, is_most, is_equal, is_most_int, is_less_int, is_true, is_false, of_all, of_below, IsFirst, first_below}
use Rattle.certificate_rules.proofs.Lines.{hold_everywhere}
use Rattle.certificate_rules.proofs.Numbers.{numbered}

-- ---- boxes and rows
ends_inside : (i j : Ends) → Decided (EndsInside i j)
ends_inside i j = same (λ h. record { lo = h.0; hi = h.1 }) (λ h. (h.lo, h.hi)) (both (is_most_int j.lo i.lo) (is_most_int i.hi j.hi))

box_inside : (a b : BoxEnds) → Decided (BoxEndsInside a b)
box_inside a b = same (λ h. record { re = h.0; im = h.1 }) (λ h. (h.re, h.im)) (both (ends_inside a.re b.re) (ends_inside a.im b.im))

row_inside : (P : ℕ) (a b : ℕ → BoxEnds) → Decided (RowInside P a b)
row_inside P a b = of_below (λ k. BoxEndsInside (a k) (b k)) (λ k. box_inside (a k) (b k)) P

around : (i j : Ends) → Decided (AreAround i j)
around i j = same (λ h. record { lower = h.0; upper = h.1 }) (λ h. (h.lower, h.upper)) (both (is_most_int _ _) (is_most_int _ _))

encloses : (b : BoxEnds) (i j : Ends) → Decided (EncloseBox b i j)
encloses b i j = same (λ h. record { re = h.0; im = h.1 }) (λ h. (h.re, h.im)) (both (around b.re i) (around b.im j))

-- ---- squares
same_square : (a b : Square) → Decided (a ≡ b)
same_square a b = same equal (λ e. (ap (λ s. s.grid) e, (ap (λ s. s.level) e, (ap (λ s. s.i) e, ap (λ s. s.j) e))))
    (both (is_equal a.grid b.grid) (both (is_equal a.level b.level) (both (is_equal a.i b.i) (is_equal a.j b.j))))
  where
    equal : (a.grid ≡ b.grid) × ((a.level ≡ b.level) × ((a.i ≡ b.i) × (a.j ≡ b.j))) → a ≡ b
    equal h = ap₂ (λ g l. record { grid = g; level = l; i = a.i; j = a.j }) h.0 h.1.0 ∙ ap₂ (λ i j. record { grid = b.grid; level = b.level; i = i; j = j }) h.1.1.0 h.1.1.1

quarter : (d c : Square) → Decided (IsQuarterOf d c)
quarter d c = same (λ h. record { below_root = h.0; in_grid = h.1.0; parent_is = h.1.1 }) (λ h. (h.below_root, (h.in_grid, h.parent_is)))
    (both (is_less 0 d.level) (both (is_most d.level d.grid) (same_square (parent d) c)))

held : (c : Square) (z : Gaussian) → Decided (Holds c z.re z.im)
held c z = same (λ h. record { west = h.0; east = h.1.0; south = h.1.1.0; north = h.1.1.1 }) (λ h. (h.west, (h.east, (h.south, h.north))))
    (both (is_most_int _ _) (both (is_less_int _ _) (both (is_most_int _ _) (is_less_int _ _))))

two_or_three : (b c : Square) → Decided (AreTwoOrThreeSidesApart b c)
two_or_three b c = same (λ h. record { at_least_two = h.0; at_most_three = h.1 }) (λ h. (h.at_least_two, h.at_most_three)) (both (is_most _ _) (is_most _ _))

far : (c : Square) (z : Gaussian) → Decided (IsFarFrom c z)
far c z = either (is_most _ _) (is_most _ _)

-- ---- an accounting
module _ (A : Accounting) where
  apart : (letter : Letter) (b c : ℕ) → Decided (Apart A letter b c)
  apart U b c = inl tt
  apart V b c = inl_or_not
    where
      inl_or_not : Decided (Apart A V b c)
      inl_or_not = same (λ h. record { grid = h.0; level = h.1.0; apart = h.1.1 }) (λ h. (h.grid, (h.level, h.apart))) (both (is_equal _ _) (both (is_equal _ _) (either (is_most _ _) (is_most _ _))))
  apart W b c = of_all _ (λ t. implied (is_true (under A.parent t.leaf b)) (far (A.cell c) t.place)) A.targets
  apart X b c = of_all _ (λ x. implied (is_true (under A.parent x.leaf c)) (far (A.cell b) (place x.point))) A.sources

  tiled : (n : ℕ) → Decided (IsTiled A n)
  tiled n = of_all (λ x. count_by (accounts A n x) A.entries ≡ 1) (λ x. is_equal _ 1) A.sources

module _ (P : ℕ) (A : Accounting) where
  multipole : (n : ℕ) → Decided (MultipoleHolds P A n)
  multipole n = same (λ h. record { of_leaf = h.0; of_inner = h.1 }) (λ h. (h.of_leaf, h.of_inner))
      (both (implied (is_true (is_leaf A n)) (row_inside P (computed_leaf_row A n) (A.multipole n))) (implied (is_false (is_leaf A n)) (row_inside P (shifted_rows A n) (A.multipole n))))

  local : (n : ℕ) → Decided (LocalHolds P A n)
  local n = same (λ h. record { row = h.0; radius = h.1 }) (λ h. (h.row, h.radius)) (both (row_inside P (computed_local_row P A n) (A.local n)) (is_most (computed_local_radius P A n) (A.radius n)))

-- ---- the rules
module _ (points : Points) (c : Certificate) where
  abbrev A : Accounting
  A = presented points c

  head : Decided (HeadHolds points c)
  head = same (λ h. record { version = h.0; point_count = h.1.0; target_count = h.1.1 }) (λ h. (h.version, (h.point_count, h.target_count)))
      (both (is_equal c.head.version points.version) (both (is_equal c.head.points (length points.list)) (is_equal c.head.targets (length (targets_of points.list)))))

  node : (n : ℕ) → Decided (NodeHolds points c n)
  node zero = same_square (A.cell 0) (root (grid_of c.head.version))
  node (suc n) = quarter (A.cell (suc n)) (A.cell (A.parent (suc n)))

  point : (k : ℕ) → Decided (PointHolds points c k)
  point k = same (λ h. record { leaf = h.0; held = h.1 }) (λ h. (h.leaf, h.held)) (both (is_true (is_leaf A (node_of points c k))) (held (A.cell (node_of points c k)) (nth_place points.list k)))

  fit : (letter : Letter) (b d : ℕ) → Decided (IsFit points c letter b d)
  fit U b d = both (is_true (is_leaf A b)) (is_true (is_leaf A d))
  fit V b d = both (is_equal _ _) (two_or_three (A.cell b) (A.cell d))
  fit W b d = both (is_true (is_leaf A b)) (apart A W b d)
  fit X b d = both (is_true (is_leaf A d)) (apart A X b d)

  entry : (n : ℕ) → Decided (EntryHolds points c n)
  entry n = fit (given_entry (nth_line c.entries n)).letter (given_entry (nth_line c.entries n)).b (given_entry (nth_line c.entries n)).c

  target : (k : ℕ) → Decided (TargetHolds points c k)
  target k = same (λ h. record { box = h.0; counts = h.1 }) (λ h. (h.box, h.counts))
      (both (box_inside (computed_target_box c.head.order A (nth_target A.targets k)) (nth_target A.targets k).box)
      (encloses (nth_target A.targets k).box (given_counts c k).re (given_counts c k).im))

  section_rule : (section : Section) (n rule : ℕ) → Decided (SectionHolds points c section n rule)
  section_rule Node n rule = implied (is_equal rule 1) (node n)
  section_rule At n rule = implied (is_equal rule 1) (point n)
  section_rule Multipole n rule = both (implied (is_equal rule 2) (implied (is_true (is_leaf A n)) (multipole c.head.order A n))) (implied (is_equal rule 3) (implied (is_false (is_leaf A n)) (multipole c.head.order A n)))
  section_rule Entry n rule = implied (is_equal rule 5) (entry n)
  section_rule Local n rule = both (implied (is_equal rule 4) (implied (is_true (has_target_under A n)) (local c.head.order A n)))
      (implied (is_equal rule 6) (implied (is_true (is_leaf A n)) (implied (is_true (has_target_under A n)) (tiled A n))))
  section_rule Target n rule = implied (is_equal rule 7) (target n)
  section_rule End n rule = inl tt

  rule_at : (line rule : ℕ) → Decided (HoldsAt points c line rule)
  rule_at zero rule = inl tt
  rule_at (suc zero) rule = implied (is_equal rule 8) head
  rule_at (suc (suc k)) rule = section_rule (place_of c.head k).section (place_of c.head k).number rule

  -- ---- there are eight rules
  past_rules : (section : Section) (n rule : ℕ) → 9 ≤ rule → SectionHolds points c section n rule
  past_rules Node n rule past = λ e. absurd (omega (arith, e, past))
  past_rules At n rule past = λ e. absurd (omega (arith, e, past))
  past_rules Multipole n rule past = (λ e. absurd (omega (arith, e, past)), λ e. absurd (omega (arith, e, past)))
  past_rules Entry n rule past = λ e. absurd (omega (arith, e, past))
  past_rules Local n rule past = (λ e. absurd (omega (arith, e, past)), λ e. absurd (omega (arith, e, past)))
  past_rules Target n rule past = λ e. absurd (omega (arith, e, past))
  past_rules End n rule past = tt

  past_rules_at : (line rule : ℕ) → 9 ≤ rule → HoldsAt points c line rule
  past_rules_at zero rule past = tt
  past_rules_at (suc zero) rule past = λ e. absurd (omega (arith, e, past))
  past_rules_at (suc (suc k)) rule past = past_rules (place_of c.head k).section (place_of c.head k).number rule past

  -- a line of which the eight hold
  abbrev LineHolds : ℕ → Type 0
  LineHolds line = (rule : ℕ) → rule < 9 → HoldsAt points c line rule

  each_rule : (line : ℕ) → LineHolds line → (rule : ℕ) → HoldsAt points c line rule
  each_rule line h rule = elim (cases_lt rule 9) [ inl lt ↦ h rule lt | inr le ↦ past_rules_at line rule le ]

  abbrev last_line : ℕ
  last_line = line_number c.head End 0

  before_last : (section : Section) (n : ℕ) → n < lines_in c.head section → line_number c.head section n ≤ last_line
  before_last Node n lt = omega (arith, lt)
  before_last At n lt = omega (arith, lt)
  before_last Multipole n lt = omega (arith, lt)
  before_last Entry n lt = omega (arith, lt)
  before_last Local n lt = omega (arith, lt)
  before_last Target n lt = omega (arith, lt)
  before_last End n lt = omega (arith, lt)

  found : (line : ℕ) → IsFirst LineHolds (suc last_line) line → (rule : ℕ) × (line : ℕ) × IsFirstFailure points c rule line
  found line first = elim (first_below (HoldsAt points c line) (rule_at line) 9) [
    | inl all ↦ absurd (first.fails all)
    | inr least ↦ (least.0, line, record { fails = least.1.fails; lines_before = λ l r lt. each_rule l (first.before l lt) r; rules_before = least.1.before })
  ]

  pub verdict : HoldEverywhere points c ⊎ ((rule : ℕ) × (line : ℕ) × IsFirstFailure points c rule line)
  verdict = elim (first_below LineHolds (λ line. of_below (HoldsAt points c line) (rule_at line) 9) (suc last_line)) [
    | inl all ↦ inl (hold_everywhere points c (all 1 (omega arith) 8 (omega arith) refl) (λ section n rule lt. (numbered points c section n rule lt).0 (let le = before_last section n lt in each_rule _ (all _ (omega (arith, le))) rule)))
    | inr first ↦ inr (found first.0 first.1)
  ]

pub some_verdict : SomeVerdict
some_verdict points c = verdict points c

-- The rules by their numbers, at the lines by theirs, and the first failure: the first line at which a rule fails, and the least rule that fails there.
use Rattle.std.specs.Prelude.{ℕ, zero, suc, ◌+◌, ◌≡◌, ◌<◌}
use Rattle.cert_text.specs.Certificate.{Certificate}
use Rattle.cert_text.specs.Lines.{Head}
use Rattle.cert_text.specs.Sections.{place_of}
use Rattle.cert_text.specs.declared.section.Section.{Section}
use Rattle.cert_text.specs.declared.section.Section.TheVariants.{Node, At, Multipole, Entry, Local, Target, End}
use Rattle.points.specs.declared.Points.{Points}
use Rattle.certificate_rules.specs.LineRules.{HeadHolds, NodeHolds, PointHolds, LeafRowHolds, InnerRowHolds, LocalRowHolds, TilingHolds, EntryHolds, TargetHolds}

-- ---- numbers of lines
-- the number of the n-th line of a section in the text, from 1 on: line 1 stands before all sections
abbrev pub line_number : Head → Section → ℕ → ℕ
line_number h Node n = 2 + n
line_number h At n = 2 + (h.cells + n)
line_number h Multipole n = 2 + (h.cells + h.points + n)
line_number h Entry n = 2 + (h.cells + h.points + h.cells + n)
line_number h Local n = 2 + (h.cells + h.points + h.cells + h.entries + n)
line_number h Target n = 2 + (h.cells + h.points + h.cells + h.entries + h.cells + n)
line_number h End n = 2 + (h.cells + h.points + h.cells + h.entries + h.cells + h.targets + n)

module _ (points : Points) (c : Certificate) where
  -- ---- the rules of the n-th line of a section
  abbrev pub SectionHolds : Section → ℕ → ℕ → Type 0
  SectionHolds Node n rule = rule ≡ 1 → NodeHolds points c n
  SectionHolds At n rule = rule ≡ 1 → PointHolds points c n
  SectionHolds Multipole n rule = (rule ≡ 2 → LeafRowHolds points c n) × (rule ≡ 3 → InnerRowHolds points c n)
  SectionHolds Entry n rule = rule ≡ 5 → EntryHolds points c n
  SectionHolds Local n rule = (rule ≡ 4 → LocalRowHolds points c n) × (rule ≡ 6 → TilingHolds points c n)
  SectionHolds Target n rule = rule ≡ 7 → TargetHolds points c n
  SectionHolds End n rule = Unit {0}

  -- a rule at a line, by its number: one that isn't of the line's kind holds there
  abbrev pub HoldsAt : ℕ → ℕ → Type 0
  HoldsAt zero rule = Unit {0}
  HoldsAt (suc zero) rule = rule ≡ 8 → HeadHolds points c
  HoldsAt (suc (suc k)) rule = SectionHolds (place_of c.head k).section (place_of c.head k).number rule

  abbrev pub FailsAt : ℕ → ℕ → Type 0
  FailsAt line rule = HoldsAt line rule → ⊥

  -- ---- the verdict
  -- yes: each rule holds at each line
  abbrev pub HoldEverywhere : Type 0
  HoldEverywhere = (line rule : ℕ) → HoldsAt line rule

  -- no: the rule fails at the line, none fails at a line before, and none that is less at this one
  pub record IsFirstFailure (rule line : ℕ) : Type 0 where
    pub fails : FailsAt line rule
    pub lines_before : (l r : ℕ) → l < line → HoldsAt l r
    pub rules_before : (r : ℕ) → r < rule → HoldsAt line r

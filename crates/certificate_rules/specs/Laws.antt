-- What the rules of a certificate imply.
use Rattle.std.specs.Prelude.{ℕ, ◌≡◌, ◌<◌, ◌↔◌, ◌⊎◌, length}
use Rattle.cert_text.specs.Certificate.{Certificate, IsCertificate}
use Rattle.cert_text.specs.Storage.{lines_in}
use Rattle.cert_text.specs.declared.section.Section.{Section}
use Rattle.near_field.specs.DirectSum.{direct_sum}
use Rattle.points.specs.declared.Points.{Points}
use Rattle.soundness.specs.Counts.{CountsHold}
use Rattle.certificate_rules.specs.LineRules.{targets_of, nth_place, given_counts}
use Rattle.certificate_rules.specs.Verdicts.{line_number, SectionHolds, HoldsAt, HoldEverywhere, IsFirstFailure}

-- where all rules hold, the counts of each target contain the direct sum of the list at its place
abbrev pub CountsAreSound : Type 0
CountsAreSound = (points : Points) (c : Certificate) → IsCertificate c → HoldEverywhere points c
    → (k : ℕ) → k < length (targets_of points.list)
    → CountsHold (given_counts c k).re (given_counts c k).im (direct_sum (nth_place (targets_of points.list) k) points.list)

-- the rules at the number of a line of a section are those of the section
abbrev pub LinesAreNumbered : Type 0
LinesAreNumbered = (points : Points) (c : Certificate) (section : Section) (n rule : ℕ) → IsCertificate c → n < length (lines_in section c)
    → HoldsAt points c (line_number c.head section n) rule ↔ SectionHolds points c section n rule

-- either all rules hold, or there is a first failure
abbrev pub SomeVerdict : Type 0
SomeVerdict = (points : Points) (c : Certificate) → HoldEverywhere points c ⊎ ((rule : ℕ) × (line : ℕ) × IsFirstFailure points c rule line)

-- no two first failures differ, and there is none where all rules hold
abbrev pub OneVerdict : Type 0
OneVerdict = (points : Points) (c : Certificate) (rule line : ℕ) → IsFirstFailure points c rule line
    → ((rule' line' : ℕ) → IsFirstFailure points c rule' line' → (rule ≡ rule') × (line ≡ line'))
    × (HoldEverywhere points c → ⊥)

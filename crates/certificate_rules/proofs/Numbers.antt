-- The numbers of lines, and the first failure.
use Rattle.std.proofs.Common.{ℕ, suc, ◌+◌, ◌≡◌, ◌<◌, length, inl, inr, sym, subst, arith}
use Rattle.std.specs.Prelude.{◌↔◌}
use Rattle.std.proofs.lemmas.Bool.{cases_lt}
use Rattle.cert_text.specs.Certificate.{Certificate, IsCertificate}
use Rattle.cert_text.specs.Lines.{Head}
use Rattle.cert_text.specs.Sections.{Place}
use Rattle.cert_text.specs.Storage as storage
use Rattle.cert_text.specs.declared.section.Section.{Section}
use Rattle.cert_text.specs.declared.section.Section.TheVariants.{Node, At, Multipole, Entry, Local, Target, End}
use Rattle.cert_text.proofs.Places.{lines_in, start_of, place_at}
use Rattle.points.specs.declared.Points.{Points}
use Rattle.certificate_rules.specs.Laws.{LinesAreNumbered, OneVerdict}
use Rattle.certificate_rules.specs.Verdicts.{line_number, SectionHolds, HoldsAt, IsFirstFailure}

-- ---- numbers
-- all lines behind line 1 are counted on from it
number_is : (h : Head) (section : Section) (n : ℕ) → line_number h section n ≡ suc (suc (start_of h section + n))
number_is h Node n = omega arith
number_is h At n = omega arith
number_is h Multipole n = omega arith
number_is h Entry n = omega arith
number_is h Local n = omega arith
number_is h Target n = omega arith
number_is h End n = omega arith

-- the rules of each line of a section, by the counts of line 1
pub numbered : (points : Points) (c : Certificate) (section : Section) (n rule : ℕ) → n < lines_in c.head section
    → HoldsAt points c (line_number c.head section n) rule ↔ SectionHolds points c section n rule
numbered points c section n rule lt =
    let e = number_is c.head section n in
    let p = place_at c.head section n lt in (
      λ holds. subst (λ (q : Place). SectionHolds points c q.section q.number rule) p (subst (λ m. HoldsAt points c m rule) e holds),
      λ holds. subst (λ m. HoldsAt points c m rule) (sym e) (subst (λ (q : Place). SectionHolds points c q.section q.number rule) (sym p) holds),
    )

-- which a certificate has
counted : (c : Certificate) → IsCertificate c → (section : Section) (n : ℕ) → n < length (storage.lines_in section c) → n < lines_in c.head section
counted c is Node n lt = omega (arith, lt, is.nodes_are)
counted c is At n lt = omega (arith, lt, is.ats_are)
counted c is Multipole n lt = omega (arith, lt, is.multipoles_are)
counted c is Entry n lt = omega (arith, lt, is.entries_are)
counted c is Local n lt = omega (arith, lt, is.locals_are)
counted c is Target n lt = omega (arith, lt, is.targets_are)
counted c is End n lt = absurd (omega (arith, lt))

pub lines_numbered : LinesAreNumbered
lines_numbered points c section n rule is lt = numbered points c section n rule (counted c is section n lt)

-- ---- the first failure
pub one_verdict : OneVerdict
one_verdict points c rule line first = (other, λ everywhere. first.fails (everywhere line rule))
  where
    other : (rule' line' : ℕ) → IsFirstFailure points c rule' line' → (rule ≡ rule') × (line ≡ line')
    other rule' line' second = (rules, lines)
      where
        lines : line ≡ line'
        lines = elim (cases_lt line line') [
          | inl lt ↦ absurd (first.fails (second.lines_before line rule lt))
          | inr ge ↦ elim (cases_lt line' line) [ inl lt ↦ absurd (second.fails (first.lines_before line' rule' lt)) | inr le ↦ omega (arith, ge, le) ]
        ]

        rules : rule ≡ rule'
        rules = elim (cases_lt rule rule') [
          | inl lt ↦ absurd (first.fails (subst (λ l. HoldsAt points c l rule) (sym lines) (second.rules_before rule lt)))
          | inr ge ↦ elim (cases_lt rule' rule) [ inl lt ↦ absurd (second.fails (subst (λ l. HoldsAt points c l rule') lines (first.rules_before rule' lt))) | inr le ↦ omega (arith, ge, le) ]
        ]

-- All lines are those of the sections, so what holds of each section's lines holds at each line; and how a first failure is shown.
use Rattle.std.proofs.Common.{ℕ, zero, suc, ◌+◌, ◌-◌, ◌≡◌, ◌<◌, inl, inr, List, [], ◌∷◌, refl, sym, subst, arith}
use Rattle.std.specs.Prelude.{cond}
use Rattle.std.proofs.lemmas.Bool.{cases_lt, lt-ltb, le-ltb}
use Rattle.cert_text.specs.Certificate.{Certificate}
use Rattle.cert_text.specs.Sections.{Part, Place, sections_of, place_in}
use Rattle.cert_text.specs.declared.section.Section.{Section}
use Rattle.cert_text.specs.declared.section.Section.TheVariants.{Node, At, Multipole, Entry, Local, Target, End}
use Rattle.cert_text.proofs.Places.{place, lines_in}
use Rattle.points.specs.declared.Points.{Points}
use Rattle.certificate_rules.specs.LineRules.{HeadHolds}
use Rattle.certificate_rules.specs.Verdicts.{line_number, SectionHolds, HoldsAt, HoldEverywhere, IsFirstFailure}
use Rattle.certificate_rules.proofs.Numbers.{numbered}

module _ (Q : ℕ → Place → Type 0) where
  -- Q holds of each line of some parts, counted on from a, and of what stands behind them
  abbrev OfParts : ℕ → List Part → Type 0
  OfParts a [] = (n : ℕ) → Q (a + n) (place End n)
  OfParts a (p ∷ ps) = ((n : ℕ) → n < p.lines → Q (a + n) (place p.section n)) × OfParts (a + p.lines) ps

  of_place : (ps : List Part) (a k : ℕ) → OfParts a ps → Q (a + k) (place_in ps k)
  of_place [] a k h = h k
  of_place (p ∷ ps) a k h = elim (cases_lt k p.lines) [
    | inl lt ↦ subst (λ b. Q (a + k) (cond b (place p.section k) (place_in ps (k - p.lines)))) (sym (lt-ltb k p.lines lt)) (h.0 k lt)
    | inr le ↦
        let same : a + p.lines + (k - p.lines) ≡ a + k = omega (arith, le) in
        subst (λ b. Q (a + k) (cond b (place p.section k) (place_in ps (k - p.lines)))) (sym (le-ltb k p.lines le))
        (subst (λ m. Q m (place_in ps (k - p.lines))) same (of_place ps (a + p.lines) (k - p.lines) h.1))
  ]

module _ (points : Points) (c : Certificate) where
  -- the rules of all lines of all sections that stand before a line
  abbrev pub SectionsHoldBefore : ℕ → Type 0
  SectionsHoldBefore line = (section : Section) (n rule : ℕ) → n < lines_in c.head section → line_number c.head section n < line → SectionHolds points c section n rule

  pub lines_hold_before : (line : ℕ) → HeadHolds points c → SectionsHoldBefore line → (l rule : ℕ) → l < line → HoldsAt points c l rule
  lines_hold_before line head holds zero rule lt = tt
  lines_hold_before line head holds (suc zero) rule lt = λ e. head
  lines_hold_before line head holds (suc (suc k)) rule lt =
      of_place (λ m p. suc (suc m) < line → SectionHolds points c p.section p.number rule) (sections_of c.head) 0 k (
        (λ n below before. holds Node n rule below (omega (arith, before))),
        (
          (λ n below before. holds At n rule below (omega (arith, before))),
          (
            (λ n below before. holds Multipole n rule below (omega (arith, before))),
            (
              (λ n below before. holds Entry n rule below (omega (arith, before))),
              (
                (λ n below before. holds Local n rule below (omega (arith, before))),
                (
                  (λ n below before. holds Target n rule below (omega (arith, before))),
                  (λ n before. tt),
                ),
              ),
            ),
          ),
        ),
      )
      (omega (arith, lt))

  pub hold_everywhere : HeadHolds points c → ((section : Section) (n rule : ℕ) → n < lines_in c.head section → SectionHolds points c section n rule) → HoldEverywhere points c
  hold_everywhere head holds line rule = lines_hold_before (suc line) head (λ section n rule below before. holds section n rule below) line rule (omega arith)

  -- ---- first failures
  pub head_fails : (HeadHolds points c → ⊥) → IsFirstFailure points c 8 1
  head_fails fails = record { fails = λ holds. fails (holds refl); lines_before = nothing; rules_before = λ r less e. absurd (omega (arith, less, e)) }
    where
      nothing : (l r : ℕ) → l < 1 → HoldsAt points c l r
      nothing zero r less = tt
      nothing (suc l) r less = absurd (omega (arith, less))

  pub section_fails : (section : Section) (n rule : ℕ) → n < lines_in c.head section → HeadHolds points c → SectionsHoldBefore (line_number c.head section n)
      → ((r : ℕ) → r < rule → SectionHolds points c section n r) → (SectionHolds points c section n rule → ⊥) → IsFirstFailure points c rule (line_number c.head section n)
  section_fails section n rule below head before less fails = record {
    fails = λ holds. fails ((numbered points c section n rule below).0 holds);
    lines_before = λ l r lt. lines_hold_before (line_number c.head section n) head before l r lt;
    rules_before = λ r lt. (numbered points c section n r below).1 (less r lt);
  }

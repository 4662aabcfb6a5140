-- Of what is wrong with the first line of some bytes, one kind is the first.
use Rattle.std.proofs.Common.{◌≡◌, ◌<◌, ℕ, List, subst, arith}
use Rattle.number_text.specs.Parts.{IsCut, IsFreeOf}
use Rattle.number_text.proofs.Cuts.{same_cut, no_cut}
use Rattle.points.specs.declared.Mode.{Mode}
use Rattle.points.specs.declared.Point.{Point}
use Rattle.particle_text.specs.declared.TextKind.{TextKind}
use Rattle.particle_text.specs.declared.TextKind.TheVariants.{Syntax, Range, Mixed, Many, Strength}
use Rattle.particle_text.specs.Faults.{CanJoin, IsFirstKind, PointFault, FormFault, LineFault, rank}
use Rattle.particle_text.specs.Text.{LineSpells, BeginsWith}
use Rattle.particle_text.proofs.OneForm.{one_form}

-- the first line is that of one point
pub record SameLine (p q : Point) (rest other : List ℕ) : Type 0 where
  pub points : p ≡ q
  pub rests : rest ≡ other

pub one_line : (version : ℕ) (bytes : List ℕ) (p q : Point) (rest other : List ℕ) → BeginsWith version bytes p rest → BeginsWith version bytes q other → SameLine p q rest other
one_line version bytes p q rest other a b =
    let same = same_cut 10 bytes _ rest _ other a.cut b.cut in
    record { points = one_form version _ p q (subst (λ line. LineSpells version line p) same.fronts a.spelled) b.spelled; rests = same.backs }

pub begins_with : (version : ℕ) (bytes line rest : List ℕ) (p : Point) → IsCut 10 bytes line rest → LineSpells version line p → BeginsWith version bytes p rest
begins_with version bytes line rest p cut spells = record { line = line; cut = cut; spelled = spells }

-- bytes with no line feed begin with no line
pub no_line : (version : ℕ) (bytes : List ℕ) (p : Point) (rest : List ℕ) → IsFreeOf 10 bytes → BeginsWith version bytes p rest → ⊥
no_line version bytes p rest free begins = no_cut 10 begins.line rest (subst (IsFreeOf 10) begins.cut.whole free)

pub syntax_first : (version : ℕ) (mode : Mode) (live weight : ℕ) (bytes : List ℕ) → ((p : Point) (rest : List ℕ) → BeginsWith version bytes p rest → ⊥) → IsFirstKind (LineFault version mode live weight bytes) Syntax
syntax_first version mode live weight bytes none = record { here = none; earlier = λ other lower fault. omega (arith, lower) }

-- what is wrong with a line by itself
pub form_fault_first : (version : ℕ) (mode : Mode) (live weight : ℕ) (bytes line rest : List ℕ) → IsCut 10 bytes line rest → (kind : TextKind) → FormFault version line kind → IsFirstKind (LineFault version mode live weight bytes) kind
form_fault_first version mode live weight bytes line rest cut Syntax fault = syntax_first version mode live weight bytes (λ p other begins.
    let same = same_cut 10 bytes _ other line rest begins.cut cut in
    fault p (subst (λ t. LineSpells version t p) same.fronts begins.spelled))
form_fault_first version mode live weight bytes line rest cut Range fault =
    let begins = begins_with version bytes line rest fault.0 cut fault.1 in
    record { here = (fault.0, rest, begins, fault.2); earlier = before }
  where
    before : (other : TextKind) → rank other < 1 → LineFault version mode live weight bytes other → ⊥
    before Syntax lower none = none fault.0 rest (begins_with version bytes line rest fault.0 cut fault.1)
    before Range lower _ = omega (arith, lower)
    before Mixed lower _ = omega (arith, lower)
    before Many lower _ = omega (arith, lower)
    before Strength lower _ = omega (arith, lower)
form_fault_first version mode live weight bytes line rest cut Mixed fault = absurd fault
form_fault_first version mode live weight bytes line rest cut Many fault = absurd fault
form_fault_first version mode live weight bytes line rest cut Strength fault = absurd fault

-- what is wrong with the point of a line, as a fault of the line, and back
to_line : (version : ℕ) (mode : Mode) (live weight : ℕ) (bytes : List ℕ) (p : Point) (rest : List ℕ) → BeginsWith version bytes p rest → (kind : TextKind) → PointFault version mode live weight p kind → LineFault version mode live weight bytes kind
to_line version mode live weight bytes p rest begins Syntax fault = absurd (fault tt)
to_line version mode live weight bytes p rest begins Range fault = (p, rest, begins, fault)
to_line version mode live weight bytes p rest begins Mixed fault = (p, rest, begins, fault)
to_line version mode live weight bytes p rest begins Many fault = (p, rest, begins, fault)
to_line version mode live weight bytes p rest begins Strength fault = (p, rest, begins, fault)

pub of_line : (version : ℕ) (mode : Mode) (live weight : ℕ) (bytes : List ℕ) (p : Point) (rest : List ℕ) → BeginsWith version bytes p rest → (kind : TextKind) → LineFault version mode live weight bytes kind → PointFault version mode live weight p kind
of_line version mode live weight bytes p rest begins Syntax fault = absurd (fault p rest begins)
of_line version mode live weight bytes p rest begins Range fault = subst (λ q. PointFault version mode live weight q Range) (one_line version bytes fault.0 p fault.1 rest fault.2 begins).points fault.3
of_line version mode live weight bytes p rest begins Mixed fault = subst (λ q. PointFault version mode live weight q Mixed) (one_line version bytes fault.0 p fault.1 rest fault.2 begins).points fault.3
of_line version mode live weight bytes p rest begins Many fault = fault.3
of_line version mode live weight bytes p rest begins Strength fault = subst (λ q. PointFault version mode live weight q Strength) (one_line version bytes fault.0 p fault.1 rest fault.2 begins).points fault.3

pub point_fault_first : (version : ℕ) (mode : Mode) (live weight : ℕ) (bytes : List ℕ) (p : Point) (rest : List ℕ) → BeginsWith version bytes p rest → (kind : TextKind) → IsFirstKind (PointFault version mode live weight p) kind
    → IsFirstKind (LineFault version mode live weight bytes) kind
point_fault_first version mode live weight bytes p rest begins kind first = record {
  here = to_line version mode live weight bytes p rest begins kind first.here;
  earlier = λ other lower fault. first.earlier other lower (of_line version mode live weight bytes p rest begins other fault);
}

-- nothing is wrong with a point in range that can join
pub no_line_fault : (version : ℕ) (mode : Mode) (live weight : ℕ) (bytes : List ℕ) (p : Point) (rest : List ℕ) → BeginsWith version bytes p rest → CanJoin version mode live weight p → (kind : TextKind) → LineFault version mode live weight bytes kind → ⊥
no_line_fault version mode live weight bytes p rest begins joins kind fault = of_line version mode live weight bytes p rest begins kind fault (joins kind)

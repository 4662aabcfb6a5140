-- What is wrong with one line is one kind.
use Rattle.std.proofs.Common.{◌≡◌, ℕ, List, subst, refl}
use Rattle.points.specs.declared.Point.{Point}
use Rattle.particle_text.specs.declared.TextKind.{TextKind}
use Rattle.particle_text.specs.declared.TextKind.TheVariants.{Syntax, Range, Mixed, Many, Strength}
use Rattle.limits.specs.Limits.{grid_of}
use Rattle.particle_text.specs.Faults.{FormFault}
use Rattle.points.specs.Limits.{InRange}
use Rattle.particle_text.specs.Text.{LineSpells}
use Rattle.particle_text.proofs.OneForm.{one_form}

pub syntax_alone : (version : ℕ) (line : List ℕ) → ((p : Point) → LineSpells version line p → ⊥) → (kind : TextKind) → FormFault version line kind → Syntax ≡ kind
syntax_alone version line none Syntax fault = refl
syntax_alone version line none Range fault = absurd (none fault.0 fault.1)
syntax_alone version line none Mixed fault = absurd fault
syntax_alone version line none Many fault = absurd fault
syntax_alone version line none Strength fault = absurd fault

pub range_alone : (version : ℕ) (line : List ℕ) (p : Point) → LineSpells version line p → (kind : TextKind) → FormFault version line kind → Range ≡ kind
range_alone version line p spells Syntax fault = absurd (fault p spells)
range_alone version line p spells Range fault = refl
range_alone version line p spells Mixed fault = absurd fault
range_alone version line p spells Many fault = absurd fault
range_alone version line p spells Strength fault = absurd fault

pub no_form_fault : (version : ℕ) (line : List ℕ) (p : Point) → LineSpells version line p → InRange (grid_of version) p → (kind : TextKind) → FormFault version line kind → ⊥
no_form_fault version line p spells range Syntax fault = fault p spells
no_form_fault version line p spells range Range fault = fault.2 (subst (InRange (grid_of version)) (one_form version line p fault.0 spells fault.1) range)
no_form_fault version line p spells range Mixed fault = fault
no_form_fault version line p spells range Many fault = fault
no_form_fault version line p spells range Strength fault = fault

use Rattle.std.proofs.Common.{ap, ◌∙◌, subst, refl}
use Rattle.limits.specs.Limits.{grid_of}
use Rattle.number_text.specs.Parts.{IsCut}
use Rattle.number_text.proofs.Rows.{kept}
use Rattle.points.specs.declared.Kind.TheVariants.{Charge, Dipole, Vortex, Target, Pole}
use Rattle.points.specs.Limits.{IsKindOf}
use Rattle.particle_text.specs.Private.{kind_of_form, word_of}
use Rattle.particle_text.proofs.Forms.{reads_as, form_of_kind, form_of_version, word_of_kind, no_charge, no_dipole, no_vortex, no_target, no_pole, same_point}
use Rattle.particle_text.proofs.line.read_form.Goals as goal

pub returns-in_err-form_of-clause-none : goal.returns-in_err-form_of-clause-none
returns-in_err-form_of-clause-none c =
    rw c.from_residual-in_err-form_of.ensures (λ q spells.
    let reads = reads_as c.args.version c.args.line.now _ _ q c.in_ok-name.ensures.some spells in
    c.in_err-form_of.ensures.none (form_of_kind q.kind) (form_of_version (grid_of c.args.version) q.kind spells.kind) (reads.named ∙ word_of_kind q.kind))

pub returns-in_err-x-in-Charge-clause-none : goal.returns-in_err-x-in-Charge-clause-none
returns-in_err-x-in-Charge-clause-none c =
    let name = c.in_ok-form_of.ensures.some ∙ ap word_of c.in-Charge.is in
    rw c.from_residual-in_err-x-in-Charge.ensures (λ q spells.
    no_charge _ _ q name c.in_err-x-in-Charge.ensures.none (reads_as c.args.version c.args.line.now _ _ q c.in_ok-name.ensures.some spells))

pub returns-in_err-x-in-Dipole-clause-none : goal.returns-in_err-x-in-Dipole-clause-none
returns-in_err-x-in-Dipole-clause-none c =
    let name = c.in_ok-form_of.ensures.some ∙ ap word_of c.in-Dipole.is in
    rw c.from_residual-in_err-x-in-Dipole.ensures (λ q spells.
    no_dipole _ _ q name c.in_err-x-in-Dipole.ensures.none (reads_as c.args.version c.args.line.now _ _ q c.in_ok-name.ensures.some spells))

pub returns-in_err-x-in-Vortex-clause-none : goal.returns-in_err-x-in-Vortex-clause-none
returns-in_err-x-in-Vortex-clause-none c =
    let name = c.in_ok-form_of.ensures.some ∙ ap word_of c.in-Vortex.is in
    rw c.from_residual-in_err-x-in-Vortex.ensures (λ q spells.
    no_vortex _ _ q name c.in_err-x-in-Vortex.ensures.none (reads_as c.args.version c.args.line.now _ _ q c.in_ok-name.ensures.some spells))

pub returns-in_err-x-in-Target-clause-none : goal.returns-in_err-x-in-Target-clause-none
returns-in_err-x-in-Target-clause-none c =
    let name = c.in_ok-form_of.ensures.some ∙ ap word_of c.in-Target.is in
    rw c.from_residual-in_err-x-in-Target.ensures (λ q spells.
    no_target _ _ q name c.in_err-x-in-Target.ensures.none (reads_as c.args.version c.args.line.now _ _ q c.in_ok-name.ensures.some spells))

pub returns-in_ok-x-in-Charge-clause-some : goal.returns-in_ok-x-in-Charge-clause-some
returns-in_ok-x-in-Charge-clause-some c =
    let found = c.in_ok-x-in-Charge.ensures.some in
    let name = c.in_ok-form_of.ensures.some ∙ ap word_of c.in-Charge.is in
    let numbers = c.in_ok-name.numbers.now in
    let cut = subst (λ word. IsCut 32 c.args.line.now word numbers) name c.in_ok-name.ensures.some in (
      record { x = found.0; y = found.1; kind = Charge found.2 },
      record { kind = tt; numbers = numbers; cut = cut; spelled = found.3 },
      same_point _ _ _ _ _ _ (kept _ found.0 found.4) (kept _ found.1 found.5) (ap Charge (kept _ found.2 found.6)),
    )

pub returns-in_ok-x-in-Dipole-clause-some : goal.returns-in_ok-x-in-Dipole-clause-some
returns-in_ok-x-in-Dipole-clause-some c =
    let found = c.in_ok-x-in-Dipole.ensures.some in
    let name = c.in_ok-form_of.ensures.some ∙ ap word_of c.in-Dipole.is in
    let numbers = c.in_ok-name.numbers.now in
    let cut = subst (λ word. IsCut 32 c.args.line.now word numbers) name c.in_ok-name.ensures.some in (
      record { x = found.0; y = found.1; kind = Dipole found.2 found.3 },
      record { kind = tt; numbers = numbers; cut = cut; spelled = found.4 },
      same_point _ _ _ _ _ _ (kept _ found.0 found.5) (kept _ found.1 found.6) (λ i. Dipole ((kept _ found.2 found.7) i) ((kept _ found.3 found.8) i)),
    )

pub returns-in_ok-x-in-Vortex-clause-some : goal.returns-in_ok-x-in-Vortex-clause-some
returns-in_ok-x-in-Vortex-clause-some c =
    let found = c.in_ok-x-in-Vortex.ensures.some in
    let name = c.in_ok-form_of.ensures.some ∙ ap word_of c.in-Vortex.is in
    let numbers = c.in_ok-name.numbers.now in
    let cut = subst (λ word. IsCut 32 c.args.line.now word numbers) name c.in_ok-name.ensures.some in (
      record { x = found.0; y = found.1; kind = Vortex found.2 },
      record { kind = tt; numbers = numbers; cut = cut; spelled = found.3 },
      same_point _ _ _ _ _ _ (kept _ found.0 found.4) (kept _ found.1 found.5) (ap Vortex (kept _ found.2 found.6)),
    )

pub returns-in_ok-x-in-Target-clause-some : goal.returns-in_ok-x-in-Target-clause-some
returns-in_ok-x-in-Target-clause-some c =
    let found = c.in_ok-x-in-Target.ensures.some in
    let name = c.in_ok-form_of.ensures.some ∙ ap word_of c.in-Target.is in
    let numbers = c.in_ok-name.numbers.now in
    let cut = subst (λ word. IsCut 32 c.args.line.now word numbers) name c.in_ok-name.ensures.some in (
      record { x = found.0; y = found.1; kind = Target },
      record { kind = tt; numbers = numbers; cut = cut; spelled = found.2 },
      same_point _ _ _ _ _ _ (kept _ found.0 found.3) (kept _ found.1 found.4) (refl),
    )

pub returns-in_err-x-in-Pole-clause-none : goal.returns-in_err-x-in-Pole-clause-none
returns-in_err-x-in-Pole-clause-none c =
    let name = c.in_ok-form_of.ensures.some ∙ ap word_of c.in-Pole.is in
    rw c.from_residual-in_err-x-in-Pole.ensures (λ q spells.
    no_pole _ _ q name c.in_err-x-in-Pole.ensures.none (reads_as c.args.version c.args.line.now _ _ q c.in_ok-name.ensures.some spells))

pub returns-in_ok-x-in-Pole-clause-some : goal.returns-in_ok-x-in-Pole-clause-some
returns-in_ok-x-in-Pole-clause-some c =
    let found = c.in_ok-x-in-Pole.ensures.some in
    let kind = subst (λ form. IsKindOf (grid_of c.args.version) (kind_of_form form)) c.in-Pole.is c.in_ok-form_of.ensures.kind in
    let name = c.in_ok-form_of.ensures.some ∙ ap word_of c.in-Pole.is in
    let numbers = c.in_ok-name.numbers.now in
    let cut = subst (λ word. IsCut 32 c.args.line.now word numbers) name c.in_ok-name.ensures.some in (
      record { x = found.0; y = found.1; kind = Pole found.2 found.3 },
      record { kind = kind; numbers = numbers; cut = cut; spelled = found.4 },
      same_point _ _ _ _ _ _ (kept _ found.0 found.5) (kept _ found.1 found.6) (λ i. Pole ((kept _ found.2 found.7) i) ((kept _ found.3 found.8) i)),
    )

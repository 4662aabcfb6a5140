use Rattle.std.proofs.Common.{◌≡◌, ℕ, List, Ok, Err, sym, ap, ◌∙◌, subst, refl}
use Rattle.std.proofs.lemmas.Bool.{false≢true}
use Rattle.points.specs.declared.Point.{Point}
use Rattle.limits.proofs.Grids.{version_has_grid}
use Rattle.limits.specs.Limits.{IsGrid, grid_of}
use Rattle.points.specs.Limits.{InRange}
use Rattle.particle_text.specs.Private.{cut_point}
use Rattle.particle_text.specs.Text.{LineSpells}
use Rattle.particle_text.proofs.FormFaults.{syntax_alone, range_alone, no_form_fault}
use Rattle.particle_text.proofs.OneForm.{one_form}
use Rattle.particle_text.proofs.Ranges.{point_kept, point_back}
use Rattle.particle_text.proofs.line.parse_point.Goals as goal

pub returns-in-None-clause-accepts : goal.returns-in-None-clause-accepts
returns-in-None-clause-accepts c = λ p spells range. absurd (c.in-None.ensures.none p spells)

pub returns-in-None-clause-refuses : goal.returns-in-None-clause-refuses
returns-in-None-clause-refuses c = λ kind fault. ap Err (syntax_alone c.args.version c.args.line.now c.in-None.ensures.none kind fault)

-- a point that is read as one out of range is out of range
outside : (grid : ℕ) (p q : Point) → IsGrid grid → p ≡ cut_point q → (InRange grid p → ⊥) → InRange grid q → ⊥
outside grid p q is read out range = out (subst (InRange grid) (sym (read ∙ point_kept grid q is range)) range)

pub returns-in-Some-clause-fault : goal.returns-in-Some-clause-fault
returns-in-Some-clause-fault c =
    let found = c.in-Some.ensures.some in
    let out : InRange (grid_of c.args.version) c.in-Some.point → ⊥ = λ range. false≢true (c.if-not-is_in_range.ensures.1 (subst (λ n. InRange n c.in-Some.point) (sym c.grid_of-grid.ensures) range)) in
    (found.0, found.1, outside _ c.in-Some.point found.0 (version_has_grid c.args.version) found.2 out)

pub returns-in-Some-clause-accepts : goal.returns-in-Some-clause-accepts
returns-in-Some-clause-accepts c = λ p spells range.
    let found = c.in-Some.ensures.some in
    let out : InRange (grid_of c.args.version) c.in-Some.point → ⊥ = λ range. false≢true (c.if-not-is_in_range.ensures.1 (subst (λ n. InRange n c.in-Some.point) (sym c.grid_of-grid.ensures) range)) in
    absurd (outside _ c.in-Some.point found.0 (version_has_grid c.args.version) found.2 out (subst (InRange (grid_of c.args.version)) (one_form c.args.version c.args.line.now p found.0 spells found.1) range))

pub returns-in-Some-clause-refuses : goal.returns-in-Some-clause-refuses
returns-in-Some-clause-refuses c = λ kind fault.
    let found = c.in-Some.ensures.some in
    ap Err (range_alone c.args.version c.args.line.now found.0 found.1 kind fault)

-- a point that is read as one in range is the one that is read
inside : (version : ℕ) (line : List ℕ) (p q : Point) → LineSpells version line q → p ≡ cut_point q → InRange (grid_of version) p → LineSpells version line p
inside version line p q spells read range = subst (LineSpells version line) (sym (read ∙ point_back (grid_of version) q (version_has_grid version) (subst (InRange (grid_of version)) read range))) spells

pub returns-in-Some-2-clause-ok : goal.returns-in-Some-2-clause-ok
returns-in-Some-2-clause-ok c =
    let found = c.in-Some.ensures.some in
    let range : InRange (grid_of c.args.version) c.in-Some.point = subst (λ n. InRange n c.in-Some.point) c.grid_of-grid.ensures (c.if-not-is_in_range.ensures.0 refl) in
    (inside c.args.version c.args.line.now c.in-Some.point found.0 found.1 found.2 range, range)

pub returns-in-Some-2-clause-accepts : goal.returns-in-Some-2-clause-accepts
returns-in-Some-2-clause-accepts c = λ p spells range.
    let ok = returns-in-Some-2-clause-ok c in
    ap Ok (one_form c.args.version c.args.line.now c.in-Some.point p ok.0 spells)

pub returns-in-Some-2-clause-refuses : goal.returns-in-Some-2-clause-refuses
returns-in-Some-2-clause-refuses c = λ kind fault.
    let ok = returns-in-Some-2-clause-ok c in
    absurd (no_form_fault c.args.version c.args.line.now c.in-Some.point ok.0 ok.1 kind fault)

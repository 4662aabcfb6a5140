-- The box is one of those that are small.
use Rattle.std.proofs.Common.{◌<◌, ◌∙◌, length, sym, ap, subst, arith}
use Rattle.std.proofs.lemmas.List.{get_or-map, length-map}
use Rattle.complex_box.specs.Box.{BoxWithin}
use Rattle.limits.specs.Limits.{most_box}
use Rattle.field_basis.specs.Target.{TargetModel}
use Rattle.field_solve.specs.Parts.{FieldParts}
use Rattle.field_solve.proofs.field.Field.value.Goals as goal

pub returns-clause-size : goal.returns-clause-size
returns-clause-size g c =
    let k = c.args.k in
    let items = c.self.inside.places.values.items in
    let as_many = length-map items (λ (p : TargetModel). p.value) in
    let seen = ap (λ (f : FieldParts). length f.values) c.self.view_is in
    let lt : k < length items = omega (arith, seen, as_many, c.requires) in
    let read = get_or-map (λ (p : TargetModel). p.value) items k c.index.result.now c.value.result lt in
    subst (λ (f : FieldParts). BoxWithin (most_box f.basis.tree.grid) c.value.result) c.self.view_is
    (subst (BoxWithin (most_box c.self.inside.basis.tree.grid)) (read ∙ ap (λ (p : TargetModel). p.value) (sym c.index.ensures) ∙ sym c.value.ensures) (c.self.invariant.small k c.value.result (omega (arith, as_many, lt))))

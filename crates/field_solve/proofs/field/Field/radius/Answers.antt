-- The radius is that of a place of the field, 0 where the cell has no target.
use Rattle.std.proofs.Common.{◌≡◌, ◌<◌, ◌∙◌, length, ap, sym, subst, arith}
use Rattle.std.proofs.lemmas.Int.{ints}
use Rattle.std.proofs.lemmas.List.{get_or_default}
use Rattle.field_basis.specs.Place.{PlaceModel, no_place, place_at}
use Rattle.quadtree.specs.TreeModel.{size}
use Rattle.field_solve.specs.Parts.{FieldParts, FitTogether}
use Rattle.field_solve.proofs.Sizes.{radius_small, radius_zero}
use Rattle.field_solve.proofs.field.Field.radius.Given.{Over}
use Rattle.field_solve.proofs.field.Field.radius.Goals as goal

module _ (g : Over) (c : goal.After-radius g) where
  fits : FitTogether g.row.P c.args.self.now
  fits = subst (λ (f : FieldParts). FitTogether g.row.P f) c.self.view_is c.self.invariant

  here : c.index.result.now ≡ place_at c.args.self.now.local c.args.n
  here =
      let n = c.args.n in
      let items = c.self.inside.places.local.items in
      let trees = ap (λ (f : FieldParts). size f.basis.tree) c.self.view_is in
      let lt : n < length items = omega (arith, trees, c.self.invariant.local_are.as_many, c.requires) in
      c.index.ensures ∙ sym (get_or_default items n no_place c.index.result.now lt) ∙ ap (λ (f : FieldParts). place_at f.local n) c.self.view_is

pub returns-clause-without : goal.returns-clause-without
returns-clause-without g c = λ none.
    let zero = ap (λ (p : PlaceModel). p.radius) (here g c) ∙ radius_zero g.row.P c.args.self.now (fits g c) c.args.n c.requires none in
    omega (arith, ints, c.radius.ensures.radius, zero)

pub returns-clause-size : goal.returns-clause-size
returns-clause-size g c =
    let same = ap (λ (p : PlaceModel). p.radius) (here g c) in
    let small = radius_small g.row.P c.args.self.now (fits g c) c.args.n c.requires in
    omega (arith, ints, c.radius.ensures.radius, same, small)

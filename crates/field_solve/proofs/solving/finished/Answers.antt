-- The field that finished places make, and the counts of all of them.
use Rattle.std.proofs.Common.{◌≡◌, ◌∙◌, List, refl, ap, arith}
use Rattle.exact_math.proofs.Orders.{order_bounds}
use Rattle.field_basis.proofs.Sizes.{inside}
use Rattle.field_basis.specs.Basis.{BasisModel}
use Rattle.field_basis.specs.Place.{PlaceModel, all_translations}
use Rattle.field_basis.specs.Target.{TargetModel, all_pairs}
use Rattle.field_solve.proofs.Contents.{rows_contain}
use Rattle.field_solve.proofs.FieldOf.{parts_fit, parts_solved}
use Rattle.field_solve.proofs.NoWider.{solved_no_wider}
use Rattle.field_solve.proofs.MadeField.{made_boxes_contain, made_fits, made_local_few, made_pairs_fit, made_solves, made_up_few}
use Rattle.field_solve.proofs.solving.finished.Given.{Over}
use Rattle.field_solve.proofs.solving.finished.Goals as goal

pub all_translations-requires : goal.all_translations-requires
all_translations-requires g c =
    let few = order_bounds g.row.P c.requires.basis.order in
    let most = made_up_few g.row.P c.args.basis c.requires.basis c.args.places.up.items c.requires.up in
    (omega (arith, few), omega (arith, most, ap all_translations c.deref.ensures.value))

pub all_translations-requires-2 : goal.all_translations-requires-2
all_translations-requires-2 g c =
    let few = order_bounds g.row.P c.requires.basis.order in
    let most = made_local_few g.row.P c.args.basis c.requires.basis c.args.places.local.items c.requires.local in
    (omega (arith, few), omega (arith, most, ap all_translations c.deref-2.ensures.value))

pub overflow_add-translations : goal.overflow_add-translations
overflow_add-translations g c =
    let b : BasisModel = c.args.basis in
    let m = made_up_few g.row.P b c.requires.basis c.args.places.up.items c.requires.up in
    let n = made_local_few g.row.P b c.requires.basis c.args.places.local.items c.requires.local in
    omega (arith, m, n, c.all_translations.ensures, c.all_translations-2.ensures, ap all_translations c.deref.ensures.value, ap all_translations c.deref-2.ensures.value)

pub all_pairs-pairs-requires : goal.all_pairs-pairs-requires
all_pairs-pairs-requires g c =
    let most = made_pairs_fit g.row.P c.args.basis c.requires.basis c.args.places.values.items c.requires.values in
    omega (arith, most, ap all_pairs c.deref-3.ensures.value)

module _ (g : Over) (c : goal.After-all_pairs-pairs g) where
  abbrev basis : BasisModel
  basis = c.args.basis

  abbrev up : List PlaceModel
  up = c.args.places.up.items

  abbrev local : List PlaceModel
  local = c.args.places.local.items

  abbrev values : List TargetModel
  values = c.args.places.values.items

  up_counted : c.all_translations.result ≡ all_translations up
  up_counted = c.all_translations.ensures ∙ ap all_translations c.deref.ensures.value

  local_counted : c.all_translations-2.result ≡ all_translations local
  local_counted = c.all_translations-2.ensures ∙ ap all_translations c.deref-2.ensures.value

  values_counted : c.all_pairs-pairs.result ≡ all_pairs values
  values_counted = c.all_pairs-pairs.ensures ∙ ap all_pairs c.deref-3.ensures.value

pub invariant_of-result : goal.invariant_of-result
invariant_of-result g c =
    parts_fit g.row.P (basis g c) (up g c) (up g c) (local g c) (local g c) (values g c) (values g c) _ _ _ refl refl refl (up_counted g c) (local_counted g c) (values_counted g c) c.requires.basis
    (made_fits g.row.P (basis g c) c.requires.basis (up g c) (local g c) (values g c) c.requires.up c.requires.local c.requires.values)

pub returns-clause-field : goal.returns-clause-field
returns-clause-field g c =
    parts_solved g.row.P (basis g c) (up g c) (up g c) (local g c) (local g c) (values g c) (values g c) _ _ _ refl refl refl (up_counted g c) (local_counted g c) (values_counted g c) c.requires.basis
    c.args.basis.points c.args.basis.cap refl refl
    (made_solves g.row.P (basis g c) c.requires.basis (up g c) (local g c) (values g c) c.requires.up c.requires.local c.requires.values)

pub returns-clause-rows : goal.returns-clause-rows
returns-clause-rows g c = rows_contain c.args.basis.points c.args.basis.cap g.row.P _ (inside g.row.P c.args.basis c.requires.basis) (returns-clause-field g c)

pub returns-clause-contains : goal.returns-clause-contains
returns-clause-contains g c = made_boxes_contain g.row.P (basis g c) c.requires.basis (values g c) c.requires.values

pub returns-clause-narrow : goal.returns-clause-narrow
returns-clause-narrow g c = solved_no_wider c.args.basis.points c.args.basis.cap g.row.P _ (inside g.row.P c.args.basis c.requires.basis) (returns-clause-field g c)

use Rattle.std.proofs.Common.{ap, ◌∙◌, subst, refl, arith, lit<}
use Rattle.exact_math.proofs.Orders.{order_bounds}
use Rattle.cell_lists.specs.ListAt.{list_at}
use Rattle.letters.specs.declared.Letter.TheVariants.{V}
use Rattle.field_basis.specs.Basis.{IsBasis}
use Rattle.downward_rows.proofs.Lists.{number_in}
use Rattle.downward_rows.proofs.MadePlaces.{same_local}
use Rattle.downward_rows.proofs.run.finish_place.Goals as goal

pub make_place-requires : goal.make_place-requires
make_place-requires g c =
    let b = c.args.basis.now in
    let s : IsBasis g.row.P b = subst (IsBasis g.row.P) c.basis.view_is c.basis.invariant in
    let few = order_bounds g.row.P s.order in (
      lit< tt,
      (
        omega (arith, few),
        (
          c.requires.cell,
          (
            λ k d h. let m = number_in g.row.P b s V c.args.n c.requires.cell (list_at b.lists.v c.args.n) refl k d h in (omega (arith, m, c.requires.rows.as_many), c.requires.rows.each _ m),
            (c.requires.parent, omega (arith, c.new-work.ensures.translations)),
          ),
        ),
      ),
    )

pub returns : goal.returns
returns g c =
    let came = c.set_translations.ensures.translations ∙ c.translations.ensures ∙ ap (λ w. w.translations) c.make_place.ensures.work in
    record {
      place_is = same_local g.row.P c.args.basis.now c.args.n c.make_place.new.place c.set_translations.new.self c.set_translations.ensures.row c.set_translations.ensures.radius c.make_place.ensures.local;
      translations_are = omega (arith, came, c.new-work.ensures.translations);
    }

-- The row of the cell, and its count.
use Rattle.std.proofs.Common.{ap, ◌∙◌, arith}
use Rattle.exact_math.proofs.Orders.{order_bounds}
use Rattle.complex_box.specs.Counts.{Counts}
use Rattle.row_recursions.specs.Rows.{row_of}
use Rattle.upward_rows.proofs.run.make_counted.Goals as goal

pub make_place-requires : goal.make_place-requires
make_place-requires g c =
    let few = order_bounds g.row.P c.requires.order in
    (omega (arith, few), (c.requires.order, (c.requires.tree, (c.requires.cell, (c.requires.behind, omega (arith, c.new-work.ensures.translations))))))

pub set_translations-requires : goal.set_translations-requires
set_translations-requires g c = let few = order_bounds g.row.P c.requires.order in omega (arith, few)

pub returns : goal.returns
returns g c =
    let made = c.make_place.ensures in
    let kept = c.set_translations.ensures in
    record {
      place_is = record { row_is = λ cap is k h. ap (λ l. row_of l k) kept.row ∙ made.row.row_is cap is k h; radius_is = kept.radius ∙ made.row.radius_is };
      translations_are = omega (arith, kept.translations, c.translations.ensures, ap (λ (w : Counts). w.translations) made.work, c.new-work.ensures.translations);
    }

use Rattle.std.proofs.Common.{◌≡◌, sym, ap, ◌∙◌, subst}
use Rattle.particle_text.specs.Text.{Spells, text_of}
use Rattle.particle_text.proofs.Printing.{text_spelled}
use Rattle.particle_text.proofs.printer.print.Goals as goal

pub returns-in-Ok-clause-spells : goal.returns-in-Ok-clause-spells
returns-in-Ok-clause-spells c =
    let points = c.args.points.now in
    let text : c.into_bytes.result.items ≡ text_of points = ap (λ v. v.items) c.into_bytes.ensures.value ∙ c.in-Ok.ensures in
    subst (λ bytes. Spells bytes points) (sym text) (text_spelled points c.requires)

use Rattle.std.proofs.Common.{◌≡◌, ◌+◌, ap, ap₂, ◌∙◌, arith}
use Rattle.std.proofs.lemmas.Bool.{le-leb, leb-true}
use Rattle.std.proofs.lemmas.Int.{ints}
use Rattle.cell_name.specs.Cell.{square}
use Rattle.cell_name.specs.Square.{side}
use Rattle.certificate_nodes.specs.Presented.{accounting_of}
use Rattle.soundness.specs.Computed.{computed_local_radius, radius_above}
use Rattle.certificate_rows.specs.Given.{cell_at, radius_at}
use Rattle.certificate_rows.proofs.LocalRules.{entries_not_many, loss_total}
use Rattle.certificate_rows.proofs.radius.radius_holds.Goals as goal

pub entries_loss-lost-requires-clause-few : goal.entries_loss-lost-requires-clause-few
entries_loss-lost-requires-clause-few g c = entries_not_many c.args.given.now c.certificate-cert.ensures.over c.args.n c.entries.result.now c.entries.ensures.numbers

pub returns : goal.returns
returns g c =
    let P = g.row.P in
    let m = c.args.given.now in
    let A = accounting_of m in
    let n = c.args.n in
    let same = c.certificate-cert.ensures.certificate in
    let cell = square c.node_at.result.1 in
    let here = c.node_at.ensures.cell ∙ ap (λ d. cell_at d n) same in
    let long : c.unsigned_abs.result ≡ side cell = let v = c.side.ensures.value in let u = c.unsigned_abs.ensures.value in omega (arith, ints, v, u) in
    let above : c.radius_above.result ≡ radius_above P A n = c.radius_above.ensures.value ∙ ap (λ order. radius_above order A n) c.requires.order in
    let whole : c.radius_above.result + c.entries_loss-lost.result ≡ computed_local_radius P A n =
    ap₂ (λ a b. a + b) above c.entries_loss-lost.ensures.value ∙ loss_total m c.certificate-cert.ensures.over n c.entries.result.now c.entries.ensures.numbers P cell here c.unsigned_abs.result long in
    let given : c.radius_at.result ≡ A.radius n = c.radius_at.ensures.radius ∙ ap (λ d. radius_at d n) same in
    (λ t. let le = leb-true _ _ t in omega (arith, le, whole, given), λ le. le-leb _ _ (omega (arith, le, whole, given)))

-- The weight times the tail over the side, rounded up.
use Rattle.std.proofs.Common.{ℕ, ◌≡◌, ◌∙◌, ◌*◌, ◌^◌, ◌≤◌, ap, ap₂, sym, arith}
use Rattle.std.specs.Int.{div_ceil}
use Rattle.std.proofs.lemmas.Int.{ints}
use Rattle.std.proofs.Math.Nat.{mul-le-mul_left}
use Rattle.accounting_text.specs.Given.{given_cell}
use Rattle.cell_name.specs.Cell.{square}
use Rattle.cell_name.specs.Square.{side}
use Rattle.cert_text.specs.Certificate.{Certificate, nth_line}
use Rattle.certificate_nodes.specs.Presented.{accounting_of}
use Rattle.limits.proofs.Grids.{version_has_grid, within_widest}
use Rattle.limits.specs.Limits.{grid_of}
use Rattle.soundness.specs.Accounts.{Accounting}
use Rattle.soundness.specs.Computed.{weight_under}
use Rattle.truncation.proofs.Tails.{div_ceil-le, single_tail_le}
use Rattle.certificate_targets.proofs.Parts.{loss_of_other, loss_of_w}
use Rattle.certificate_targets.proofs.far.entry_loss.Goals as goal

small_product : (w t : ℕ) → w ≤ 2 ^ 36 → t ≤ 2 ^ 40 → w * t ≤ 2 ^ 84
small_product w t a b = let m = mul-le-mul_left w b in omega (arith, m, a)

pub overflow_mul-from : goal.overflow_mul-from
overflow_mul-from g c =
    let version = c.args.given.now.points.version in
    let light = (within_widest (grid_of version) (version_has_grid version)).weight in
    let m = small_product c.from.result c.args.tail (omega (arith, light, c.weight.ensures.light, c.from.ensures)) (omega (arith, single_tail_le g.row.P, c.requires.tail)) in
    omega (arith, m)

pub returns-in-W-clause-loss : goal.returns-in-W-clause-loss
returns-in-W-clause-loss g c =
    let A : Accounting = accounting_of c.args.given.now in
    let n = c.args.entry.c in
    let weight : c.from.result ≡ weight_under g.row.P A n = c.from.ensures ∙ c.weight.ensures.weight ∙ ap (λ Q. weight_under Q A n) (sym c.requires.order) in
    let here : c.from-in-W.result ≡ side (square c.cell_at.result) = omega (arith, ints, c.side.ensures.value, c.side.ensures.at_least, c.side.ensures.at_most, c.unsigned_abs-side.ensures.value, c.from-in-W.ensures) in
    let length : c.from-in-W.result ≡ side (A.cell n) = here ∙ ap side c.cell_at.ensures ∙ ap (λ (q : Certificate). side (given_cell q.head.version (nth_line q.nodes n))) c.cert.ensures.certificate in
    c.div_ceil.ensures ∙ ap₂ div_ceil (ap₂ (λ w t. w * t) weight c.requires.tail) length ∙ sym (loss_of_w A c.args.entry g.row.P c.in-W.is)

pub returns-in-W-clause-size : goal.returns-in-W-clause-size
returns-in-W-clause-size g c =
    let version = c.args.given.now.points.version in
    let light = (within_widest (grid_of version) (version_has_grid version)).weight in
    let m = small_product c.from.result c.args.tail (omega (arith, light, c.weight.ensures.light, c.from.ensures)) (omega (arith, single_tail_le g.row.P, c.requires.tail)) in
    let least : 1 ≤ c.from-in-W.result = omega (arith, ints, c.side.ensures.at_least, c.unsigned_abs-side.ensures.value, c.from-in-W.ensures) in
    let less = div_ceil-le (c.from.result * c.args.tail) c.from-in-W.result least in
    omega (arith, m, less, c.div_ceil.ensures)

pub returns-in-U : goal.returns-in-U
returns-in-U g c = record { loss = sym (loss_of_other (accounting_of c.args.given.now) c.args.entry g.row.P c.in-U.is); size = omega arith }

use Rattle.std.proofs.Common.{◌∙◌, ◌+◌, ap, subst, arith, to_z-of_z, SFits, w64}
use Rattle.std.specs.Int.{w128}
use Rattle.std.proofs.lemmas.Int.{ints}
use Rattle.cell_name.specs.Cell.{square}
use Rattle.field_basis.specs.Basis.{IsBasis}
use Rattle.target_values.proofs.Losses.{weight_small, loss_is}
use Rattle.target_values.proofs.Read.{cell_read, weight_read}
use Rattle.target_values.proofs.w_entries.add_loss.Goals as goal

pub add_single-requires-clause-room : goal.add_single-requires-clause-room
add_single-requires-clause-room g c =
    let b = c.args.basis.now in
    let is : IsBasis g.row.P b = subst (IsBasis g.row.P) c.basis.view_is c.basis.invariant in
    let read_weight = weight_read c.basis.view_is c.args.c (omega (arith, is.weight_each, c.requires.cell)) c.index.result.now c.index.ensures in
    let weight = weight_small g.row.P b is c.args.c c.requires.cell c.index.result.now read_weight in
    let w : SFits w128 c.index.result.now = omega (arith, ints, weight.least, weight.most) in
    let s : SFits w64 c.side.result = omega (arith, ints, c.side.ensures.at_least, c.side.ensures.at_most) in
    let read = cell_read c.basis.view_is c.args.c c.requires.cell c.cells.result.now c.index-cells-c.result c.cells.ensures.all c.index-cells-c.is in
    let l = loss_is g.row.P b is c.args.c c.requires.cell c.index.result.now read_weight c.side.result (square c.index-cells-c.result) c.side.ensures.value read in
    simp to_z-of_z (omega (arith, l, c.requires.room))

pub returns : goal.returns
returns g c =
    let b = c.args.basis.now in
    let is : IsBasis g.row.P b = subst (IsBasis g.row.P) c.basis.view_is c.basis.invariant in
    let read_weight = weight_read c.basis.view_is c.args.c (omega (arith, is.weight_each, c.requires.cell)) c.index.result.now c.index.ensures in
    let weight = weight_small g.row.P b is c.args.c c.requires.cell c.index.result.now read_weight in
    let w : SFits w128 c.index.result.now = omega (arith, ints, weight.least, weight.most) in
    let s : SFits w64 c.side.result = omega (arith, ints, c.side.ensures.at_least, c.side.ensures.at_most) in
    let read = cell_read c.basis.view_is c.args.c c.requires.cell c.cells.result.now c.index-cells-c.result c.cells.ensures.all c.index-cells-c.is in
    let e = simp to_z-of_z at c.add_single.ensures.added in
    e ∙ ap (λ n. c.args.ledger.now + n) (loss_is g.row.P b is c.args.c c.requires.cell c.index.result.now read_weight c.side.result (square c.index-cells-c.result) c.side.ensures.value read)

use Rattle.std.proofs.Common.{arith}
use Rattle.std.proofs.lemmas.Int.{ints}
use Rattle.truncation.proofs.Tails.{pair_tail_le, single_tail_le}
use Rattle.certificate_rows.proofs.radius.entry_loss.Goals as goal

pub loss-requires-clause-tail : goal.loss-requires-clause-tail
loss-requires-clause-tail c =
    let tail = c.pair_tail.ensures.value in
    let size = c.unsigned_abs.ensures.value in
    omega (arith, ints, pair_tail_le c.args.order, tail, size)

pub loss-requires-in-X-clause-tail : goal.loss-requires-in-X-clause-tail
loss-requires-in-X-clause-tail c =
    let tail = c.single_tail.ensures.value in
    let size = c.unsigned_abs-in-X.ensures.value in
    omega (arith, ints, single_tail_le c.args.order, tail, size)

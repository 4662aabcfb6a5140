use Rattle.std.proofs.Common.{[]}
use Rattle.number_text.proofs.Rows.{later_ints, kept}
use Rattle.number_text.proofs.list.read_two.Goals as goal

pub returns-in_err-read_int-clause-none : goal.returns-in_err-read_int-clause-none
returns-in_err-read_int-clause-none c =
    let first = c.in_ok-first.ensures.some in
    rw c.from_residual-in_err-read_int.ensures (λ x y ints. c.in_err-read_int.ensures.none y (later_ints _ _ _ x y [] first.2 ints))

pub returns-clause-some : goal.returns-clause-some
returns-clause-some c =
    let first = c.in_ok-first.ensures.some in
    let second = c.in_ok-read_int.ensures.some in
    (first.1, second.0, (first.0, c.in_ok-first.rest.now, first.2, first.3, second.1), kept _ first.1 first.4, kept _ second.0 second.2)

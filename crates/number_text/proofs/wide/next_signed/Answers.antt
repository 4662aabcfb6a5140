use Rattle.std.proofs.Common.{◌≡◌, subst, arith}
use Rattle.number_text.specs.Private.{BeginsWithUint}
use Rattle.number_text.proofs.WideDigits.{no_int-signed, no_int-zero, above_read, below_read}
use Rattle.number_text.proofs.wide.next_signed.Goals as goal

pub returns-in_default-clause-some : goal.returns-in_default-clause-some
returns-in_default-clause-some c =
    let some = c.in_ok-size.ensures.some in
    above_read c.args.text.now c.in_ok-size.rest.now some.0 c.in_ok-size.size some.1 some.2

pub returns-in_err-size-2-clause-none : goal.returns-in_err-size-2-clause-none
returns-in_err-size-2-clause-none c =
    rw c.from_residual-in_err-size-2.ensures (no_int-signed c.args.text.now c.in-Some.digits.now c.in-Some.ensures.some c.in_err-size-2.ensures.none)

pub returns-then-size-eq0-clause-none : goal.returns-then-size-eq0-clause-none
returns-then-size-eq0-clause-none c =
    let some = c.in_ok-size-2.ensures.some in
    let nought : some.0 ≡ 0 = omega (arith, some.2, c.if-size-eq0.true) in
    let uint = subst (λ n. BeginsWithUint c.in-Some.digits.now n c.in_ok-size-2.rest.now) nought some.1 in
    no_int-zero c.args.text.now c.in-Some.digits.now c.in_ok-size-2.rest.now c.in-Some.ensures.some uint

pub returns-clause-some : goal.returns-clause-some
returns-clause-some c =
    let some = c.in_ok-size-2.ensures.some in
    below_read c.args.text.now c.in-Some.digits.now c.in_ok-size-2.rest.now some.0 c.in_ok-size-2.size c.in-Some.ensures.some some.1 some.2 c.if-size-eq0.false

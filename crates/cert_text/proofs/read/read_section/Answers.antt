use Rattle.std.proofs.Common.{◌≡◌, ◌+◌, subst, arith, ◌∙◌}
use Rattle.cert_text.specs.Inside.{head_of}
use Rattle.cert_text.specs.Private.{lines_due}
use Rattle.cert_text.specs.Reading.{IsStarting, next}
use Rattle.cert_text.proofs.Ends.{start_next, small_line}
use Rattle.cert_text.proofs.read.read_section.Goals as goal

pub returns-clause-next : goal.returns-clause-next
returns-clause-next c =
    let h = head_of c.args.header in
    let all : c.loop-n.n ≡ lines_due h c.args.section = omega (arith, c.loop-n.auto.n-end, c.loop-n-test.false, c.lines-lines.ensures) in
    subst (λ n. IsStarting h (next c.args.section) (c.args.line + n) c.loop-n.stored) all
    (start_next h c.args.section (c.args.line + c.loop-n.n) c.loop-n.stored c.loop-n.invariant.reading (c.loop-n.invariant.lines ∙ all))

pub overflow_add-line : goal.overflow_add-line
overflow_add-line c = omega (arith, small_line (head_of c.args.header) c.args.section (c.args.line + c.loop-n.n) c.loop-n.stored c.loop-n.invariant.reading)

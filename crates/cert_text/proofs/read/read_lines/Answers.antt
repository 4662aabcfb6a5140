use Rattle.std.proofs.Common.{◌≡◌, subst, arith, rules}
use Rattle.cert_text.specs.Inside.{head_of}
use Rattle.cert_text.specs.Reading.{IsStarting}
use Rattle.cert_text.specs.declared.section.Section.TheVariants.{End}
use Rattle.cert_text.proofs.Ends.{small_line}
use Rattle.cert_text.proofs.read.read_lines.Goals as goal

pub overflow_add-line : goal.overflow_add-line
overflow_add-line c = omega (arith, small_line (head_of c.args.header) _ _ _ c.in_ok-rest.ensures.next.reading, c.lines-line.ensures)

pub read_end-requires : goal.read_end-requires
read_end-requires c = omega (arith, small_line (head_of c.args.header) _ _ _ c.loop-header.invariant.start.reading)

pub returns : goal.returns
returns c =
    let last : c.loop-header.section ≡ End = search rules in
    let start = subst (λ section. IsStarting (head_of c.args.header) section c.loop-header.line c.loop-header.stored) last c.loop-header.invariant.start in
    λ bytes are. c.read_end.ensures (head_of c.args.header) c.loop-header.stored bytes start (c.loop-header.invariant.read bytes are)

-- One entry less each time.
use Rattle.std.proofs.Common.{◌≡◌, ◌<◌, get_or, ap, arith, unsigned_abs}
use Rattle.accounting_text.specs.Given.{given_entry}
use Rattle.cert_text.specs.Certificate.{nth_line, nth_number}
use Rattle.node_sums.specs.Sums.{value_at}
use Rattle.certificate_tiling.proofs.Steps.{named-more, named-room, more-none, less-step}
use Rattle.certificate_tiling.proofs.walk.leave.Goals as goal

pub loop-e-init : goal.loop-e-init
loop-e-init c = more-none c.args.cert.now c.args.cover.now c.args.entries.now

pub take-requires : goal.take-requires
take-requires c =
    let l = c.loop-e in
    let node = c.entry.result.c in
    let named : (given_entry (nth_line c.args.cert.now.entries (get_or c.args.entries.now l.e-index 0))).c ≡ node = ap (λ zs. unsigned_abs (nth_number zs 1)) c.entry.ensures.numbers in
    omega (arith, named-room c.args.cert.now c.args.entries.now l.e-index node c.loop-e-test.true named, c.requires.enough node, l.invariant.each node)

pub loop-e-preserved : goal.loop-e-preserved
loop-e-preserved c =
    let l = c.loop-e in
    let node = c.entry.result.c in
    let named : (given_entry (nth_line c.args.cert.now.entries (get_or c.args.entries.now l.e-index 0))).c ≡ node = ap (λ zs. unsigned_abs (nth_number zs 1)) c.entry.ensures.numbers in
    let some : 0 < value_at l.cover.covers node = omega (arith, named-room c.args.cert.now c.args.entries.now l.e-index node c.loop-e-test.true named, c.requires.enough node, l.invariant.each node) in
    less-step c.args.cover.now l.cover c.take.new.self _ _ node l.invariant c.take.ensures some
    (λ k. named-more c.args.cert.now c.args.entries.now l.e-index node k c.loop-e-test.true named)

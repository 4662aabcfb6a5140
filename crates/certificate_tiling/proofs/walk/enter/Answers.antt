-- One entry more each time.
use Rattle.std.proofs.Common.{◌≡◌, ◌+◌, ◌<◌, length, get_or, sum, take, sym, ap, ◌∙◌, subst, arith, unsigned_abs}
use Rattle.accounting_text.specs.Given.{given_entry}
use Rattle.cert_text.specs.Certificate.{nth_line, nth_number}
use Rattle.certificate_tiling.specs.Walk.{times_named, CoversMore}
use Rattle.certificate_tiling.proofs.Steps.{named-more, more-none, more-step, sum-more}
use Rattle.certificate_tiling.proofs.walk.enter.Goals as goal

pub loop-e-init : goal.loop-e-init
loop-e-init c = record { more = more-none c.args.cert.now c.args.cover.now c.args.entries.now; total = omega arith }

pub loop-e-preserved : goal.loop-e-preserved
loop-e-preserved c =
    let l = c.loop-e in
    let node = c.entry.result.c in
    let named : (given_entry (nth_line c.args.cert.now.entries (get_or c.args.entries.now l.e-index 0))).c ≡ node = ap (λ zs. unsigned_abs (nth_number zs 1)) c.entry.ensures.numbers in
    let listed : node < length l.cover.covers = omega (arith, c.entry.ensures.c, c.requires.covers, l.invariant.more.len) in
    record {
      more = subst (λ m. CoversMore c.args.cover.now m (times_named c.args.cert.now (take (l.e-index + 1) c.args.entries.now))) (sym c.add.ensures)
          (more-step c.args.cover.now l.cover _ _ node l.invariant.more listed (λ k. named-more c.args.cert.now c.args.entries.now l.e-index node k c.loop-e-test.true named));
      total = ap (λ m. sum m.covers) c.add.ensures ∙ sum-more l.cover node listed ∙ omega (arith, l.invariant.total);
    }

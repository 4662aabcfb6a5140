-- One entry more.
use Rattle.std.proofs.Common.{◌≡◌, ap, sym, subst, arith, length}
use Rattle.std.specs.Prelude.{All}
use Rattle.cert_text.specs.Certificate.{Certificate}
use Rattle.certificate_nodes.specs.AtNodes.{entry_numbers_at}
use Rattle.certificate_targets.proofs.Entries.{IsNumberAt, few_numbers, numbers_are}
use Rattle.certificate_targets.proofs.far.far_loss.Goals as goal

pub entry_at-entry-requires : goal.entry_at-entry-requires
entry_at-entry-requires g c =
    let d = c.args.given.now.certificate in
    let same : c.entries-e-items.result.now ≡ entry_numbers_at d c.args.n = c.entries-e-items.ensures.numbers in
    let here = subst (All (IsNumberAt d c.args.n)) (sym same) (numbers_are d c.args.n) c.loop-e.e-index 0 c.loop-e-test.true in
    let heads = ap (λ (q : Certificate). q.head.entries) c.cert-cert.ensures.certificate in
    omega (arith, here.below, c.requires.presented.certificate.entries_are, heads)

pub overflow_add-lost : goal.overflow_add-lost
overflow_add-lost g c =
    let few = few_numbers c.args.given.now.certificate c.requires.presented.certificate c.args.n in
    let long = ap length c.entries-e-items.ensures.numbers in
    omega (arith, few, long, c.loop-e-test.true, c.loop-e.invariant.size, c.entry_loss-lost.ensures.size)

pub returns-clause-size : goal.returns-clause-size
returns-clause-size g c =
    let few = few_numbers c.args.given.now.certificate c.requires.presented.certificate c.args.n in
    let long = ap length c.entries-e-items.ensures.numbers in
    omega (arith, few, long, c.loop-e.auto.e-index-end, c.loop-e.invariant.size)

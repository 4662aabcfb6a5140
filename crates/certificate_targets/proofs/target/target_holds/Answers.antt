-- The box of the line and its counts are those of the accounting.
use Rattle.std.proofs.Common.{◌∙◌, ap, drop, sym, subst}
use Rattle.std.proofs.lemmas.Bool.{false≢true}
use Rattle.cert_text.specs.Certificate.{Certificate, IsCertificate, nth_box, nth_line}
use Rattle.points.specs.Limits.{WithinLimits}
use Rattle.certificate_targets.specs.Parts.{IsPresented}
use Rattle.certificate_targets.proofs.Scaled.{printed_box, printed_counts}
use Rattle.certificate_targets.proofs.Targets.{inside_rule, same_rule}
use Rattle.certificate_targets.proofs.target.target_holds.Goals as goal

pub enclose-requires-clause-value : goal.enclose-requires-clause-value
enclose-requires-clause-value g c = printed_box c.cert-cert.result.now.head.version _ c.target-value.ensures.size

pub enclose-requires-clause-counts : goal.enclose-requires-clause-counts
enclose-requires-clause-counts g c = printed_counts c.cert-cert.result.now.head.version _ c.counts.ensures.size

pub returns-then-inside : goal.returns-then-inside
returns-then-inside g c =
    let cert_is = c.cert-cert.ensures.certificate in
    let p : IsPresented c.args.given.now = record { certificate = subst IsCertificate cert_is c.version.ensures.certificate; within = subst WithinLimits c.points.ensures.points c.points.ensures.within; head = c.cert-cert.ensures.head } in
    let value = c.target-value.ensures.ends ∙ ap (λ (q : Certificate). nth_box (nth_line q.targets c.args.k).numbers 0) cert_is in
    let counts = c.counts.ensures.numbers ∙ ap (λ (q : Certificate). drop 4 (nth_line q.targets c.args.k).numbers) cert_is in
    let rule = same_rule c.args.given.now p c.args.k c.requires.target g.row.P c.requires.order _ _ c.computed_box.ensures value c.counts.result counts in
    (λ t. rule.0 (c.inside.ensures.exactly.0 c.if-inside.true) (c.enclose.ensures.0 t), λ h. c.enclose.ensures.1 (rule.1 h).1)

pub returns-else-inside : goal.returns-else-inside
returns-else-inside g c =
    let cert_is = c.cert-cert.ensures.certificate in
    let p : IsPresented c.args.given.now = record { certificate = subst IsCertificate cert_is c.version.ensures.certificate; within = subst WithinLimits c.points.ensures.points c.points.ensures.within; head = c.cert-cert.ensures.head } in
    let value = c.target-value.ensures.ends ∙ ap (λ (q : Certificate). nth_box (nth_line q.targets c.args.k).numbers 0) cert_is in
    let rule = inside_rule c.args.given.now p c.args.k c.requires.target g.row.P c.requires.order _ _ c.computed_box.ensures value in
    (λ t. absurd (false≢true (sym c.if-inside.false ∙ t)), λ h. c.inside.ensures.exactly.1 (rule.1 h.box))

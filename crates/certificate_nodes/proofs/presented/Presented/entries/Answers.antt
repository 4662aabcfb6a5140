use Rattle.std.proofs.Common.{◌≡◌, ◌<◌, sym, ◌∙◌, subst}
use Rattle.std.specs.Prelude.{All}
use Rattle.certificate_nodes.proofs.Seen as kept
use Rattle.certificate_nodes.specs.AtNodes.{entry_numbers_at}
use Rattle.certificate_nodes.specs.Presented.{PresentedModel}
use Rattle.certificate_nodes.proofs.presented.Presented.entries.Goals as goal

pub group-requires : goal.group-requires
group-requires c =
    let lt = subst (λ (s : PresentedModel). c.args.n < s.certificate.head.cells) (sym c.self.view_is) c.requires in
    kept.has_entries c.self.inside c.self.invariant c.args.n lt

pub returns-clause-numbers : goal.returns-clause-numbers
returns-clause-numbers c =
    let lt = subst (λ (s : PresentedModel). c.args.n < s.certificate.head.cells) (sym c.self.view_is) c.requires in
    subst (λ (s : PresentedModel). c.group.result.now ≡ entry_numbers_at s.certificate c.args.n) c.self.view_is (c.group.ensures ∙ kept.entries_are c.self.inside c.self.invariant c.args.n lt)

pub returns-clause-range : goal.returns-clause-range
returns-clause-range c =
    subst (λ (s : PresentedModel). All (λ e. e < s.certificate.head.entries) c.group.result.now) c.self.view_is
    (subst (All (λ e. e < c.self.inside.cert.now.head.entries)) (sym c.group.ensures) (kept.entries_below c.self.inside c.self.invariant c.args.n))

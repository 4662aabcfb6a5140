use Rattle.std.proofs.Common.{◌≡◌, ◌<◌, sym, ◌∙◌, subst}
use Rattle.soundness.specs.Accounts.{children}
use Rattle.certificate_nodes.proofs.Seen as kept
use Rattle.certificate_nodes.specs.Presented.{PresentedModel, accounting_of}
use Rattle.certificate_nodes.proofs.presented.Presented.children.Goals as goal

pub group-requires : goal.group-requires
group-requires c =
    let lt = subst (λ (s : PresentedModel). c.args.n < s.certificate.head.cells) (sym c.self.view_is) c.requires in
    kept.has_children c.self.inside c.self.invariant c.args.n lt

pub returns : goal.returns
returns c =
    let lt = subst (λ (s : PresentedModel). c.args.n < s.certificate.head.cells) (sym c.self.view_is) c.requires in
    subst (λ (s : PresentedModel). c.group.result.now ≡ children (accounting_of s) c.args.n) c.self.view_is (c.group.ensures ∙ kept.children_are c.self.inside c.self.invariant c.args.n lt)

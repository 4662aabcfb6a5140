use Rattle.std.proofs.Common.{◌<◌, sym, subst, arith}
use Rattle.std.proofs.lemmas.List.{get_or_read}
use Rattle.certificate_nodes.proofs.Seen as kept
use Rattle.certificate_nodes.specs.Presented.{IsTargetAt, PresentedModel}
use Rattle.certificate_nodes.proofs.presented.Presented.position.Goals as goal

pub index-requires : goal.index-requires
index-requires c =
    let lt = subst (λ (s : PresentedModel). c.args.k < s.certificate.head.targets) (sym c.self.view_is) c.requires in
    let has = kept.has_positions c.self.inside c.self.invariant c.args.k lt in
    omega (arith, has, c.self.inside.at_nodes.positions.ok.0)

pub returns : goal.returns
returns c =
    let lt = subst (λ (s : PresentedModel). c.args.k < s.certificate.head.targets) (sym c.self.view_is) c.requires in
    let has = kept.has_positions c.self.inside c.self.invariant c.args.k lt in
    subst (λ (s : PresentedModel). IsTargetAt s c.args.k c.index.result.now) c.self.view_is
    (kept.stands c.self.inside c.self.invariant c.args.k c.index.result.now lt (get_or_read c.self.inside.at_nodes.positions.items _ _ has c.index.ensures 0))

use Rattle.std.proofs.Common.{◌≡◌, ◌<◌, map, sym, ap, ◌∙◌, subst}
use Rattle.std.specs.Prelude.{All}
use Rattle.limits.specs.Limits.{grid_of}
use Rattle.points.specs.Limits.{InRange}
use Rattle.points.specs.Points.{place}
use Rattle.certificate_nodes.proofs.Seen as kept
use Rattle.certificate_nodes.specs.AtNodes.{places_at}
use Rattle.certificate_nodes.specs.Presented.{PresentedModel, accounting_of}
use Rattle.certificate_nodes.proofs.presented.Presented.targets.Goals as goal

pub row-requires : goal.row-requires
row-requires c =
    let lt = subst (λ (s : PresentedModel). c.args.n < s.certificate.head.cells) (sym c.self.view_is) c.requires in
    kept.has_targets c.self.inside c.self.invariant c.args.n lt

pub returns-clause-places : goal.returns-clause-places
returns-clause-places c =
    let lt = subst (λ (s : PresentedModel). c.args.n < s.certificate.head.cells) (sym c.self.view_is) c.requires in
    subst (λ (s : PresentedModel). map place c.row.result.now ≡ places_at (accounting_of s) c.args.n) c.self.view_is (ap (map place) c.row.ensures ∙ kept.targets_are c.self.inside c.self.invariant c.args.n lt)

pub returns-clause-range : goal.returns-clause-range
returns-clause-range c =
    let lt = subst (λ (s : PresentedModel). c.args.n < s.certificate.head.cells) (sym c.self.view_is) c.requires in
    subst (λ (s : PresentedModel). All (InRange (grid_of s.points.version)) c.row.result.now) c.self.view_is
    (subst (All (InRange (grid_of c.self.inside.points.now.version))) (sym c.row.ensures) (kept.targets_in_range c.self.inside c.self.invariant c.args.n lt))

use Rattle.std.proofs.Common.{◌≡◌, ◌<◌, sym, ◌∙◌, subst}
use Rattle.std.specs.Prelude.{All}
use Rattle.limits.specs.Limits.{grid_of}
use Rattle.points.specs.Limits.{InRange}
use Rattle.certificate_nodes.proofs.Seen as kept
use Rattle.certificate_nodes.specs.AtNodes.{sources_at}
use Rattle.certificate_nodes.specs.Presented.{PresentedModel, accounting_of}
use Rattle.certificate_nodes.proofs.presented.Presented.sources.Goals as goal

pub row-requires : goal.row-requires
row-requires c =
    let lt = subst (λ (s : PresentedModel). c.args.n < s.certificate.head.cells) (sym c.self.view_is) c.requires in
    kept.has_sources c.self.inside c.self.invariant c.args.n lt

pub returns-clause-sources : goal.returns-clause-sources
returns-clause-sources c =
    let lt = subst (λ (s : PresentedModel). c.args.n < s.certificate.head.cells) (sym c.self.view_is) c.requires in
    subst (λ (s : PresentedModel). c.row.result.now ≡ sources_at (accounting_of s) c.args.n) c.self.view_is (c.row.ensures ∙ kept.sources_are c.self.inside c.self.invariant c.args.n lt)

pub returns-clause-range : goal.returns-clause-range
returns-clause-range c =
    let lt = subst (λ (s : PresentedModel). c.args.n < s.certificate.head.cells) (sym c.self.view_is) c.requires in
    subst (λ (s : PresentedModel). All (InRange (grid_of s.points.version)) c.row.result.now) c.self.view_is
    (subst (All (InRange (grid_of c.self.inside.points.now.version))) (sym c.row.ensures) (kept.sources_in_range c.self.inside c.self.invariant c.args.n lt))

use Rattle.std.proofs.Common.{ℕ, ◌≡◌, ◌<◌, ◌≤◌, sym, subst, arith}
use Rattle.limits.specs.Limits.{grid_of, most_weight}
use Rattle.soundness.specs.Computed.{weight_under}
use Rattle.certificate_nodes.proofs.Seen.{all_nodes, at_node}
use Rattle.certificate_nodes.proofs.UnderNodes.{light_under}
use Rattle.certificate_nodes.specs.Presented.{PresentedModel, accounting_of}
use Rattle.certificate_nodes.specs.Inside.{presented_seen}
use Rattle.certificate_nodes.proofs.presented.Presented.weight.Goals as goal

abbrev value : PresentedModel → ℕ → ℕ
value s n = weight_under s.certificate.head.order (accounting_of s) n

pub index-requires : goal.index-requires
index-requires c =
    let g = c.self.inside in
    let lt = subst (λ (s : PresentedModel). c.args.n < s.certificate.head.cells) (sym c.self.view_is) c.requires in
    let has = all_nodes (value (presented_seen g)) g.under_nodes.weights.items g.cert.now.head.cells c.args.n c.self.invariant.under_nodes.weights_are lt in
    omega (arith, has, g.under_nodes.weights.ok.0)

pub returns-clause-weight : goal.returns-clause-weight
returns-clause-weight c =
    let g = c.self.inside in
    let lt = subst (λ (s : PresentedModel). c.args.n < s.certificate.head.cells) (sym c.self.view_is) c.requires in
    let kept = at_node (value (presented_seen g)) g.under_nodes.weights.items g.cert.now.head.cells c.args.n c.index.result.now c.self.invariant.under_nodes.weights_are lt c.index.ensures in
    subst (λ (s : PresentedModel). c.index.result.now ≡ value s c.args.n) c.self.view_is kept

pub returns-clause-light : goal.returns-clause-light
returns-clause-light c =
    let g = c.self.inside in
    let h = c.self.invariant in
    let bound = subst (λ (s : PresentedModel). value s c.args.n ≤ most_weight (grid_of s.points.version)) c.self.view_is (light_under g.points.now g.cert.now h.certificate h.head h.within c.args.n) in
    omega (arith, bound, returns-clause-weight c)

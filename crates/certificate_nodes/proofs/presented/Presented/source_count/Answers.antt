use Rattle.std.proofs.Common.{ℕ, ◌≡◌, ◌<◌, ◌≤◌, length, sym, subst, arith}
use Rattle.limits.specs.Limits.{grid_of, most_points}
use Rattle.soundness.specs.Accounts.{sources_under}
use Rattle.certificate_nodes.proofs.Seen.{all_nodes, at_node}
use Rattle.certificate_nodes.proofs.UnderNodes.{few_under}
use Rattle.certificate_nodes.specs.Presented.{PresentedModel, accounting_of}
use Rattle.certificate_nodes.specs.Inside.{presented_seen}
use Rattle.certificate_nodes.proofs.presented.Presented.source_count.Goals as goal

abbrev value : PresentedModel → ℕ → ℕ
value s n = length (sources_under (accounting_of s) n)

pub index-requires : goal.index-requires
index-requires c =
    let g = c.self.inside in
    let lt = subst (λ (s : PresentedModel). c.args.n < s.certificate.head.cells) (sym c.self.view_is) c.requires in
    let has = all_nodes (value (presented_seen g)) g.under_nodes.source_counts.items g.cert.now.head.cells c.args.n c.self.invariant.under_nodes.source_counts_are lt in
    omega (arith, has, g.under_nodes.source_counts.ok.0)

pub returns-clause-count : goal.returns-clause-count
returns-clause-count c =
    let g = c.self.inside in
    let lt = subst (λ (s : PresentedModel). c.args.n < s.certificate.head.cells) (sym c.self.view_is) c.requires in
    let kept = at_node (value (presented_seen g)) g.under_nodes.source_counts.items g.cert.now.head.cells c.args.n c.index.result.now c.self.invariant.under_nodes.source_counts_are lt c.index.ensures in
    subst (λ (s : PresentedModel). c.index.result.now ≡ value s c.args.n) c.self.view_is kept

pub returns-clause-few : goal.returns-clause-few
returns-clause-few c =
    let g = c.self.inside in
    let h = c.self.invariant in
    let bound = subst (λ (s : PresentedModel). value s c.args.n ≤ most_points (grid_of s.points.version)) c.self.view_is (few_under g.points.now g.cert.now h.certificate h.head h.within c.args.n) in
    omega (arith, bound, returns-clause-count c)

use Rattle.std.proofs.Common.{ℕ, ◌≡◌, ◌<◌, length, nat_lt, sym, ap, ◌∙◌, subst, arith}
use Rattle.certificate_nodes.proofs.Seen.{all_nodes, at_node, target_is}
use Rattle.certificate_nodes.specs.Gathered.{targets_under}
use Rattle.certificate_nodes.specs.Inside.{presented_seen}
use Rattle.certificate_nodes.specs.Presented.{PresentedModel, accounting_of}
use Rattle.soundness.specs.Accounts.{has_target_under}
use Rattle.certificate_nodes.proofs.presented.Presented.has_target.Goals as goal

abbrev value : PresentedModel → ℕ → ℕ
value s n = length (targets_under (accounting_of s) n)

pub index-requires : goal.index-requires
index-requires c =
    let g = c.self.inside in
    let lt = subst (λ (s : PresentedModel). c.args.n < s.certificate.head.cells) (sym c.self.view_is) c.requires in
    let has = all_nodes (value (presented_seen g)) g.under_nodes.target_counts.items g.cert.now.head.cells c.args.n c.self.invariant.under_nodes.target_counts_are lt in
    omega (arith, has, g.under_nodes.target_counts.ok.0)

pub returns : goal.returns
returns c =
    let g = c.self.inside in
    let lt = subst (λ (s : PresentedModel). c.args.n < s.certificate.head.cells) (sym c.self.view_is) c.requires in
    let count = at_node (value (presented_seen g)) g.under_nodes.target_counts.items g.cert.now.head.cells c.args.n c.index.result.now c.self.invariant.under_nodes.target_counts_are lt c.index.ensures in
    subst (λ (s : PresentedModel). nat_lt 0 c.index.result.now ≡ has_target_under (accounting_of s) c.args.n) c.self.view_is (ap (nat_lt 0) count ∙ target_is (accounting_of (presented_seen g)) c.args.n)

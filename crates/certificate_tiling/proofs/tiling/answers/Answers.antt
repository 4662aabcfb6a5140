-- The covers at a node tell whether it is tiled.
use Rattle.std.proofs.Common.{ℕ, ◌≡◌, ◌<◌, true, length, get_or, ◌∙◌, subst, arith}
use Rattle.std.specs.Prelude.{◌↔◌, All, List}
use Rattle.std.proofs.Math.ListN.{length-set}
use Rattle.std.proofs.lemmas.List.{get_or-map, length-map}
use Rattle.std.proofs.lemmas.List.Elements.{All-from_get_or}
use Rattle.certificate_nodes.specs.Presented.{accounting_of, node_count}
use Rattle.certificate_rules.proofs.Ranges.{root_parent, parent_less}
use Rattle.soundness.specs.Rules.{IsTiled}
use Rattle.certificate_tiling.specs.declared.order.Visit.{Visit}
use Rattle.certificate_tiling.specs.Order.{nodes_of}
use Rattle.certificate_tiling.specs.Walk.{Tells}
use Rattle.certificate_tiling.proofs.Answered.{told-more}
use Rattle.certificate_tiling.proofs.Given.{fit, inside, stand}
use Rattle.certificate_tiling.proofs.Reach.{once_is_tiled}
use Rattle.certificate_tiling.proofs.tiling.answers.Goals as goal

abbrev no_visit : Visit
no_visit = record { place = 0; node = 0 }

visited : (order : List Visit) (i : ℕ) → i < length order → get_or (nodes_of order) i 0 ≡ (get_or order i no_visit).node
visited order i lt = get_or-map (λ (v : Visit). v.node) order i no_visit 0 lt

visited_inside : (order : List Visit) (i most : ℕ) → i < length order → All (λ n. n < most) (nodes_of order) → (get_or order i no_visit).node < most
visited_inside order i most lt all = subst (λ n. n < most) (visited order i lt) (all i 0 (omega (arith, length-map order (λ (v : Visit). v.node))))

pub go_to-requires-clause-to : goal.go_to-requires-clause-to
go_to-requires-clause-to c = visited_inside c.args.order.now c.loop-visit.visit-index (node_count c.args.given.now) c.loop-visit-test.true c.requires.nodes

pub index_mut-requires : goal.index_mut-requires
index_mut-requires c =
    let lt = visited_inside c.args.order.now c.loop-visit.visit-index (node_count c.args.given.now) c.loop-visit-test.true c.requires.nodes in
    omega (arith, lt, c.loop-visit.invariant.len)

pub loop-visit-preserved : goal.loop-visit-preserved
loop-visit-preserved c =
    let g = c.args.given.now in
    let A = accounting_of g in
    let order = c.args.order.now in
    let i = c.loop-visit.visit-index in
    let n = (get_or order i no_visit).node in
    let is = c.node_count.ensures.certificate in
    let lt : n < node_count g = visited_inside order i (node_count g) c.loop-visit-test.true c.requires.nodes in
    let once = once_is_tiled A (root_parent g.certificate is) (parent_less g.certificate is) (fit g.points g.certificate is c.requires.entries) (inside g.points g.certificate is)
    (stand g.points g.certificate is (is.ats_are ∙ c.node_count.ensures.head.point_count)) c.go_to.new.cover n lt c.go_to.ensures in
    let tells : c.is_once.result ≡ true ↔ IsTiled A n = (λ e. once.0 (c.is_once.ensures.0 e), λ t. c.is_once.ensures.1 (once.1 t)) in
    record {
      at = c.go_to.ensures;
      at_inside = lt;
      len = length-set c.loop-visit.tiled.items n c.is_once.result ∙ c.loop-visit.invariant.len;
      told = told-more A c.loop-visit.tiled.items (nodes_of order) i n c.is_once.result (omega (arith, lt, c.loop-visit.invariant.len)) (visited order i c.loop-visit-test.true) tells c.loop-visit.invariant.told;
    }

pub returns-clause-visited : goal.returns-clause-visited
returns-clause-visited c =
    let order = c.args.order.now in
    All-from_get_or (Tells (accounting_of c.args.given.now) c.loop-visit.tiled.items) (nodes_of order) 0
    (λ k lt. c.loop-visit.invariant.told k (omega (arith, lt, length-map order (λ (v : Visit). v.node), c.loop-visit-test.false)))

-- The entries on node 0.
use Rattle.std.proofs.Common.{ℕ, ◌≡◌, ◌<◌, length, sum, sym, ap, ap₂, ◌∙◌, subst, arith}
use Rattle.std.specs.Prelude.{All}
use Rattle.std.proofs.Math.ListN.{length-replicate}
use Rattle.std.proofs.lemmas.List.Elements.{All-map}
use Rattle.std.proofs.lemmas.List.FromFn.{length-map-range_with_len}
use Rattle.certificate_nodes.specs.Presented.{accounting_of}
use Rattle.certificate_rules.proofs.Ranges.{root_parent, parent_less}
use Rattle.node_sums.specs.Sums.{AreParents}
use Rattle.path_cover.specs.Covers.{CoverModel, no_covers}
use Rattle.certificate_tiling.specs.Walk.{parents_of, leaves_of, CoversMore}
use Rattle.certificate_tiling.proofs.Answered.{at-root, none-sum}
use Rattle.certificate_tiling.proofs.Given.{read_named, read_few, few_sources, stand}
use Rattle.certificate_tiling.proofs.Over.{times_on}
use Rattle.certificate_tiling.proofs.Reach.{are_parents}
use Rattle.certificate_tiling.proofs.Steps.{more-same}
use Rattle.certificate_tiling.proofs.tiling.at_root.Goals as goal

leaves_are : (c : goal.After-deref) → c.deref.result.now ≡ leaves_of (accounting_of c.args.given.now)
leaves_are c = c.deref.ensures.value ∙ c.in_ok-leaves.ensures

count_is : (c : goal.After-deref) → length c.args.parents.now ≡ (accounting_of c.args.given.now).nodes
count_is c = let A = accounting_of c.args.given.now in ap length c.requires.parents ∙ length-map-range_with_len A.parent 0 A.nodes

pub none-requires-clause-parents : goal.none-requires-clause-parents
none-requires-clause-parents c =
    let g = c.args.given.now in
    let is = c.cert-cert.ensures.lines in
    subst AreParents (sym c.requires.parents) (are_parents (accounting_of g) (root_parent g.certificate is) (parent_less g.certificate is))

pub none-requires-clause-leaves : goal.none-requires-clause-leaves
none-requires-clause-leaves c =
    let g = c.args.given.now in
    let A = accounting_of g in
    let is = c.cert-cert.ensures.lines in
    subst (λ n. All (λ l. l < n) c.deref.result.now) (sym (count_is c)) (subst (All (λ l. l < A.nodes)) (sym (leaves_are c))
    (All-map (λ l. l < A.nodes) (λ x. x.leaf) A.sources (stand g.points g.certificate is (is.ats_are ∙ c.cert-cert.ensures.head.point_count))))

pub none-requires-clause-few : goal.none-requires-clause-few
none-requires-clause-few c = omega (arith, ap length (leaves_are c), few_sources c.args.given.now c.cert-cert.ensures.lines c.cert-cert.ensures.head)

-- ---- the entries
cover_is : (c : goal.After-entries) → c.in_ok-cover.cover ≡ no_covers (parents_of (accounting_of c.args.given.now)) (leaves_of (accounting_of c.args.given.now))
cover_is c = c.in_ok-cover.ensures ∙ ap₂ no_covers c.requires.parents (c.deref.ensures.value ∙ c.in_ok-leaves.ensures)

nodes_are : (c : goal.After-entries) → length (parents_of (accounting_of c.args.given.now)) ≡ c.cert-cert.result.now.head.cells
nodes_are c = let A = accounting_of c.args.given.now in length-map-range_with_len A.parent 0 A.nodes ∙ ap (λ x. x.head.cells) (sym c.cert-cert.ensures.certificate)

pub enter-requires-clause-numbers : goal.enter-requires-clause-numbers
enter-requires-clause-numbers c = subst (λ x. All (λ e. e < x.head.entries) c.entries.result.now) (sym c.cert-cert.ensures.certificate) c.entries.ensures.range

pub enter-requires-clause-nodes : goal.enter-requires-clause-nodes
enter-requires-clause-nodes c = ap (λ m. length m.parents) (cover_is c) ∙ nodes_are c

pub enter-requires-clause-covers : goal.enter-requires-clause-covers
enter-requires-clause-covers c = ap (λ m. length m.covers) (cover_is c) ∙ length-replicate {A = ℕ} (length (parents_of (accounting_of c.args.given.now))) 0 ∙ nodes_are c

pub enter-requires-clause-room : goal.enter-requires-clause-room
enter-requires-clause-room c = omega (
  arith,
  ap (λ m. sum m.covers) (cover_is c),
  none-sum (accounting_of c.args.given.now) (length (parents_of (accounting_of c.args.given.now))),
  read_few c.args.given.now c.cert-cert.ensures.lines c.cert-cert.result.now c.entries.result.now 0 c.cert-cert.ensures.certificate c.entries.ensures.numbers,
)

pub returns : goal.returns
returns c =
    let g = c.args.given.now in
    let A = accounting_of g in
    let is = c.cert-cert.ensures.lines in
    let m : CoverModel = c.in_ok-cover.cover in
    let start : m ≡ no_covers (parents_of A) (leaves_of A) = c.in_ok-cover.ensures ∙ ap₂ no_covers c.requires.parents (c.deref.ensures.value ∙ c.in_ok-leaves.ensures) in
    at-root A (root_parent g.certificate is) (parent_less g.certificate is) c.enter.new.cover
    (subst (λ n. CoversMore n c.enter.new.cover (times_on A 0)) start
    (more-same m c.enter.new.cover _ _ c.enter.ensures (read_named g is c.cert-cert.result.now c.entries.result.now 0 c.cert-cert.ensures.certificate c.entries.ensures.numbers)))

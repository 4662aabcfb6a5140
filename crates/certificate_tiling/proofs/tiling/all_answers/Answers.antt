-- Each node is visited.
use Rattle.std.proofs.Common.{ℕ, ◌≡◌, ◌<◌, List, length, sym, ap, ◌∙◌, subst, arith}
use Rattle.std.specs.Prelude.{All, IsPermutation}
use Rattle.std.specs.List.{range_with_len}
use Rattle.std.proofs.lemmas.List.Elements.{All-contains}
use Rattle.std.proofs.lemmas.List.FromFn.{length-map-range_with_len}
use Rattle.std.proofs.lemmas.List.Sorted.{All-permutation, Contains-permutation}
use Rattle.std.proofs.lemmas.Result.{IfOk-weaker}
use Rattle.exact_math.proofs.Lists.{Contains-range}
use Rattle.cert_text.specs.Certificate.{IsCertificate}
use Rattle.certificate_nodes.specs.Presented.{PresentedModel, accounting_of, node_count}
use Rattle.certificate_nodes.proofs.Ranges.{range_each}
use Rattle.certificate_rules.proofs.Ranges.{root_parent, parent_less}
use Rattle.node_sums.specs.Sums.{AreParents}
use Rattle.soundness.specs.Accounts.{Accounting}
use Rattle.certificate_tiling.specs.declared.order.Visit.{Visit}
use Rattle.certificate_tiling.specs.Order.{nodes_of}
use Rattle.certificate_tiling.specs.Walk.{parents_of, Tells}
use Rattle.certificate_tiling.proofs.Reach.{are_parents}
use Rattle.certificate_tiling.proofs.tiling.all_answers.Goals as goal

module _ (g : PresentedModel) (is : IsCertificate g.certificate) where
  abbrev A : Accounting
  A = accounting_of g

  -- the parents, as they are read, and the order
  count_is : (parents : List ℕ) → parents ≡ parents_of A → length parents ≡ node_count g
  count_is parents e = ap length e ∙ length-map-range_with_len A.parent 0 A.nodes

  read_parents : (parents : List ℕ) → parents ≡ parents_of A → AreParents parents
  read_parents parents e = subst AreParents (sym e) (are_parents A (root_parent g.certificate is) (parent_less g.certificate is))

  read_order : (parents : List ℕ) (order read : List Visit) → parents ≡ parents_of A → IsPermutation (range_with_len 0 (length parents)) (nodes_of order) → read ≡ order → IsPermutation (range_with_len 0 (node_count g)) (nodes_of read)
  read_order parents order read e moved same =
      subst (λ v. IsPermutation (range_with_len 0 (node_count g)) (nodes_of v)) (sym same) (subst (λ n. IsPermutation (range_with_len 0 n) (nodes_of order)) (count_is parents e) moved)

pub visits-requires-clause-parents : goal.visits-requires-clause-parents
visits-requires-clause-parents c = read_parents c.args.given.now c.node_count.ensures.certificate c.deref.result.now (c.deref.ensures.value ∙ c.in_ok-parents.ensures)

pub visits-requires-clause-few : goal.visits-requires-clause-few
visits-requires-clause-few c = omega (arith, count_is c.args.given.now c.node_count.ensures.certificate c.deref.result.now (c.deref.ensures.value ∙ c.in_ok-parents.ensures), c.node_count.ensures.few)

pub answers-requires-clause-nodes : goal.answers-requires-clause-nodes
answers-requires-clause-nodes c =
    let g = c.args.given.now in
    let order = read_order g c.node_count.ensures.certificate c.deref.result.now c.in_ok-order.order.items c.deref-3.result.now (c.deref.ensures.value ∙ c.in_ok-parents.ensures) c.in_ok-order.ensures c.deref-3.ensures.value in
    All-permutation (λ n. n < node_count g) (range_with_len 0 (node_count g)) (nodes_of c.deref-3.result.now) order (range_each (λ n. n < node_count g) (node_count g) (λ k lt. lt))

pub returns-clause-tells : goal.returns-clause-tells
returns-clause-tells c =
    let g = c.args.given.now in
    let order = read_order g c.node_count.ensures.certificate c.deref.result.now c.in_ok-order.order.items c.deref-3.result.now (c.deref.ensures.value ∙ c.in_ok-parents.ensures) c.in_ok-order.ensures c.deref-3.ensures.value in
    IfOk-weaker c.answers.result (λ tiled. All (Tells (accounting_of g) tiled.items) (nodes_of c.deref-3.result.now)) (λ tiled. (n : ℕ) → n < node_count g → Tells (accounting_of g) tiled.items n)
    (λ tiled told n lt. All-contains (Tells (accounting_of g) tiled.items) (nodes_of c.deref-3.result.now) n told (Contains-permutation (range_with_len 0 (node_count g)) (nodes_of c.deref-3.result.now) n order (Contains-range (node_count g) n lt)))
    c.answers.ensures.visited

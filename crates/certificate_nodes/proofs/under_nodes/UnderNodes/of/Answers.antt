-- The sums are those of the accounting that the certificate gives.
use Rattle.std.proofs.Common.{true, sym, ap, ap₂, ◌∙◌, subst}
use Rattle.exact_math.proofs.Orders.{order_bounds}
use Rattle.certificate_nodes.proofs.UnderNodes as sums
use Rattle.certificate_nodes.specs.Keys.{parents_of}
use Rattle.certificate_nodes.specs.UnderNodes.{AddUp, AreLightRows, own_counts, own_weights, sums_under}
use Rattle.certificate_nodes.proofs.under_nodes.UnderNodes.of.Goals as goal

pub counts_under-requires-clause-sums : goal.counts_under-requires-clause-sums
counts_under-requires-clause-sums c =
    let p = c.deref.ensures.value ∙ c.in_ok-parents.ensures.parents in
    let held = sums.source_counts_add_up c.args.points.now c.args.cert.now c.in_ok-parents.ensures.certificate c.requires.head in
    subst (λ l. AddUp l (own_counts c.args.at.now.sources)) (sym p) (subst (λ rows. AddUp (parents_of c.args.cert.now) (own_counts rows)) (sym c.requires.at.sources_are) held)

pub weights_under-requires-clause-light : goal.weights_under-requires-clause-light
weights_under-requires-clause-light c = subst AreLightRows (sym c.requires.at.sources_are) (sums.rows_are_light c.args.points.now c.args.cert.now c.in_ok-parents.ensures.certificate c.requires.head c.requires.within)

pub weights_under-requires-clause-sums : goal.weights_under-requires-clause-sums
weights_under-requires-clause-sums c =
    let p = c.deref-2.ensures.value ∙ c.in_ok-parents.ensures.parents in
    let few = (order_bounds c.order-order.result c.order-order.ensures.one_of.is_order).1 in
    let held = sums.weights_add_up c.args.points.now c.args.cert.now c.in_ok-parents.ensures.certificate c.requires.head c.requires.within c.order-order.result few in
    subst (λ l. AddUp l (own_weights c.order-order.result c.args.at.now.sources)) (sym p) (subst (λ rows. AddUp (parents_of c.args.cert.now) (own_weights c.order-order.result rows)) (sym c.requires.at.sources_are) held)

pub counts_under-requires-2-clause-sums : goal.counts_under-requires-2-clause-sums
counts_under-requires-2-clause-sums c =
    let p = c.deref-3.ensures.value ∙ c.in_ok-parents.ensures.parents in
    let held = sums.target_counts_add_up c.args.points.now c.args.cert.now c.in_ok-parents.ensures.certificate c.requires.head in
    subst (λ l. AddUp l (own_counts c.args.at.now.targets)) (sym p) (subst (λ rows. AddUp (parents_of c.args.cert.now) (own_counts rows)) (sym c.requires.at.targets_are) held)

pub returns : goal.returns
returns c =
    let is = c.in_ok-parents.ensures.certificate in
    record {
      source_counts_are = c.in_ok-source_counts.ensures ∙ ap₂ (λ l rows. sums_under l (own_counts rows)) (c.deref.ensures.value ∙ c.in_ok-parents.ensures.parents) c.requires.at.sources_are
          ∙ sums.source_counts_are c.args.points.now c.args.cert.now is c.requires.head;
      weights_are = c.in_ok-weights.ensures ∙ ap₂ (λ l rows. sums_under l (own_weights c.order-order.result rows)) (c.deref-2.ensures.value ∙ c.in_ok-parents.ensures.parents) c.requires.at.sources_are
          ∙ ap (λ order. sums_under (parents_of c.args.cert.now) (own_weights order (sums.rows c.args.points.now c.args.cert.now is c.requires.head true))) c.order-order.ensures.order
          ∙ sums.weights_are c.args.points.now c.args.cert.now is c.requires.head c.args.cert.now.head.order;
      target_counts_are = c.in_ok-target_counts.ensures ∙ ap₂ (λ l rows. sums_under l (own_counts rows)) (c.deref-3.ensures.value ∙ c.in_ok-parents.ensures.parents) c.requires.at.targets_are
          ∙ sums.target_counts_are c.args.points.now c.args.cert.now is c.requires.head;
    }

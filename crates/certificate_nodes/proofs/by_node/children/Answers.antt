-- The keys are those of the certificate, each in range.
use Rattle.std.proofs.Common.{◌≡◌, ◌+◌, ◌<◌, length, sym, ap, ◌∙◌, subst, arith}
use Rattle.std.specs.Prelude.{All}
use Rattle.std.proofs.lemmas.List.FromFn.{length-map-range_with_len}
use Rattle.certificate_nodes.specs.Keys.{child_key, child_keys}
use Rattle.certificate_nodes.proofs.Counts.{child_keys_below}
use Rattle.certificate_nodes.proofs.by_node.children.Goals as goal

keys_are : (c : goal.After-deref) → c.deref.result.now ≡ child_keys c.args.cert.now
keys_are c = c.deref.ensures.value ∙ c.in_ok-keys.ensures

pub of-requires-clause-keys : goal.of-requires-clause-keys
of-requires-clause-keys c =
    let count : c.cell_count-count.result + 1 ≡ c.args.cert.now.head.cells + 1 = omega arith in
    subst (λ n. All (λ k. k < n) c.deref.result.now) (sym count) (subst (All (λ k. k < c.args.cert.now.head.cells + 1)) (sym (keys_are c)) (child_keys_below c.args.cert.now c.cell_count-count.ensures.certificate))

pub of-requires-clause-few : goal.of-requires-clause-few
of-requires-clause-few c = omega (arith, ap length (keys_are c), length-map-range_with_len (child_key c.args.cert.now) 0 c.args.cert.now.head.cells, c.cell_count-count.ensures.few)

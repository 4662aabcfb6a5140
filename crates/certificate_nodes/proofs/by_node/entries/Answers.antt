-- The keys are those of the certificate, each in range.
use Rattle.std.proofs.Common.{◌≡◌, ◌<◌, length, sym, ap, ◌∙◌, subst, arith}
use Rattle.std.specs.Prelude.{All}
use Rattle.std.proofs.lemmas.List.FromFn.{length-map-range_with_len}
use Rattle.certificate_nodes.specs.Keys.{entry_key, entry_keys}
use Rattle.certificate_nodes.proofs.Counts.{entry_keys_below, few_entries}
use Rattle.certificate_nodes.proofs.by_node.entries.Goals as goal

keys_are : (c : goal.After-deref) → c.deref.result.now ≡ entry_keys c.args.cert.now
keys_are c = c.deref.ensures.value ∙ c.in_ok-keys.ensures

pub of-requires-clause-keys : goal.of-requires-clause-keys
of-requires-clause-keys c =
    let count : c.cell_count-count.result ≡ c.args.cert.now.head.cells = omega arith in
    subst (λ n. All (λ k. k < n) c.deref.result.now) (sym count) (subst (All (λ k. k < c.args.cert.now.head.cells)) (sym (keys_are c)) (entry_keys_below c.args.cert.now c.cell_count-count.ensures.certificate))

pub of-requires-clause-few : goal.of-requires-clause-few
of-requires-clause-few c = omega (arith, ap length (keys_are c), length-map-range_with_len (entry_key c.args.cert.now) 0 c.args.cert.now.head.entries, few_entries c.args.cert.now c.cell_count-count.ensures.certificate)

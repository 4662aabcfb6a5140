-- The keys are those of the certificate, each in range.
use Rattle.std.proofs.Common.{◌≡◌, ◌+◌, ◌<◌, length, sym, ap, ◌∙◌, subst, arith}
use Rattle.std.specs.Prelude.{All}
use Rattle.std.proofs.lemmas.List.FromFn.{length-map-range_with_len}
use Rattle.certificate_nodes.specs.Keys.{key_at, point_keys}
use Rattle.certificate_nodes.proofs.Counts.{point_keys_below, few_points}
use Rattle.certificate_nodes.proofs.by_node.points_by_node.Goals as goal

keys_are : (c : goal.After-deref) → c.deref.result.now ≡ point_keys c.args.cert.now c.args.sources c.args.points.now.list
keys_are c = c.deref.ensures.value ∙ c.in_ok-keys.ensures ∙ ap (point_keys c.args.cert.now c.args.sources) c.points.ensures

pub of-requires-clause-keys : goal.of-requires-clause-keys
of-requires-clause-keys c =
    let count : c.cell_count-count.result + 1 ≡ c.args.cert.now.head.cells + 1 = omega arith in
    subst (λ n. All (λ k. k < n) c.deref.result.now) (sym count) (subst (All (λ k. k < c.args.cert.now.head.cells + 1)) (sym (keys_are c)) (point_keys_below c.args.cert.now c.cell_count-count.ensures.certificate c.args.sources c.args.points.now.list c.requires.point_count))

pub of-requires-clause-few : goal.of-requires-clause-few
of-requires-clause-few c = omega (arith, ap length (keys_are c), length-map-range_with_len (key_at c.args.cert.now c.args.sources c.args.points.now.list) 0 (length c.args.points.now.list), few_points c.args.cert.now c.cell_count-count.ensures.certificate, c.requires.point_count)

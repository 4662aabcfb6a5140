use Rattle.std.proofs.Common.{[], ◌∷◌, ◌++◌, sym, ap₂, ◌∙◌, arith}
use Rattle.std.proofs.lemmas.List.FromFn.{map-range_with_len_more}
use Rattle.certificate_nodes.specs.Keys.{child_key}
use Rattle.certificate_nodes.proofs.keys.child_keys.Goals as goal

pub loop-n-preserved : goal.loop-n-preserved
loop-n-preserved c =
    c.in_ok-push.ensures.items ∙ ap₂ (λ xs x. xs ++ x ∷ []) c.loop-n.invariant c.child_key.ensures
    ∙ sym (map-range_with_len_more (child_key c.args.cert.now) 0 c.loop-n.n c.loop-n.n (omega arith))

use Rattle.std.proofs.Common.{[], ◌∷◌, ◌++◌, sym, ap₂, ◌∙◌, arith}
use Rattle.std.proofs.lemmas.List.FromFn.{map-range_with_len_more}
use Rattle.certificate_nodes.specs.Keys.{entry_key}
use Rattle.certificate_nodes.proofs.keys.entry_keys.Goals as goal

pub loop-e-preserved : goal.loop-e-preserved
loop-e-preserved c =
    c.in_ok-push.ensures.items ∙ ap₂ (λ xs x. xs ++ x ∷ []) c.loop-e.invariant c.entry_key.ensures
    ∙ sym (map-range_with_len_more (entry_key c.args.cert.now) 0 c.loop-e.e c.loop-e.e (omega arith))

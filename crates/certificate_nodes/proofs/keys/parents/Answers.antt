use Rattle.std.proofs.Common.{[], ◌∷◌, ◌++◌, sym, ap₂, ◌∙◌, arith}
use Rattle.std.proofs.lemmas.List.FromFn.{map-range_with_len_more}
use Rattle.certificate_nodes.specs.Keys.{parent_at}
use Rattle.certificate_nodes.proofs.keys.parents.Goals as goal

pub loop-n-preserved : goal.loop-n-preserved
loop-n-preserved c =
    c.in_ok-push.ensures.items ∙ ap₂ (λ xs x. xs ++ x ∷ []) c.loop-n.invariant c.parent_at.ensures
    ∙ sym (map-range_with_len_more (parent_at c.args.cert.now) 0 c.loop-n.n c.loop-n.n (omega arith))

use Rattle.std.proofs.Common.{[], ◌∷◌, ◌++◌, sym, ap₂, ◌∙◌, arith}
use Rattle.std.proofs.lemmas.List.FromFn.{map-range_with_len_more}
use Rattle.certificate_nodes.specs.Presented.{accounting_of}
use Rattle.certificate_rules.proofs.Ranges.{root_parent, parent_less}
use Rattle.certificate_tiling.proofs.Reach.{parent_inside}
use Rattle.certificate_tiling.proofs.lists.parents.Goals as goal

pub overflow_cast-parent : goal.overflow_cast-parent
overflow_cast-parent c =
    let g = c.args.given.now in
    let is = c.node_count-count.ensures.certificate in
    omega (arith, c.parent.ensures, c.node_count-count.ensures.few, parent_inside (accounting_of g) (root_parent g.certificate is) (parent_less g.certificate is) c.loop-n.n (omega arith))

pub loop-n-preserved : goal.loop-n-preserved
loop-n-preserved c =
    c.in_ok-push.ensures.items ∙ ap₂ (λ xs x. xs ++ x ∷ []) c.loop-n.invariant c.parent.ensures
    ∙ sym (map-range_with_len_more (accounting_of c.args.given.now).parent 0 c.loop-n.n c.loop-n.n (omega arith))

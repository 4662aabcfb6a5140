-- One more position.
use Rattle.std.proofs.Common.{◌≡◌, ◌+◌, [], ◌∷◌, ◌++◌, sym, ap, ◌∙◌, arith, add-one}
use Rattle.std.specs.List.{range_with_len}
use Rattle.quadtree.proofs.Families.{range_more}
use Rattle.quadtree.proofs.split.all_positions.Goals as goal

pub loop-k-preserved : goal.loop-k-preserved
loop-k-preserved c =
    let e : 0 + c.loop-k.k ≡ c.loop-k.k = omega arith in
    rw add-one (c.in_ok-push.ensures.items ∙ ap (λ l. l ++ c.loop-k.k ∷ []) c.loop-k.invariant ∙ ap (λ v. range_with_len 0 c.loop-k.k ++ v ∷ []) (sym e) ∙ sym (range_more 0 c.loop-k.k))

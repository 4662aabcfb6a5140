use Rattle.std.proofs.Common.{◌∙◌, sym, ap}
use Rattle.field_basis.proofs.Positions.{target_added, source_left}
use Rattle.field_basis.proofs.targets.target_positions.Goals as goal
use Rattle.field_basis.proofs.targets.target_positions.Goals.{then-not-is_source+in_ok-push, else-not-is_source}

pub loop-k-preserved : goal.loop-k-preserved
loop-k-preserved c =
    elim c.if-not-is_source.branch [
      | then-not-is_source+in_ok-push w ↦ target_added c.args.points.now c.loop-k.k c.loop-k-test.true (sym c.is_source.ensures ∙ w.if-not-is_source.true) c.loop-k.invariant (ap (λ v. v.items) w.positions-is ∙ w.in_ok-push.ensures.items)
      | else-not-is_source w ↦ source_left c.args.points.now c.loop-k.k c.loop-k-test.true (sym c.is_source.ensures ∙ w.if-not-is_source.false) c.loop-k.invariant (ap (λ v. v.items) w.positions-is)
    ]

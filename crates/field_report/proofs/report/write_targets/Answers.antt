use Rattle.std.proofs.Common.{◌∙◌, ◌+◌, not, sym, ap, arith, subst}
use Rattle.std.specs.Io.KnownBytes.{Appends}
use Rattle.complex_box.proofs.Sizes.{box_wider}
use Rattle.complex_box.specs.Box.{box_ends}
use Rattle.limits.proofs.Grids.{grid_positive}
use Rattle.limits.specs.Limits.{most_box, most_printed}
use Rattle.quadtree.proofs.Limits.{in_grid}
use Rattle.tree_field.proofs.EachList.{each_list_has_tree}
use Rattle.field_report.proofs.FieldTexts.{box_printed, targets-most, value-in_range, written-exit, written-step, text-source, count-source, count-target}
use Rattle.field_report.proofs.Pieces.{Writes-failed}
use Rattle.field_report.proofs.report.write_targets.Goals as goal
use Rattle.field_report.proofs.report.write_targets.Goals.{then-not-is_source+in_ok-write_target, else-not-is_source}

pub value-requires : goal.value-requires
value-requires g c =
    let grid = c.args.field.now.basis.tree.grid in
    let some = each_list_has_tree grid c.args.points.now c.args.field.now.basis.cap (grid_positive grid c.requires.solved.is_tree.known_grid) (in_grid grid c.args.points.now c.requires.range) in
    let here = value-in_range c.args.mode c.args.points.now c.args.field.now.basis.cap g.row.P some.0 c.args.field.now.values c.loop-p.p-index c.loop-p.k _ (omega arith)
    (ap not (sym c.is_source.ensures ∙ c.if-not-is_source.true)) c.loop-p.invariant.count (c.requires.solved.over some.0 some.1).values_are in
    (omega arith, omega (arith, here))

pub write_target-requires : goal.write_target-requires
write_target-requires g c =
    let grid = c.args.field.now.basis.tree.grid in
    box_wider (most_box grid) most_printed (box_ends c.value.result) (box_printed grid c.requires.solved.is_tree.known_grid) c.value.ensures.size

pub returns-in_err-write_target-clause-bytes : goal.returns-in_err-write_target-clause-bytes
returns-in_err-write_target-clause-bytes g c lists are =
    Writes-failed _ c.from_residual.result _ _ _ c.from_residual.ensures.1
    (written-exit c.args.mode c.args.points.now c.args.field.now.basis.cap g.row.P lists c.args.field.now.values c.loop-p.p-index c.loop-p.k _ c.value.result (omega arith)
    (ap not (sym c.is_source.ensures ∙ c.if-not-is_source.true)) c.loop-p.invariant.count (c.requires.solved.over lists are).values_are c.args.field.now.basis.tree.grid c.requires.solved.is_tree.known_grid (c.requires.range _ _ (omega arith)) c.value.ensures.value
    _ _ _ (c.loop-p.invariant.held lists are) c.in_err-write_target.ensures.bytes)

pub overflow_add-k : goal.overflow_add-k
overflow_add-k g c = let few = targets-most c.args.points.now c.loop-p.p-index in omega arith

pub loop-p-preserved : goal.loop-p-preserved
loop-p-preserved g c =
    elim c.if-not-is_source.branch [
      | then-not-is_source+in_ok-write_target w ↦
          let has = ap not (sym c.is_source.ensures ∙ w.if-not-is_source.true) in
          record {
            held = λ lists are. subst (λ s. Appends (g.S.Sink.held c.args.sink.now) (g.S.Sink.held s) _) (sym w.sink-is)
                (written-step c.args.mode c.args.points.now c.args.field.now.basis.cap g.row.P lists c.args.field.now.values c.loop-p.p-index c.loop-p.k _ w.value.result (omega arith)
                has c.loop-p.invariant.count (c.requires.solved.over lists are).values_are c.args.field.now.basis.tree.grid c.requires.solved.is_tree.known_grid (c.requires.range _ _ (omega arith)) w.value.ensures.value
                _ _ _ (c.loop-p.invariant.held lists are) w.in_ok-write_target.ensures.bytes);
            faults = rw w.sink-is (omega (arith, c.loop-p.invariant.faults, w.in_ok-write_target.ensures.cause.passed));
            count = w.k-is ∙ ap (λ n. n + 1) c.loop-p.invariant.count ∙ sym (count-target c.args.points.now c.loop-p.p-index _ (omega arith) has);
          }
      | else-not-is_source w ↦
          let none = ap not (sym c.is_source.ensures ∙ w.if-not-is_source.false) in
          record {
            held = λ lists are. rw (w.sink-is, text-source c.args.mode c.args.points.now c.args.field.now.basis.cap g.row.P lists c.args.points.now c.loop-p.p-index _ (omega arith) none) (c.loop-p.invariant.held lists are);
            faults = rw w.sink-is c.loop-p.invariant.faults;
            count = w.k-is ∙ c.loop-p.invariant.count ∙ sym (count-source c.args.points.now c.loop-p.p-index _ (omega arith) none);
          }
    ]

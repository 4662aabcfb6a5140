use Rattle.std.proofs.Common.{◌∙◌, sym, subst, arith}
use Rattle.std.specs.Io.KnownBytes.{Appends}
use Rattle.std.specs.Prelude.{All}
use Rattle.exact_math.proofs.Orders.{order_bounds}
use Rattle.io_ports.specs.Bytes.{AppendsPrefix}
use Rattle.points.specs.Limits.{InRange}
use Rattle.solve_phase.specs.Field.{IsSolved}
use Rattle.field_report.proofs.FieldTexts.{head-exit, targets-exit, end-written, of-same, on_grid}
use Rattle.field_report.proofs.Pieces.{Writes-failed}
use Rattle.field_report.proofs.report.write_report.Goals as goal

pub returns-in_err-write_head-clause-bytes : goal.returns-in_err-write_head-clause-bytes
returns-in_err-write_head-clause-bytes g c lists are =
    let over = c.requires.solved.over lists (on_grid _ _ _ _ lists (sym c.requires.grid) are) in
    Writes-failed _ c.from_residual.result _ _ _ c.from_residual.ensures.1 (head-exit c.args.points.now g.row.P c.args.cap lists _ _ over.translations_are over.pairs_are _ _ c.in_err-write_head.ensures.bytes)

pub returns-in_err-write_targets-clause-bytes : goal.returns-in_err-write_targets-clause-bytes
returns-in_err-write_targets-clause-bytes g c lists are =
    let over = c.requires.solved.over lists (on_grid _ _ _ _ lists (sym c.requires.grid) are) in
    let lines = of-same c.args.points.now.mode _ _ _ _ _ g.row.P lists (AppendsPrefix _ _) c.points.ensures c.requires.solved.cap_is (c.in_err-write_targets.ensures.bytes lists) (on_grid _ _ _ _ lists (sym c.requires.grid) are) in
    Writes-failed _ c.from_residual-in_err-write_targets.result _ _ _ c.from_residual-in_err-write_targets.ensures.1
    (targets-exit c.args.points.now g.row.P c.args.cap lists _ _ over.translations_are over.pairs_are _ _ _ c.in_ok-write_head.ensures.bytes lines)

pub returns-clause-bytes : goal.returns-clause-bytes
returns-clause-bytes g c lists are =
    let over = c.requires.solved.over lists (on_grid _ _ _ _ lists (sym c.requires.grid) are) in
    let lines = of-same c.args.points.now.mode _ _ _ _ _ g.row.P lists (Appends _ _) c.points.ensures c.requires.solved.cap_is (c.in_ok-write_targets.ensures.bytes lists) (on_grid _ _ _ _ lists (sym c.requires.grid) are) in
    end-written c.args.points.now g.row.P c.args.cap lists c.translations.result c.pairs.result (c.translations.ensures ∙ over.translations_are) (c.pairs.ensures ∙ over.pairs_are)
    c.write_end.result _ _ _ _ c.in_ok-write_head.ensures.bytes lines c.write_end.ensures.bytes

pub overflow_cast-write_head : goal.overflow_cast-write_head
overflow_cast-write_head g c = let most = order_bounds g.row.P c.requires.solved.order in omega (arith, most)

pub write_targets-requires : goal.write_targets-requires
write_targets-requires g c =
    let listed : All (InRange c.args.field.now.basis.tree.grid) c.args.points.now.list = subst (λ n. All (InRange n) c.args.points.now.list) (sym c.requires.grid) c.requires.list.within.range in
    let range : All (InRange c.args.field.now.basis.tree.grid) c.points.result.now = subst (All (InRange c.args.field.now.basis.tree.grid)) (sym c.points.ensures) listed in
    let kept = subst (λ points. IsSolved points c.args.cap g.row.P c.args.field.now) (sym c.points.ensures) c.requires.solved in
    (omega arith, (range, subst (λ cap. IsSolved c.points.result.now cap g.row.P c.args.field.now) (sym c.requires.solved.cap_is) kept))

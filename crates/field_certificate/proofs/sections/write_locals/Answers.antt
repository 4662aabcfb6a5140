use Rattle.std.proofs.Common.{◌∙◌, ap, arith, length, to_z, of_z}
use Rattle.std.proofs.lemmas.Int.{to_z-of_z}
use Rattle.std.specs.Int.{w128}
use Rattle.std.specs.Io.KnownBytes.{Appends}
use Rattle.field_basis.specs.Place.{place_at}
use Rattle.field_report.proofs.Pieces.{Writes-failed}
use Rattle.field_certificate.proofs.LoopTexts.{texts-exit, texts-step}
use Rattle.field_certificate.proofs.RowLines.{local_put, radius_kept}
use Rattle.field_certificate.specs.ProgramLines.{local_text}
use Rattle.io_ports.specs.Bytes.{AppendsPrefix}
use Rattle.quadtree.specs.TreeModel.{node_of}
use Rattle.field_certificate.proofs.sections.write_locals.Goals as goal

pub returns-in_err-put_local-clause-bytes : goal.returns-in_err-put_local-clause-bytes
returns-in_err-put_local-clause-bytes g c =
    let f = c.args.field.now in
    let n = c.loop-n.n in
    let put = local_put _ (λ r. r.cells.now) (AppendsPrefix (g.S.Sink.held c.loop-n.sink) (g.S.Sink.held c.put_local.new.sink)) (place_at f.local n).row (node_of f.basis.tree n).has_target g.row.P (place_at f.local n).radius (to_z w128 (of_z w128 c.radius.result)) c.local.result (to_z-of_z w128 c.radius.result (radius_kept f.basis.tree.grid (place_at f.local n).radius c.radius.result c.radius.ensures.value c.radius.ensures.size) ∙ c.radius.ensures.value) c.local.ensures.has c.local.ensures.row c.in_err-put_local.ensures.bytes in
    Writes-failed _ c.from_residual.result _ _ _ c.from_residual.ensures.1 (texts-exit (local_text g.row.P f) n _ (omega (arith, ap length (c.cells-n-end.ensures.all ∙ ap (λ t. t.cells) c.tree.ensures))) _ _ _ c.loop-n.invariant.held put)

pub loop-n-preserved : goal.loop-n-preserved
loop-n-preserved g c =
    let f = c.args.field.now in
    let n = c.loop-n.n in
    let put = local_put _ (λ r. r.cells.now) (Appends (g.S.Sink.held c.loop-n.sink) (g.S.Sink.held c.put_local.new.sink)) (place_at f.local n).row (node_of f.basis.tree n).has_target g.row.P (place_at f.local n).radius (to_z w128 (of_z w128 c.radius.result)) c.local.result (to_z-of_z w128 c.radius.result (radius_kept f.basis.tree.grid (place_at f.local n).radius c.radius.result c.radius.ensures.value c.radius.ensures.size) ∙ c.radius.ensures.value) c.local.ensures.has c.local.ensures.row c.in_ok-put_local.ensures.bytes in
    record {
      held = texts-step (local_text g.row.P f) n _ _ _ c.loop-n.invariant.held put;
      faults = c.in_ok-put_local.ensures.cause.passed ∙ c.loop-n.invariant.faults;
    }

use Rattle.std.proofs.Common.{◌∙◌, ap, arith, length}
use Rattle.std.specs.Io.KnownBytes.{Appends}
use Rattle.field_basis.specs.Place.{place_at}
use Rattle.field_report.proofs.Pieces.{Writes-failed}
use Rattle.field_certificate.proofs.LoopTexts.{texts-exit, texts-step}
use Rattle.field_certificate.proofs.RowLines.{multipole_put}
use Rattle.field_certificate.specs.ProgramLines.{multipole_text}
use Rattle.io_ports.specs.Bytes.{AppendsPrefix}
use Rattle.quadtree.specs.TreeModel.{node_of}
use Rattle.field_certificate.proofs.sections.write_multipoles.Goals as goal

pub returns-in_err-put_multipole-clause-bytes : goal.returns-in_err-put_multipole-clause-bytes
returns-in_err-put_multipole-clause-bytes g c =
    let f = c.args.field.now in
    let n = c.loop-n.n in
    let put = multipole_put _ (λ r. r.cells.now) (AppendsPrefix (g.S.Sink.held c.loop-n.sink) (g.S.Sink.held c.put_multipole.new.sink)) (place_at f.up n).row (node_of f.basis.tree n).has_source g.row.P c.up.result c.up.ensures.has c.up.ensures.row c.in_err-put_multipole.ensures.bytes in
    Writes-failed _ c.from_residual.result _ _ _ c.from_residual.ensures.1 (texts-exit (multipole_text g.row.P f) n _ (omega (arith, ap length (c.cells-n-end.ensures.all ∙ ap (λ t. t.cells) c.tree.ensures))) _ _ _ c.loop-n.invariant.held put)

pub loop-n-preserved : goal.loop-n-preserved
loop-n-preserved g c =
    let f = c.args.field.now in
    let n = c.loop-n.n in
    let put = multipole_put _ (λ r. r.cells.now) (Appends (g.S.Sink.held c.loop-n.sink) (g.S.Sink.held c.put_multipole.new.sink)) (place_at f.up n).row (node_of f.basis.tree n).has_source g.row.P c.up.result c.up.ensures.has c.up.ensures.row c.in_ok-put_multipole.ensures.bytes in
    record {
      held = texts-step (multipole_text g.row.P f) n _ _ _ c.loop-n.invariant.held put;
      faults = c.in_ok-put_multipole.ensures.cause.passed ∙ c.loop-n.invariant.faults;
    }

use Rattle.std.proofs.Common.{◌∙◌, ap, ap₂, subst, arith, length}
use Rattle.std.specs.Io.KnownBytes.{Appends}
use Rattle.field_report.proofs.Pieces.{Writes-failed}
use Rattle.field_certificate.proofs.LoopTexts.{texts-exit, texts-step}
use Rattle.field_certificate.specs.ProgramLines.{node_text}
use Rattle.io_ports.specs.Bytes.{AppendsPrefix}
use Rattle.accounting_text.specs.Written.{node_line}
use Rattle.cell_lists.proofs.TreeNumbers.{read_at}
use Rattle.cert_text.specs.Lines.{line_bytes}
use Rattle.field_certificate.proofs.sections.write_nodes.Goals as goal

pub returns-in_err-put_node-clause-bytes : goal.returns-in_err-put_node-clause-bytes
returns-in_err-put_node-clause-bytes g c =
    let line = ap₂ (λ p d. line_bytes (node_line p d)) c.parent.ensures (read_at c.args.tree.now c.cells-cells.result.now c.loop-n.n c.index-cells-n.result c.cells-cells.ensures.all (omega (arith, ap length c.cells-cells.ensures.all)) c.index-cells-n.is) in
    Writes-failed _ c.from_residual.result _ _ _ c.from_residual.ensures.1
    (texts-exit (node_text c.args.tree.now) c.loop-n.n _ (omega (arith, ap length c.cells-cells.ensures.all)) _ _ _ c.loop-n.invariant.held (subst (AppendsPrefix _ _) line c.in_err-put_node.ensures.bytes))

pub loop-n-preserved : goal.loop-n-preserved
loop-n-preserved g c =
    let line = ap₂ (λ p d. line_bytes (node_line p d)) c.parent.ensures (read_at c.args.tree.now c.cells-cells.result.now c.loop-n.n c.index-cells-n.result c.cells-cells.ensures.all (omega (arith, ap length c.cells-cells.ensures.all)) c.index-cells-n.is) in
    record {
      held = texts-step (node_text c.args.tree.now) c.loop-n.n _ _ _ c.loop-n.invariant.held (subst (Appends _ _) line c.in_ok-put_node.ensures.bytes);
      faults = c.in_ok-put_node.ensures.cause.passed ∙ c.loop-n.invariant.faults;
    }

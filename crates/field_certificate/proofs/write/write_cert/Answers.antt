use Rattle.std.proofs.Common.{ℕ, List, ◌∙◌, ap, arith, length, subst}
use Rattle.std.specs.Io.KnownBytes.{Appends}
use Rattle.cell_name.specs.declared.cell.Cell.{Cell}
use Rattle.field_certificate.proofs.Chain.{ends, first_written, is_certificate, stops_ats, stops_entries, stops_first, stops_locals, stops_multipoles, stops_nodes, stops_targets}
use Rattle.field_certificate.proofs.FewEntries.{few_entries}
use Rattle.field_certificate.specs.ProgramLines.{at_text, node_text, texts}
use Rattle.field_report.proofs.Pieces.{Writes-failed}
use Rattle.field_solve.specs.Parts.{FieldParts}
use Rattle.io_ports.specs.Bytes.{AppendsPrefix, Writes}
use Rattle.points.specs.declared.Point.{Point}
use Rattle.points.specs.declared.Points.{Points}
use Rattle.quadtree.specs.TreeModel.{TreeModel, size}
use Rattle.field_certificate.proofs.write.write_cert.Goals as goal

pub all_entries-requires : goal.all_entries-requires
all_entries-requires g c =
    (omega arith, few_entries c.args.points.now c.args.field.now.basis.cap g.row.P c.args.field.now c.requires.list c.requires.solved c.requires.grid)

pub returns-in_err-put_head-clause-bytes : goal.returns-in_err-put_head-clause-bytes
returns-in_err-put_head-clause-bytes g c lists are =
    let points : Points = c.args.points.now in
    let field : FieldParts = c.args.field.now in
    let p = subst (AppendsPrefix (g.S.Sink.held c.args.sink.now) (g.S.Sink.held c.put_head.new.sink)) (first_written points g.row.P field _ _ _ _ (ap (λ (ps : List Point). length ps) c.points-list.ensures) c.targets.ensures (ap (λ (cs : List Cell). length cs) c.cells.ensures.all ∙ ap size c.tree-tree.ensures) c.all_entries.ensures) c.in_err-put_head.ensures.bytes in
    Writes-failed _ c.from_residual.result _ _ _ c.from_residual.ensures.1 (subst (AppendsPrefix (g.S.Sink.held c.args.sink.now) (g.S.Sink.held c.put_head.new.sink)) (is_certificate points field.basis.cap g.row.P field c.requires.list c.requires.solved c.requires.grid lists are) (stops_first points g.row.P field (g.S.Sink.held c.args.sink.now) (g.S.Sink.held c.put_head.new.sink) p))

pub returns-in_err-write_nodes-clause-bytes : goal.returns-in_err-write_nodes-clause-bytes
returns-in_err-write_nodes-clause-bytes g c lists are =
    let points : Points = c.args.points.now in
    let field : FieldParts = c.args.field.now in
    let a0 = subst (Appends (g.S.Sink.held c.args.sink.now) (g.S.Sink.held c.put_head.new.sink)) (first_written points g.row.P field _ _ _ _ (ap (λ (ps : List Point). length ps) c.points-list.ensures) c.targets.ensures (ap (λ (cs : List Cell). length cs) c.cells.ensures.all ∙ ap size c.tree-tree.ensures) c.all_entries.ensures) c.in_ok-put_head.ensures.bytes in
    let p = subst (λ (t : TreeModel). AppendsPrefix (g.S.Sink.held c.put_head.new.sink) (g.S.Sink.held c.write_nodes.new.sink) (texts (node_text t) (size t))) c.tree-tree.ensures c.in_err-write_nodes.ensures.bytes in
    Writes-failed _ c.from_residual-in_err-write_nodes.result _ _ _ c.from_residual-in_err-write_nodes.ensures.1 (subst (AppendsPrefix (g.S.Sink.held c.args.sink.now) (g.S.Sink.held c.write_nodes.new.sink)) (is_certificate points field.basis.cap g.row.P field c.requires.list c.requires.solved c.requires.grid lists are) (stops_nodes points g.row.P field (g.S.Sink.held c.args.sink.now) (g.S.Sink.held c.put_head.new.sink) a0 (g.S.Sink.held c.write_nodes.new.sink) p))

pub returns-in_err-write_ats-clause-bytes : goal.returns-in_err-write_ats-clause-bytes
returns-in_err-write_ats-clause-bytes g c lists are =
    let points : Points = c.args.points.now in
    let field : FieldParts = c.args.field.now in
    let a0 = subst (Appends (g.S.Sink.held c.args.sink.now) (g.S.Sink.held c.put_head.new.sink)) (first_written points g.row.P field _ _ _ _ (ap (λ (ps : List Point). length ps) c.points-list.ensures) c.targets.ensures (ap (λ (cs : List Cell). length cs) c.cells.ensures.all ∙ ap size c.tree-tree.ensures) c.all_entries.ensures) c.in_ok-put_head.ensures.bytes in
    let a1 = subst (λ (t : TreeModel). Appends (g.S.Sink.held c.put_head.new.sink) (g.S.Sink.held c.write_nodes.new.sink) (texts (node_text t) (size t))) c.tree-tree.ensures c.in_ok-write_nodes.ensures.bytes in
    let p = subst (λ (n : ℕ). AppendsPrefix (g.S.Sink.held c.write_nodes.new.sink) (g.S.Sink.held c.write_ats.new.sink) (texts (at_text field.basis.tree) n)) (ap (λ (ps : List Point). length ps) c.points-list.ensures)
    (subst (λ (t : TreeModel). AppendsPrefix (g.S.Sink.held c.write_nodes.new.sink) (g.S.Sink.held c.write_ats.new.sink) (texts (at_text t) (length c.points-list.result.now))) c.tree-tree.ensures c.in_err-write_ats.ensures.bytes) in
    Writes-failed _ c.from_residual-in_err-write_ats.result _ _ _ c.from_residual-in_err-write_ats.ensures.1 (subst (AppendsPrefix (g.S.Sink.held c.args.sink.now) (g.S.Sink.held c.write_ats.new.sink)) (is_certificate points field.basis.cap g.row.P field c.requires.list c.requires.solved c.requires.grid lists are) (stops_ats points g.row.P field (g.S.Sink.held c.args.sink.now) (g.S.Sink.held c.put_head.new.sink) a0 (g.S.Sink.held c.write_nodes.new.sink) a1 (g.S.Sink.held c.write_ats.new.sink) p))

pub returns-in_err-write_multipoles-clause-bytes : goal.returns-in_err-write_multipoles-clause-bytes
returns-in_err-write_multipoles-clause-bytes g c lists are =
    let points : Points = c.args.points.now in
    let field : FieldParts = c.args.field.now in
    let a0 = subst (Appends (g.S.Sink.held c.args.sink.now) (g.S.Sink.held c.put_head.new.sink)) (first_written points g.row.P field _ _ _ _ (ap (λ (ps : List Point). length ps) c.points-list.ensures) c.targets.ensures (ap (λ (cs : List Cell). length cs) c.cells.ensures.all ∙ ap size c.tree-tree.ensures) c.all_entries.ensures) c.in_ok-put_head.ensures.bytes in
    let a1 = subst (λ (t : TreeModel). Appends (g.S.Sink.held c.put_head.new.sink) (g.S.Sink.held c.write_nodes.new.sink) (texts (node_text t) (size t))) c.tree-tree.ensures c.in_ok-write_nodes.ensures.bytes in
    let a2 = subst (λ (n : ℕ). Appends (g.S.Sink.held c.write_nodes.new.sink) (g.S.Sink.held c.write_ats.new.sink) (texts (at_text field.basis.tree) n)) (ap (λ (ps : List Point). length ps) c.points-list.ensures)
    (subst (λ (t : TreeModel). Appends (g.S.Sink.held c.write_nodes.new.sink) (g.S.Sink.held c.write_ats.new.sink) (texts (at_text t) (length c.points-list.result.now))) c.tree-tree.ensures c.in_ok-write_ats.ensures.bytes) in
    let p = c.in_err-write_multipoles.ensures.bytes in
    Writes-failed _ c.from_residual-in_err-write_multipoles.result _ _ _ c.from_residual-in_err-write_multipoles.ensures.1 (subst (AppendsPrefix (g.S.Sink.held c.args.sink.now) (g.S.Sink.held c.write_multipoles.new.sink)) (is_certificate points field.basis.cap g.row.P field c.requires.list c.requires.solved c.requires.grid lists are) (stops_multipoles points g.row.P field (g.S.Sink.held c.args.sink.now) (g.S.Sink.held c.put_head.new.sink) a0 (g.S.Sink.held c.write_nodes.new.sink) a1 (g.S.Sink.held c.write_ats.new.sink) a2 (g.S.Sink.held c.write_multipoles.new.sink) p))

pub returns-in_err-write_entries-clause-bytes : goal.returns-in_err-write_entries-clause-bytes
returns-in_err-write_entries-clause-bytes g c lists are =
    let points : Points = c.args.points.now in
    let field : FieldParts = c.args.field.now in
    let a0 = subst (Appends (g.S.Sink.held c.args.sink.now) (g.S.Sink.held c.put_head.new.sink)) (first_written points g.row.P field _ _ _ _ (ap (λ (ps : List Point). length ps) c.points-list.ensures) c.targets.ensures (ap (λ (cs : List Cell). length cs) c.cells.ensures.all ∙ ap size c.tree-tree.ensures) c.all_entries.ensures) c.in_ok-put_head.ensures.bytes in
    let a1 = subst (λ (t : TreeModel). Appends (g.S.Sink.held c.put_head.new.sink) (g.S.Sink.held c.write_nodes.new.sink) (texts (node_text t) (size t))) c.tree-tree.ensures c.in_ok-write_nodes.ensures.bytes in
    let a2 = subst (λ (n : ℕ). Appends (g.S.Sink.held c.write_nodes.new.sink) (g.S.Sink.held c.write_ats.new.sink) (texts (at_text field.basis.tree) n)) (ap (λ (ps : List Point). length ps) c.points-list.ensures)
    (subst (λ (t : TreeModel). Appends (g.S.Sink.held c.write_nodes.new.sink) (g.S.Sink.held c.write_ats.new.sink) (texts (at_text t) (length c.points-list.result.now))) c.tree-tree.ensures c.in_ok-write_ats.ensures.bytes) in
    let a3 = c.in_ok-write_multipoles.ensures.bytes in
    let p = c.in_err-write_entries.ensures.bytes in
    Writes-failed _ c.from_residual-in_err-write_entries.result _ _ _ c.from_residual-in_err-write_entries.ensures.1 (subst (AppendsPrefix (g.S.Sink.held c.args.sink.now) (g.S.Sink.held c.write_entries.new.sink)) (is_certificate points field.basis.cap g.row.P field c.requires.list c.requires.solved c.requires.grid lists are) (stops_entries points g.row.P field (g.S.Sink.held c.args.sink.now) (g.S.Sink.held c.put_head.new.sink) a0 (g.S.Sink.held c.write_nodes.new.sink) a1 (g.S.Sink.held c.write_ats.new.sink) a2 (g.S.Sink.held c.write_multipoles.new.sink) a3 (g.S.Sink.held c.write_entries.new.sink) p))

pub returns-in_err-write_locals-clause-bytes : goal.returns-in_err-write_locals-clause-bytes
returns-in_err-write_locals-clause-bytes g c lists are =
    let points : Points = c.args.points.now in
    let field : FieldParts = c.args.field.now in
    let a0 = subst (Appends (g.S.Sink.held c.args.sink.now) (g.S.Sink.held c.put_head.new.sink)) (first_written points g.row.P field _ _ _ _ (ap (λ (ps : List Point). length ps) c.points-list.ensures) c.targets.ensures (ap (λ (cs : List Cell). length cs) c.cells.ensures.all ∙ ap size c.tree-tree.ensures) c.all_entries.ensures) c.in_ok-put_head.ensures.bytes in
    let a1 = subst (λ (t : TreeModel). Appends (g.S.Sink.held c.put_head.new.sink) (g.S.Sink.held c.write_nodes.new.sink) (texts (node_text t) (size t))) c.tree-tree.ensures c.in_ok-write_nodes.ensures.bytes in
    let a2 = subst (λ (n : ℕ). Appends (g.S.Sink.held c.write_nodes.new.sink) (g.S.Sink.held c.write_ats.new.sink) (texts (at_text field.basis.tree) n)) (ap (λ (ps : List Point). length ps) c.points-list.ensures)
    (subst (λ (t : TreeModel). Appends (g.S.Sink.held c.write_nodes.new.sink) (g.S.Sink.held c.write_ats.new.sink) (texts (at_text t) (length c.points-list.result.now))) c.tree-tree.ensures c.in_ok-write_ats.ensures.bytes) in
    let a3 = c.in_ok-write_multipoles.ensures.bytes in
    let a4 = c.in_ok-write_entries.ensures.bytes in
    let p = c.in_err-write_locals.ensures.bytes in
    Writes-failed _ c.from_residual-in_err-write_locals.result _ _ _ c.from_residual-in_err-write_locals.ensures.1 (subst (AppendsPrefix (g.S.Sink.held c.args.sink.now) (g.S.Sink.held c.write_locals.new.sink)) (is_certificate points field.basis.cap g.row.P field c.requires.list c.requires.solved c.requires.grid lists are) (stops_locals points g.row.P field (g.S.Sink.held c.args.sink.now) (g.S.Sink.held c.put_head.new.sink) a0 (g.S.Sink.held c.write_nodes.new.sink) a1 (g.S.Sink.held c.write_ats.new.sink) a2 (g.S.Sink.held c.write_multipoles.new.sink) a3 (g.S.Sink.held c.write_entries.new.sink) a4 (g.S.Sink.held c.write_locals.new.sink) p))

pub returns-in_err-write_targets-clause-bytes : goal.returns-in_err-write_targets-clause-bytes
returns-in_err-write_targets-clause-bytes g c lists are =
    let points : Points = c.args.points.now in
    let field : FieldParts = c.args.field.now in
    let a0 = subst (Appends (g.S.Sink.held c.args.sink.now) (g.S.Sink.held c.put_head.new.sink)) (first_written points g.row.P field _ _ _ _ (ap (λ (ps : List Point). length ps) c.points-list.ensures) c.targets.ensures (ap (λ (cs : List Cell). length cs) c.cells.ensures.all ∙ ap size c.tree-tree.ensures) c.all_entries.ensures) c.in_ok-put_head.ensures.bytes in
    let a1 = subst (λ (t : TreeModel). Appends (g.S.Sink.held c.put_head.new.sink) (g.S.Sink.held c.write_nodes.new.sink) (texts (node_text t) (size t))) c.tree-tree.ensures c.in_ok-write_nodes.ensures.bytes in
    let a2 = subst (λ (n : ℕ). Appends (g.S.Sink.held c.write_nodes.new.sink) (g.S.Sink.held c.write_ats.new.sink) (texts (at_text field.basis.tree) n)) (ap (λ (ps : List Point). length ps) c.points-list.ensures)
    (subst (λ (t : TreeModel). Appends (g.S.Sink.held c.write_nodes.new.sink) (g.S.Sink.held c.write_ats.new.sink) (texts (at_text t) (length c.points-list.result.now))) c.tree-tree.ensures c.in_ok-write_ats.ensures.bytes) in
    let a3 = c.in_ok-write_multipoles.ensures.bytes in
    let a4 = c.in_ok-write_entries.ensures.bytes in
    let a5 = c.in_ok-write_locals.ensures.bytes in
    let p = c.in_err-write_targets.ensures.bytes in
    Writes-failed _ c.from_residual-in_err-write_targets.result _ _ _ c.from_residual-in_err-write_targets.ensures.1 (subst (AppendsPrefix (g.S.Sink.held c.args.sink.now) (g.S.Sink.held c.write_targets.new.sink)) (is_certificate points field.basis.cap g.row.P field c.requires.list c.requires.solved c.requires.grid lists are) (stops_targets points g.row.P field (g.S.Sink.held c.args.sink.now) (g.S.Sink.held c.put_head.new.sink) a0 (g.S.Sink.held c.write_nodes.new.sink) a1 (g.S.Sink.held c.write_ats.new.sink) a2 (g.S.Sink.held c.write_multipoles.new.sink) a3 (g.S.Sink.held c.write_entries.new.sink) a4 (g.S.Sink.held c.write_locals.new.sink) a5 (g.S.Sink.held c.write_targets.new.sink) p))

pub returns-clause-bytes : goal.returns-clause-bytes
returns-clause-bytes g c lists are =
    let points : Points = c.args.points.now in
    let field : FieldParts = c.args.field.now in
    let a0 = subst (Appends (g.S.Sink.held c.args.sink.now) (g.S.Sink.held c.put_head.new.sink)) (first_written points g.row.P field _ _ _ _ (ap (λ (ps : List Point). length ps) c.points-list.ensures) c.targets.ensures (ap (λ (cs : List Cell). length cs) c.cells.ensures.all ∙ ap size c.tree-tree.ensures) c.all_entries.ensures) c.in_ok-put_head.ensures.bytes in
    let a1 = subst (λ (t : TreeModel). Appends (g.S.Sink.held c.put_head.new.sink) (g.S.Sink.held c.write_nodes.new.sink) (texts (node_text t) (size t))) c.tree-tree.ensures c.in_ok-write_nodes.ensures.bytes in
    let a2 = subst (λ (n : ℕ). Appends (g.S.Sink.held c.write_nodes.new.sink) (g.S.Sink.held c.write_ats.new.sink) (texts (at_text field.basis.tree) n)) (ap (λ (ps : List Point). length ps) c.points-list.ensures)
    (subst (λ (t : TreeModel). Appends (g.S.Sink.held c.write_nodes.new.sink) (g.S.Sink.held c.write_ats.new.sink) (texts (at_text t) (length c.points-list.result.now))) c.tree-tree.ensures c.in_ok-write_ats.ensures.bytes) in
    let a3 = c.in_ok-write_multipoles.ensures.bytes in
    let a4 = c.in_ok-write_entries.ensures.bytes in
    let a5 = c.in_ok-write_locals.ensures.bytes in
    let a6 = c.in_ok-write_targets.ensures.bytes in
    subst (Writes c.put_end.result (g.S.Sink.held c.args.sink.now) (g.S.Sink.held c.put_end.new.sink)) (is_certificate points field.basis.cap g.row.P field c.requires.list c.requires.solved c.requires.grid lists are) (ends points g.row.P field (g.S.Sink.held c.args.sink.now) (g.S.Sink.held c.put_head.new.sink) a0 (g.S.Sink.held c.write_nodes.new.sink) a1 (g.S.Sink.held c.write_ats.new.sink) a2 (g.S.Sink.held c.write_multipoles.new.sink) a3 (g.S.Sink.held c.write_entries.new.sink) a4 (g.S.Sink.held c.write_locals.new.sink) a5 (g.S.Sink.held c.write_targets.new.sink) a6 c.put_end.result (g.S.Sink.held c.put_end.new.sink) c.put_end.ensures.bytes)

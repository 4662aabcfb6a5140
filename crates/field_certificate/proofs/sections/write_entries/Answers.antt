use Rattle.std.proofs.Common.{◌∙◌, ap, subst, length, arith}
use Rattle.std.specs.Io.KnownBytes.{Appends}
use Rattle.cell_lists.specs.EntryLists.{lists_of}
use Rattle.field_report.proofs.Pieces.{Writes-failed}
use Rattle.field_certificate.proofs.LoopTexts.{texts-exit, texts-step}
use Rattle.field_certificate.specs.ProgramLines.{entries_text}
use Rattle.io_ports.specs.Bytes.{AppendsPrefix}
use Rattle.letters.specs.declared.Letter.TheVariants.{U, V, W, X}
use Rattle.quadtree.specs.TreeModel.{size}
use Rattle.field_certificate.proofs.sections.write_entries.Goals as goal

pub write_cell_entries-requires-clause-u : goal.write_cell_entries-requires-clause-u
write_cell_entries-requires-clause-u g c =
    omega (arith, c.requires.as_many U, ap (λ l. length (lists_of l U)) c.lists.ensures, ap length c.cells-b-end.ensures.all, ap size c.tree.ensures, c.loop-b-test.true, c.loop-b.auto.b-end)

pub write_cell_entries-requires-clause-v : goal.write_cell_entries-requires-clause-v
write_cell_entries-requires-clause-v g c =
    omega (arith, c.requires.as_many V, ap (λ l. length (lists_of l V)) c.lists.ensures, ap length c.cells-b-end.ensures.all, ap size c.tree.ensures, c.loop-b-test.true, c.loop-b.auto.b-end)

pub write_cell_entries-requires-clause-w : goal.write_cell_entries-requires-clause-w
write_cell_entries-requires-clause-w g c =
    omega (arith, c.requires.as_many W, ap (λ l. length (lists_of l W)) c.lists.ensures, ap length c.cells-b-end.ensures.all, ap size c.tree.ensures, c.loop-b-test.true, c.loop-b.auto.b-end)

pub write_cell_entries-requires-clause-x : goal.write_cell_entries-requires-clause-x
write_cell_entries-requires-clause-x g c =
    omega (arith, c.requires.as_many X, ap (λ l. length (lists_of l X)) c.lists.ensures, ap length c.cells-b-end.ensures.all, ap size c.tree.ensures, c.loop-b-test.true, c.loop-b.auto.b-end)

pub returns-in_err-write_cell_entries-clause-bytes : goal.returns-in_err-write_cell_entries-clause-bytes
returns-in_err-write_cell_entries-clause-bytes g c =
    let text = ap (λ l. entries_text l c.loop-b.b) c.lists.ensures in
    Writes-failed _ c.from_residual.result _ _ _ c.from_residual.ensures.1
    (texts-exit (entries_text c.args.field.now.basis.lists) c.loop-b.b _ (omega (arith, ap length c.cells-b-end.ensures.all, ap size c.tree.ensures, c.loop-b-test.true, c.loop-b.auto.b-end)) _ _ _ c.loop-b.invariant.held (subst (AppendsPrefix _ _) text c.in_err-write_cell_entries.ensures.bytes))

pub loop-b-preserved : goal.loop-b-preserved
loop-b-preserved g c =
    let text = ap (λ l. entries_text l c.loop-b.b) c.lists.ensures in
    record {
      held = texts-step (entries_text c.args.field.now.basis.lists) c.loop-b.b _ _ _ c.loop-b.invariant.held (subst (Appends _ _) text c.in_ok-write_cell_entries.ensures.bytes);
      faults = c.in_ok-write_cell_entries.ensures.cause.passed ∙ c.loop-b.invariant.faults;
    }

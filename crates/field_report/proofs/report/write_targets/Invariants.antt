use Rattle.std.proofs.Common.{◌≡◌, take, length}
use Rattle.std.specs.Io.KnownBytes.{Appends}
use Rattle.tree_field.specs.Field.{targets}
use Rattle.tree_field.specs.Lists.{TreeLists, AreTreeLists}
use Rattle.field_report.specs.FieldText.{target_text}
use Rattle.field_report.proofs.report.write_targets.Given as goal

abbrev pub invariant-loop-p : goal.invariant-loop-p
invariant-loop-p g l = record {
  held : (lists : TreeLists) → AreTreeLists l.field.basis.tree.grid l.points l.field.basis.cap lists → Appends (g.S.Sink.held l.initial.sink) (g.S.Sink.held l.sink) (target_text l.mode l.points l.field.basis.cap g.row.P lists (take l.p-index l.points));
  faults : g.S.Sink.faults l.sink ≡ g.S.Sink.faults l.initial.sink;
  count : l.k ≡ length (targets (take l.p-index l.points));
}

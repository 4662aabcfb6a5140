use Rattle.std.proofs.Common.{◌≡◌}
use Rattle.std.specs.Io.KnownBytes.{Appends}
use Rattle.field_certificate.specs.ProgramLines.{texts, box_text}
use Rattle.field_certificate.proofs.sections.write_targets.Given as goal

abbrev pub invariant-loop-k : goal.invariant-loop-k
invariant-loop-k g l = record {
  held : Appends (g.S.Sink.held l.initial.sink) (g.S.Sink.held l.sink) (texts (box_text l.field.values) l.k);
  faults : g.S.Sink.faults l.sink ≡ g.S.Sink.faults l.initial.sink;
}

use Rattle.std.proofs.Common.{◌≡◌}
use Rattle.std.specs.Io.KnownBytes.{Appends}
use Rattle.field_certificate.specs.ProgramLines.{texts, entries_text}
use Rattle.field_certificate.proofs.sections.write_entries.Given as goal

abbrev pub invariant-loop-b : goal.invariant-loop-b
invariant-loop-b g l = record {
  held : Appends (g.S.Sink.held l.initial.sink) (g.S.Sink.held l.sink) (texts (entries_text l.field.basis.lists) l.b);
  faults : g.S.Sink.faults l.sink ≡ g.S.Sink.faults l.initial.sink;
}

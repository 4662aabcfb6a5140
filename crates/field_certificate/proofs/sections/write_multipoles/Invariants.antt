use Rattle.std.proofs.Common.{◌≡◌}
use Rattle.std.specs.Io.KnownBytes.{Appends}
use Rattle.field_certificate.specs.ProgramLines.{texts, multipole_text}
use Rattle.field_certificate.proofs.sections.write_multipoles.Given as goal

abbrev pub invariant-loop-n : goal.invariant-loop-n
invariant-loop-n g l = record {
  held : Appends (g.S.Sink.held l.initial.sink) (g.S.Sink.held l.sink) (texts (multipole_text g.row.P l.field) l.n);
  faults : g.S.Sink.faults l.sink ≡ g.S.Sink.faults l.initial.sink;
}

use Rattle.std.proofs.Common.{◌≡◌, take}
use Rattle.std.specs.Io.KnownBytes.{Appends}
use Rattle.field_certificate.specs.ProgramLines.{listed_text}
use Rattle.field_certificate.proofs.sections.write_list.Given as goal

abbrev pub invariant-loop-c : goal.invariant-loop-c
invariant-loop-c g l = record {
  held : Appends (g.S.Sink.held l.initial.sink) (g.S.Sink.held l.sink) (listed_text l.letter l.b (take l.c-index l.cells));
  faults : g.S.Sink.faults l.sink ≡ g.S.Sink.faults l.initial.sink;
}

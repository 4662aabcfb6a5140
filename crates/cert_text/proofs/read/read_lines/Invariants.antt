use Rattle.std.proofs.Common.{ℕ, ◌-◌, List}
use Rattle.cert_text.specs.Inside.{head_of}
use Rattle.cert_text.specs.Reading.{AreRead, IsStarting, section_rank}
use Rattle.cert_text.proofs.read.read_lines.Given as goal

abbrev pub invariant-loop-header : goal.invariant-loop-header
invariant-loop-header l = record {
  start : IsStarting (head_of l.header) l.section l.line l.stored;
  read : (bytes : List ℕ) → AreRead bytes l.fn.stored l.fn.text → AreRead bytes l.stored l.rest;
}

abbrev pub decreases-loop-header : goal.decreases-loop-header
decreases-loop-header l = 6 - section_rank l.section

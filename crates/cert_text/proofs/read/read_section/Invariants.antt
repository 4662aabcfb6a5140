use Rattle.std.proofs.Common.{◌≡◌, ◌+◌, ℕ, List, length}
use Rattle.cert_text.specs.Inside.{head_of}
use Rattle.cert_text.specs.Reading.{AreRead, IsReading}
use Rattle.cert_text.specs.Storage.{lines_in}
use Rattle.cert_text.proofs.read.read_section.Given as goal

abbrev pub invariant-loop-n : goal.invariant-loop-n
invariant-loop-n l = record {
  reading : IsReading (head_of l.header) l.section (l.line + l.n) l.stored;
  lines : length (lines_in l.section l.stored) ≡ l.n;
  read : (bytes : List ℕ) → AreRead bytes l.fn.stored l.fn.text → AreRead bytes l.stored l.rest;
}

-- The boxes so far are those of the numbers so far.
use Rattle.std.proofs.Common.{◌≡◌, ◌++◌, List, length}
use Rattle.complex_box.specs.declared.CBox.{CBox}
use Rattle.cert_text.specs.Rows.{AreBoxEnds, numbers_of}
use Rattle.cert_text.proofs.rows.push_boxes.Given as goal

abbrev pub invariant-loop-rest : goal.invariant-loop-rest
invariant-loop-rest l = ((more : List CBox) × (l.boxes.items ≡ l.initial.boxes.items ++ more) × (numbers_of more ++ l.rest ≡ l.numbers)) × AreBoxEnds l.rest

abbrev pub decreases-loop-rest : goal.decreases-loop-rest
decreases-loop-rest l = length l.rest

use Rattle.number_text.proofs.WideRows.{ReadsFront}
use Rattle.number_text.proofs.wide.read_numbers.Given as goal

abbrev pub invariant-loop-number : goal.invariant-loop-number
invariant-loop-number l = ReadsFront l.text l.rest l.numbers l.number-index

use Rattle.std.proofs.Common.{◌≡◌, take}
use Rattle.std.specs.List.{AllByRecursion}
use Rattle.number_text.specs.Numbers.{IsDigit, value_after}
use Rattle.number_text.proofs.wide.read_digits.Given as goal

abbrev pub invariant-loop-at : goal.invariant-loop-at
invariant-loop-at l = (l.value ≡ value_after 0 (take l.at l.text)) × AllByRecursion IsDigit (take l.at l.text)

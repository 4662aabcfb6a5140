use Rattle.std.proofs.Common.{◌≡◌, take, min}
use Rattle.std.specs.List.{AllByRecursion}
use Rattle.number_text.specs.Numbers.{IsDigit, value_after, most_wide}
use Rattle.number_text.proofs.wide.more_digits.Given as goal

abbrev pub invariant-loop-at : goal.invariant-loop-at
invariant-loop-at l = (l.value ≡ min (value_after l.before (take l.at l.text)) most_wide) × AllByRecursion IsDigit (take l.at l.text)

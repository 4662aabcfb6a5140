use Rattle.std.proofs.Common.{◌≡◌, take}
use Rattle.std.specs.List.{AllByRecursion}
use Rattle.number_text.specs.Numbers.{IsDigit, value_after, cut_uint}
use Rattle.number_text.proofs.number.read_digits.Given as goal

abbrev pub invariant-loop-byte : goal.invariant-loop-byte
invariant-loop-byte l = (l.value ≡ cut_uint (value_after 0 (take l.byte-index l.digits))) × AllByRecursion IsDigit (take l.byte-index l.digits)

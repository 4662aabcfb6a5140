use Rattle.std.proofs.Common.{◌+◌, ◌-◌, ◌*◌, ◌<◌, length, take, get_or, min, sym, ap, ◌∙◌, arith, rules}
use Rattle.number_text.specs.Numbers.{IsDigit, value_after, cut_uint, most_read}
use Rattle.number_text.proofs.Digits.{value_more, cut_more, digits_more}
use Rattle.number_text.proofs.number.read_digits.Goals as goal

pub loop-byte-preserved : goal.loop-byte-preserved
loop-byte-preserved c =
    let digits = c.args.digits.now in
    let i = c.loop-byte.byte-index in
    let within : i < length digits = omega arith in
    let here : IsDigit (get_or digits i 0) = search rules in
    let value = cut_more c.loop-byte.value (value_after 0 (take i digits)) (get_or digits i 0 - 48) c.loop-byte.invariant.0 in
    let read = c.min-value.ensures ∙ ap (λ d. min (10 * c.loop-byte.value + d) most_read) c.from.ensures in
    (read ∙ value ∙ ap cut_uint (sym (value_more digits i within)), digits_more digits i within c.loop-byte.invariant.1 here)

use Rattle.std.proofs.Common.{rules, length, min, ◌+◌, ◌-◌, ◌*◌, ◌<◌, take, get_or, sym, ap, ◌∙◌, arith}
use Rattle.number_text.specs.Numbers.{IsDigit, value_after, most_wide}
use Rattle.number_text.proofs.Digits.{digits_more}
use Rattle.number_text.proofs.WideDigits.{cut_wide-more, value_more-from}
use Rattle.number_text.proofs.wide.more_digits.Goals as goal

pub loop-at-preserved : goal.loop-at-preserved
loop-at-preserved c =
    let digits = c.args.text.now in
    let i = c.loop-at.at in
    let within : i < length digits = omega arith in
    let here : IsDigit (get_or digits i 0) = search rules in
    let value = cut_wide-more c.loop-at.value (value_after c.args.before (take i digits)) (get_or digits i 0 - 48) c.loop-at.invariant.0 in
    let read = c.min-value.ensures ∙ ap (λ d. min (10 * c.loop-at.value + d) most_wide) c.from.ensures in
    (read ∙ value ∙ ap (λ n. min n most_wide) (sym (value_more-from c.args.before digits i within)), digits_more digits i within c.loop-at.invariant.1 here)

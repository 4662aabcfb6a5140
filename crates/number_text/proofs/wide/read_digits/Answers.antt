use Rattle.std.proofs.Common.{rules, length, ◌<◌, get_or, ◌∙◌, subst, arith}
use Rattle.std.proofs.lemmas.List.{take_rest}
use Rattle.number_text.specs.Numbers.{IsDigit}
use Rattle.number_text.specs.Private.{BeginsWithDigits}
use Rattle.number_text.proofs.Digits.{value_more, digits_more}
use Rattle.number_text.proofs.WideDigits.{digits_joined}
use Rattle.number_text.proofs.wide.read_digits.Goals as goal

pub returns-then-value-ge-MOST_SHORT : goal.returns-then-value-ge-MOST_SHORT
returns-then-value-ge-MOST_SHORT c =
    let text = c.args.text.now in
    let i = c.loop-at.at in
    let read = c.more_digits.ensures in
    let rest = c.more_digits.result.1.now in
    let behind = subst (λ xs. BeginsWithDigits xs read.0 rest) (take_rest text i) read.1 in
    digits_joined text read.0 rest i c.from.result c.more_digits.result.0 c.loop-at.invariant.1 (c.from.ensures ∙ c.loop-at.invariant.0) behind read.2

pub loop-at-preserved : goal.loop-at-preserved
loop-at-preserved c =
    let digits = c.args.text.now in
    let i = c.loop-at.at in
    let within : i < length digits = omega arith in
    let here : IsDigit (get_or digits i 0) = search rules in
    let more = value_more digits i within in
    (omega (arith, more, c.from-in-loop-at.ensures, c.loop-at.invariant.0), digits_more digits i within c.loop-at.invariant.1 here)

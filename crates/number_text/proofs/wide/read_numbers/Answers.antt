use Rattle.std.proofs.Common.{◌≡◌, ◌++◌, List, ℤ, length, map, IfSome, sym, ◌∙◌, subst, arith}
use Rattle.number_text.specs.Numbers.{numbers_text, cut_wide}
use Rattle.number_text.proofs.WideRows.{reads_next, no_row, row_read, kept_wide}
use Rattle.number_text.proofs.wide.read_numbers.Goals as goal

pub returns-in_err-value-clause-none : goal.returns-in_err-value-clause-none
returns-in_err-value-clause-none c =
    let lengths : length c.loop-number.numbers ≡ length c.args.numbers.now = omega arith in
    let none = no_row c.args.text.now c.loop-number.rest.now c.loop-number.numbers c.loop-number.number-index (omega arith) c.loop-number.invariant c.in_err-value.ensures.none in
    rw c.from_residual.ensures (λ zs rest same whole. none zs rest (same ∙ sym lengths) whole)

pub loop-number-preserved : goal.loop-number-preserved
loop-number-preserved c =
    let some = c.in_ok-value.ensures.some in
    reads_next c.args.text.now c.loop-number.rest.now c.in_ok-value.more.now c.loop-number.numbers c.loop-number.number-index _ some.0 (omega arith) c.loop-number.invariant some.1 (kept_wide _ some.0 some.2)

pub returns-clause-some : goal.returns-clause-some
returns-clause-some c =
    let last : c.loop-number.number-index ≡ length c.loop-number.numbers = omega arith in
    let lengths : length c.loop-number.numbers ≡ length c.args.numbers.now = omega arith in
    let found = row_read c.args.text.now c.loop-number.rest.now c.loop-number.numbers c.loop-number.number-index last c.loop-number.invariant c.behind.result c.behind.ensures.some in
    subst (λ n. IfSome c.behind.result (λ back. (zs : List ℤ) × (length zs ≡ n) × (c.args.text.now ≡ numbers_text zs ++ back.now) × (c.loop-number.numbers ≡ map cut_wide zs))) (last ∙ lengths) found

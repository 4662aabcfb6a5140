use borrow.Author.Tests.{eqb-true, eqb-false, ltb-true}
use Rattle.std.proofs.Common.{◌≡◌, ◌+◌, ◌-◌, ◌<◌, length, get_or, length-append, sym, ap, ◌∙◌, arith}
use Rattle.number_text.specs.Numbers.{value_after}
use Rattle.number_text.proofs.WideDigits.{plain_of_digits, uint_read, no_uint-empty, no_uint-zero, first_of}
use Rattle.number_text.proofs.wide.next_uint.Goals as goal
use Rattle.number_text.proofs.wide.next_uint.Goals.{then-count-eq0-via-then-count-eq0, then-count-eq0-via-else-count-eq0+then-text-eq48, then-count-gt1, else-count-gt1}

pub returns-then-count-eq0-clause-none : goal.returns-then-count-eq0-clause-none
returns-then-count-eq0-clause-none c =
    let text = c.args.text.now in
    let rest = c.read_digits-value.result.1.now in
    let read = c.read_digits-value.ensures in
    let digits = read.0 in
    let begins = read.1 in
    let lengths : length text ≡ length digits + length rest = ap length begins.whole ∙ length-append digits rest in
    elim c.then-count-eq0.branch [
      | then-count-eq0-via-then-count-eq0 w ↦ no_uint-empty text digits rest begins (omega arith)
      | then-count-eq0-via-else-count-eq0+then-text-eq48 w ↦ elim w.if-count-gt1.branch [
        | then-count-gt1 w' ↦ no_uint-zero text digits rest begins (omega (arith, w'.if-count-gt1.true)) (eqb-true (get_or text 0 0) 48 (sym w'.value-is ∙ w.if-text-eq48.true))
        | else-count-gt1 w' ↦ absurd (let more = ltb-true 1 (length text - length rest) (sym w'.value-is ∙ w.if-text-eq48.true) in omega (arith, w'.if-count-gt1.false))
      ]
    ]

pub returns-clause-some : goal.returns-clause-some
returns-clause-some c =
    let text = c.args.text.now in
    let rest = c.read_digits-value.result.1.now in
    let read = c.read_digits-value.ensures in
    let digits = read.0 in
    let begins = read.1 in
    let lengths : length text ≡ length digits + length rest = ap length begins.whole ∙ length-append digits rest in
    let some : 0 < length digits = omega (arith, c.if-count-eq0.false) in
    let first : 1 < length digits → get_or digits 0 0 ≡ 48 → ⊥ =
    λ more zero. elim c.if-count-gt1.branch [
      | then-count-gt1 w ↦ eqb-false (get_or text 0 0) 48 (sym w.value-is ∙ c.if-text-eq48.false) (first_of text digits rest begins.whole some ∙ zero)
      | else-count-gt1 w ↦ omega (arith, w.if-count-gt1.false)
    ] in
    (value_after 0 digits, uint_read text digits rest begins (plain_of_digits digits begins.all some first), read.2)

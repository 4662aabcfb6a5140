use Rattle.std.proofs.Common.{◌≡◌, arith, subst, sym, ◌∙◌}
use Rattle.number_text.specs.Numbers.{IsUint}
use Rattle.number_text.proofs.Spelling.{uint_of_decimal}
use Rattle.fmm_program.proofs.WordForms.{is_decimal, spelled_by}
use Rattle.fmm_program.proofs.words.number_in.Goals as goal
use Rattle.fmm_program.proofs.words.number_in.Goals.{then-number-from-via-then-number-from, then-number-from-via-else-number-from+then-from-number}

pub returns-in_err-number-clause-none : goal.returns-in_err-number-clause-none
returns-in_err-number-clause-none c =
    let bytes = c.as_bytes.ensures.value in
    rw c.from_residual.ensures
    (λ n least most e. c.in_err-number.ensures.none n (subst (λ w. IsUint w n) (sym (bytes ∙ e)) (uint_of_decimal n (omega (arith, c.ranges.most.fits, most)))))

pub returns-then-number-from-clause-none : goal.returns-then-number-from-clause-none
returns-then-number-from-clause-none c n least most e =
    let read = c.in_ok-number.ensures.some in
    let same : read.0 ≡ n = spelled_by _ read.0 n read.1 (c.as_bytes.ensures.value ∙ e) (omega (arith, c.ranges.most.fits, most)) in
    elim c.then-number-from.branch [
      | then-number-from-via-then-number-from w ↦ absurd (omega (arith, same, least, most, read.2, c.ranges.most.fits, c.from.ensures, w.if-number-from.true))
      | then-number-from-via-else-number-from+then-from-number w ↦ absurd (omega (arith, same, least, most, read.2, c.ranges.most.fits, w.from-else-number-from.ensures, w.if-from-number.true))
    ]

pub returns-clause-some : goal.returns-clause-some
returns-clause-some c =
    let read = c.in_ok-number.ensures.some in
    let same : read.0 ≡ c.in_ok-number.number = omega (arith, read.2, c.ranges.most.fits, c.if-from-number.false, c.from-else-number-from.ensures) in (
      sym c.as_bytes.ensures.value ∙ is_decimal _ read.0 c.in_ok-number.number read.1 same (omega (arith, c.ranges.most.fits, c.if-from-number.false, c.from-else-number-from.ensures)),
      omega (arith, c.if-number-from.false, c.from.ensures),
      omega (arith, c.if-from-number.false, c.from-else-number-from.ensures),
    )

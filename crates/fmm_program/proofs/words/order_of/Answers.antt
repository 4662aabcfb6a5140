use Rattle.std.proofs.Common.{◌≡◌, arith, sym, ◌∙◌}
use Rattle.fmm_program.proofs.WordForms.{one_number, small_order}
use Rattle.fmm_program.proofs.words.order_of.Goals as goal

pub returns-in_default-clause-none : goal.returns-in_default-clause-none
returns-in_default-clause-none c n is e =
    let read = c.in_ok-number.ensures.some in
    let same : c.in_ok-number.number ≡ n = one_number _ n (omega (arith, read.2)) (small_order n is) (sym read.0 ∙ e) in
    absurd (grind arith)

use Rattle.std.proofs.Common.{◌≡◌, arith, sym, ◌∙◌}
use Rattle.fmm_program.proofs.WordForms.{one_number, small_order}
use Rattle.fmm_program.proofs.samples.sample_order_of.Goals as goal

pub returns-then-most_order-order-clause-none : goal.returns-then-most_order-order-clause-none
returns-then-most_order-order-clause-none c n is e =
    let read = c.in_ok-order.ensures.some in
    let same : c.in_ok-order.order ≡ n = one_number _ n (small_order _ read.1) (small_order n is.is_order) (sym read.0 ∙ e) in
    absurd (omega (arith, same, is.most, c.most_order.ensures, c.if-most_order-order.true))

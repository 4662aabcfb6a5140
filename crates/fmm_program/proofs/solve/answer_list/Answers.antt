use Rattle.std.proofs.Common.{◌≡◌, ◌∙◌, ap, arith}
use Rattle.limits.specs.Limits.{grid_of, most_order}
use Rattle.fmm_program.proofs.SolveRuns.{ends_at, order_ends}
use Rattle.fmm_program.proofs.solve.answer_list.Goals as goal

pub returns-then-most_order-order-clause-ends : goal.returns-then-most_order-order-clause-ends
returns-then-most_order-order-clause-ends g c input read =
    let most : c.most_order.result ≡ most_order (grid_of c.args.points.now.version) = c.most_order.ensures ∙ ap most_order c.grid_of.ensures in
    order_ends c.args.order c.args.cap input _ _ _ c.refuse.result c.args.points.now read (omega (arith, most, c.if-most_order-order.true)) c.refuse.ensures.ends

pub returns-in-4-clause-ends : goal.returns-in-4-clause-ends
returns-in-4-clause-ends g c input read = ends_at c.args.order c.args.cap input _ _ c.answer_points.result 4 c.in-4.is (c.answer_points.ensures.ends input read)

pub returns-in-8-clause-ends : goal.returns-in-8-clause-ends
returns-in-8-clause-ends g c input read = ends_at c.args.order c.args.cap input _ _ c.answer_points-in-8.result 8 c.in-8.is (c.answer_points-in-8.ensures.ends input read)

pub returns-in-16-clause-ends : goal.returns-in-16-clause-ends
returns-in-16-clause-ends g c input read = ends_at c.args.order c.args.cap input _ _ c.answer_points-in-16.result 16 c.in-16.is (c.answer_points-in-16.ensures.ends input read)

pub returns-in-24-clause-ends : goal.returns-in-24-clause-ends
returns-in-24-clause-ends g c input read = ends_at c.args.order c.args.cap input _ _ c.answer_points-in-24.result 24 c.in-24.is (c.answer_points-in-24.ensures.ends input read)

pub returns-in_default-clause-ends : goal.returns-in_default-clause-ends
returns-in_default-clause-ends g c input read =
    let last : c.args.order ≡ 32 = grind arith in
    ends_at c.args.order c.args.cap input _ _ c.answer_points-in_default.result 32 last (c.answer_points-in_default.ensures.ends input read)

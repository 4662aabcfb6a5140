use Rattle.std.proofs.Common.{◌≡◌, ◌+◌, ◌*◌, ◌%◌, ◌/◌, ◌^◌, ◌≤◌, ◌<◌, ◌∙◌, sym, ap, arith, subst, pos, ℕ, length}
use Rattle.std.proofs.lemmas.Int.{ints}
use Rattle.exact_math.specs.Binomials.{choose}
use Rattle.exact_math.specs.Orders.{IsOrder}
use Rattle.exact_math.proofs.Orders.{order_bounds}
use Rattle.kernel_table.specs.Table.{AreWays}
use Rattle.kernel_table.proofs.Chosen.{choose_small}
use Rattle.kernel_table.proofs.Norms.{wide, wide-is}
use Rattle.kernel_table.proofs.Places.{parts}
use Rattle.kernel_table.proofs.Pushed.{each_pushed}
use Rattle.kernel_table.proofs.table.all_ways.Goals as goal

small : (P i : ℕ) → IsOrder P → i < P * P → choose (i % P + i / P) (i % P) ≤ 2 ^ 62
small P i order h =
    let b = order_bounds P order in
    let q = parts P i (omega (arith, b.0)) h in
    choose_small (i % P + i / P) (i % P) (omega (arith, q.row, q.column, b.1))

pub overflow_cast-binomial : goal.overflow_cast-binomial
overflow_cast-binomial g c = let s = small g.row.P c.loop-i.i c.requires c.loop-i-test.true in omega (arith, ints, s, c.binomial.ensures)

pub loop-i-preserved : goal.loop-i-preserved
loop-i-preserved g c =
    let P = g.row.P in
    let at_i : length c.loop-i.ways.items ≡ c.loop-i.i = sym c.loop-i.ways.ok.0 ∙ c.loop-i.invariant.0 in
    let s = small P c.loop-i.i c.requires c.loop-i-test.true in
    let cast : wide (pos c.binomial.result) ≡ pos c.binomial.result = wide-is _ (omega (arith, ints)) (omega (arith, ints, s, c.binomial.ensures)) in (
      omega (arith, c.loop-i.invariant.0, c.in_ok-push.ensures.len),
      subst (AreWays P) (sym c.in_ok-push.ensures.items) (each_pushed (λ i w. w ≡ pos (choose (i % P + i / P) (i % P))) c.loop-i.ways.items (wide (pos c.binomial.result)) c.loop-i.invariant.1
          (cast ∙ ap pos c.binomial.ensures ∙ ap (λ i. pos (choose (i % P + i / P) (i % P))) (sym at_i))),
    )

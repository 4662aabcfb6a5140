use Rattle.std.proofs.Common.{◌≡◌, ◌*◌, ◌≤◌, ℕ, subst, arith, vec_len}
use borrow.Author.Count.{falls}
use Rattle.kernel_table.proofs.OrderSizes.{order_sizes}
use Rattle.kernel_table.proofs.table.all_entries.Goals as goal

pub overflow_mul-with_capacity : goal.overflow_mul-with_capacity
overflow_mul-with_capacity g c = (order_sizes g.row.P c.requires).square_fits

pub overflow_mul-with_capacity-2 : goal.overflow_mul-with_capacity-2
overflow_mul-with_capacity-2 g c = (order_sizes g.row.P c.requires).all_fit

pub loop-index-smaller : goal.loop-index-smaller
loop-index-smaller g c = falls 40 c.loop-index.index c.loop-index-test.true

pub loop-index-preserved : goal.loop-index-preserved
loop-index-preserved g c = (c.in_ok-push_distance.ensures.len, c.in_ok-push_distance.ensures.table)

at_all : (n i s : ℕ) → n ≡ i * s → 40 ≤ i → i ≤ 40 → n ≡ 40 * s
at_all n i s e h k = let whole : i ≡ 40 = omega arith in subst (λ m. n ≡ m * s) whole e

pub returns-clause-len : goal.returns-clause-len
returns-clause-len g c = at_all (vec_len c.loop-index.entries) c.loop-index.index (g.row.P * g.row.P) c.loop-index.invariant.0 c.loop-index-test.false c.loop-index.auto.index-end

pub returns-clause-table : goal.returns-clause-table
returns-clause-table g c = c.loop-index.invariant.1

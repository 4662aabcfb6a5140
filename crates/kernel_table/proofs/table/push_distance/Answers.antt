use Rattle.std.proofs.Common.{◌≡◌, ◌+◌, ◌-◌, ◌*◌, ◌%◌, ◌/◌, ◌^◌, ◌<◌, ◌≤ℤ◌, ◌∙◌, sym, ap, subst, arith, pos, ℕ, length, slice_index_or, vec_len}
use Rattle.std.proofs.lemmas.Int.{ints}
use Rattle.exact_math.specs.Binomials.{choose}
use Rattle.exact_math.specs.Ends.{BoxEndsWithin}
use Rattle.complex_box.specs.Box.{box_ends}
use Rattle.kernel_table.specs.Kernel.{IsKernelDistance, kernel_power, kernel_entry}
use Rattle.kernel_table.specs.Table.{distance_at, IsKernelTable}
use borrow.Author.Count.{falls}
use Rattle.kernel_table.proofs.Chosen.{choose_small}
use Rattle.kernel_table.proofs.Lookups.{entry-from, next_entry}
use Rattle.kernel_table.proofs.Norms.{wide, wide-is}
use Rattle.kernel_table.proofs.OrderSizes.{order_sizes, sum, offset_fits, next_count}
use Rattle.kernel_table.proofs.Pushed.{each_pushed}
use Rattle.kernel_table.proofs.Sizes.{power-fits}
use Rattle.kernel_table.proofs.table.push_distance.Given.{Over}
use Rattle.kernel_table.proofs.table.push_distance.Goals as goal
use Rattle.kernel_table.proofs.table.push_distance.Goals.{After-index}

listed : (P k n : ℕ) → k < 2 * P - 1 → n ≡ 2 * P - 1 → k < n
listed P k n h e = omega arith

at_start : (n s : ℕ) → n ≡ s → n ≡ s + 0
at_start n s e = omega arith

not_negative : (n : ℕ) → pos 0 ≤ℤ pos n
not_negative n = omega (arith, ints)

within : (i s n : ℕ) → i < s → n ≡ s → i < n
within i s n h e = omega arith

-- the power and the binomial that the entry is made of
record Made (g : Over) (c : After-index g) : Type 0 where
  distance : IsKernelDistance (distance_at c.args.index)
  power : box_ends c.index.result.now ≡ kernel_power (distance_at c.args.index) (c.loop-i.i % g.row.P + c.loop-i.i / g.row.P)
  ways : wide (slice_index_or c.args.ways.now c.loop-i.i (pos 0)) ≡ pos (choose (c.loop-i.i % g.row.P + c.loop-i.i / g.row.P) (c.loop-i.i % g.row.P))

made : (g : Over) (c : After-index g) → Made g c
made g c =
    let P = g.row.P in
    let i = c.loop-i.i in
    let s = sum P i c.requires.order c.loop-i-test.true in
    let in_list : i % P + i / P < length c.in_ok-powers.powers.items = omega (arith, s.power, c.in_ok-powers.powers.ok.0, c.in_ok-powers.ensures.len) in
    let counted : slice_index_or c.args.ways.now i (pos 0) ≡ pos (choose (i % P + i / P) (i % P)) = c.requires.ways i (pos 0) (omega (arith, c.requires.counts, c.loop-i-test.true)) in
    let few = choose_small (i % P + i / P) (i % P) s.small in
    record {
      distance = subst IsKernelDistance c.distance.ensures.value c.distance.ensures.is_distance;
      power = ap box_ends c.index.ensures ∙ c.in_ok-powers.ensures.powers (i % P + i / P) _ in_list ∙ ap (λ e. kernel_power e (i % P + i / P)) c.distance.ensures.value;
      ways = ap wide counted ∙ wide-is _ (omega (arith, ints)) (omega (arith, ints, few));
    }

pub overflow_mul-first_powers : goal.overflow_mul-first_powers
overflow_mul-first_powers g c = (order_sizes g.row.P c.requires.order).twice_fits

pub overflow_sub-first_powers : goal.overflow_sub-first_powers
overflow_sub-first_powers g c = (order_sizes g.row.P c.requires.order).twice

pub first_powers-requires-clause-most : goal.first_powers-requires-clause-most
first_powers-requires-clause-most g c = (order_sizes g.row.P c.requires.order).most

pub overflow_mul-i-end : goal.overflow_mul-i-end
overflow_mul-i-end g c = (order_sizes g.row.P c.requires.order).square_fits

pub loop-i-init : goal.loop-i-init
loop-i-init g c = (at_start (vec_len c.args.entries.now) (c.args.index * (g.row.P * g.row.P)) c.requires.before, c.requires.table)

pub nonzero_rem-k : goal.nonzero_rem-k
nonzero_rem-k g c = (order_sizes g.row.P c.requires.order).positive

pub nonzero_div-l : goal.nonzero_div-l
nonzero_div-l g c = (order_sizes g.row.P c.requires.order).positive

pub index-requires : goal.index-requires
index-requires g c = listed g.row.P (c.loop-i.i % g.row.P + c.loop-i.i / g.row.P) (vec_len c.in_ok-powers.powers) (sum g.row.P c.loop-i.i c.requires.order c.loop-i-test.true).power c.in_ok-powers.ensures.len

pub offset_bounds-ways-i : goal.offset_bounds-ways-i
offset_bounds-ways-i g c = offset_fits g.row.P c.loop-i.i c.requires.order c.loop-i-test.true

pub bounds-ways-i : goal.bounds-ways-i
bounds-ways-i g c = within c.loop-i.i (g.row.P * g.row.P) (length c.args.ways.now) c.loop-i-test.true c.requires.counts

pub entry_of-requires-clause-orders : goal.entry_of-requires-clause-orders
entry_of-requires-clause-orders g c = (sum g.row.P c.loop-i.i c.requires.order c.loop-i-test.true).small

pub returns-clause-len : goal.returns-clause-len
returns-clause-len g c = next_count (vec_len c.loop-i.entries) c.args.index (g.row.P * g.row.P) c.loop-i.i c.loop-i.invariant.0 c.loop-i-test.false c.loop-i.auto.i-end

pub entry_of-requires-clause-size : goal.entry_of-requires-clause-size
entry_of-requires-clause-size g c =
    let m = made g (goal.at.entry_of-requires-clause-size g c).After-index in
    subst (BoxEndsWithin (2 ^ 60)) (sym m.power) (power-fits (distance_at c.args.index) m.distance _ (sum g.row.P c.loop-i.i c.requires.order c.loop-i-test.true).small)

pub entry_of-requires-clause-least : goal.entry_of-requires-clause-least
entry_of-requires-clause-least g c =
    let m = made g (goal.at.entry_of-requires-clause-least g c).After-index in
    subst (λ w. pos 0 ≤ℤ w) (sym m.ways) (not_negative (choose (c.loop-i.i % g.row.P + c.loop-i.i / g.row.P) (c.loop-i.i % g.row.P)))

pub entry_of-requires-clause-most : goal.entry_of-requires-clause-most
entry_of-requires-clause-most g c =
    let m = made g (goal.at.entry_of-requires-clause-most g c).After-index in
    let s = sum g.row.P c.loop-i.i c.requires.order c.loop-i-test.true in
    let few = choose_small (c.loop-i.i % g.row.P + c.loop-i.i / g.row.P) (c.loop-i.i % g.row.P) s.small in
    subst (λ w. w ≤ℤ pos (2 ^ 62)) (sym m.ways) (omega (arith, ints, few))

pub loop-i-smaller : goal.loop-i-smaller
loop-i-smaller g c = falls (g.row.P * g.row.P) c.loop-i.i c.loop-i-test.true

pub loop-i-preserved : goal.loop-i-preserved
loop-i-preserved g c =
    let P = g.row.P in
    let i = c.loop-i.i in
    let m = made g (goal.at.loop-i-preserved g c).After-index in
    let len : length c.loop-i.entries.items ≡ c.args.index * (P * P) + i = sym c.loop-i.entries.ok.0 ∙ c.loop-i.invariant.0 in (
      omega (arith, c.loop-i.invariant.0, c.in_ok-push.ensures.len),
      subst (IsKernelTable P) (sym c.in_ok-push.ensures.items)
          (each_pushed (λ j b. box_ends b ≡ kernel_entry (distance_at (j / P / P)) (j % P) (j / P % P)) c.loop-i.entries.items c.entry_of.result c.loop-i.invariant.1
          (next_entry P c.args.index i _ c.requires.order c.loop-i-test.true len (c.entry_of.ensures ∙ entry-from (distance_at c.args.index) (i % P) (i / P) _ _ m.power m.ways))),
    )

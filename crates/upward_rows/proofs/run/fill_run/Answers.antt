-- One place more.
use Rattle.std.proofs.Common.{◌+◌, ◌<◌, length, sym, subst, arith, below_more, get_or-set_same, get_or-set_other}
use Rattle.exact_math.proofs.Orders.{order_bounds}
use Rattle.limits.proofs.Grids.{within_widest}
use Rattle.field_basis.specs.MadePlaces.{IsMadeUp}
use Rattle.field_basis.specs.Place.{no_place}
use Rattle.upward_rows.proofs.run.fill_run.Goals as goal

pub overflow_add-first : goal.overflow_add-first
overflow_add-first g c =
    let few = c.requires.tree.is_tree.few in
    let most = (within_widest c.args.tree.now.grid c.requires.tree.is_tree.known_grid).cells in
    omega (arith, few, most, c.requires.run, c.loop-k-test.true)

pub make_counted-requires : goal.make_counted-requires
make_counted-requires g c =
    let few = order_bounds g.row.P c.requires.order in
    let n = c.args.first + c.loop-k.k in
    let before : n < c.args.first + length c.args.run.now = omega (arith, c.loop-k-test.true) in
    (omega (arith, few), (c.requires.order, (c.requires.tree, (omega (arith, before, c.requires.run), c.requires.behind n (omega arith) before))))

pub loop-k-preserved : goal.loop-k-preserved
loop-k-preserved g c =
    let P = g.row.P in
    let k = c.loop-k.k in
    let first = c.args.first in
    let run = c.loop-k.run in
    let place = c.make_counted.new.place in
    let inside : k < length run = omega (arith, c.loop-k-test.true, c.loop-k.auto.run) in
    below_more _ _
    (λ j early. subst (IsMadeUp P c.args.points.now c.args.tree.now (first + j)) (sym (get_or-set_other run k j place no_place (omega (arith, early)))) (c.loop-k.invariant j early))
    (subst (IsMadeUp P c.args.points.now c.args.tree.now (first + k)) (sym (get_or-set_same run k place no_place inside)) c.make_counted.ensures)

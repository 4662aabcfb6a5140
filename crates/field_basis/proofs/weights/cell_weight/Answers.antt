-- One member more.
use Rattle.std.proofs.Common.{◌≡◌, ◌∙◌, ℕ, ◌<◌, pos, ap, sym, arith, List, length, get_or}
use Rattle.std.proofs.lemmas.Int.{ints}
use Rattle.std.proofs.lemmas.List.{take_all}
use Rattle.std.proofs.lemmas.List.Sums.{sum_by_more}
use Rattle.std.specs.Prelude.{sum_by}
use Rattle.points.proofs.Ranges.{range_in_widest}
use Rattle.points.proofs.Slices.{first_point}
use Rattle.quadtree.specs.TreeModel.{square_of, node_of}
use Rattle.field_basis.proofs.CellWeights.{weighs_at, position_inside, members_weigh, members_light, cell_light, all_light, light_fits, light_sum}
use Rattle.field_basis.proofs.weights.cell_weight.Goals as goal

inside : (c : goal.After-weight-total) → c.loop-k.k-index < length (node_of c.args.tree.now c.args.n).members
inside c = omega (arith, ap length c.members-k-items.ensures, c.loop-k-test.true)

pub bounds-points-k : goal.bounds-points-k
bounds-points-k c =
    let e = c.members-k-items.ensures in
    let i = c.loop-k.k-index in
    let inside : i < length (node_of c.args.tree.now c.args.n).members = omega (arith, ap length e, c.loop-k-test.true) in
    let h = position_inside c.args.points.now c.args.tree.now c.requires.tree c.args.n c.requires.cell i inside in
    omega (arith, ap (λ (l : List ℕ). get_or l i 0) e, h)

pub weight-total-requires-clause-range : goal.weight-total-requires-clause-range
weight-total-requires-clause-range c =
    let p = get_or c.args.points.now (get_or c.members-k-items.result.now c.loop-k.k-index 0) first_point in
    range_in_widest c.args.tree.now.grid p c.requires.tree.is_tree.known_grid (c.requires.tree.within.range _ first_point (bounds-points-k c))

-- the next member's weight
next : (c : goal.After-weight-total) → c.weight-total.result ≡ pos (weighs_at c.args.order c.args.points.now (get_or (node_of c.args.tree.now c.args.n).members c.loop-k.k-index 0))
next c =
    c.weight-total.ensures
    ∙ ap (λ (l : List ℕ). pos (weighs_at c.args.order c.args.points.now (get_or l c.loop-k.k-index 0))) c.members-k-items.ensures

pub overflow_add-total : goal.overflow_add-total
overflow_add-total c = light_fits _ _ _ _ c.loop-k.invariant (next c) (members_light c.args.points.now c.args.tree.now c.requires.tree c.args.n c.requires.cell c.args.order c.loop-k.k-index c.requires.most (inside c))

pub loop-k-preserved : goal.loop-k-preserved
loop-k-preserved c =
    light_sum _ _ _ _ c.loop-k.invariant (next c) (members_light c.args.points.now c.args.tree.now c.requires.tree c.args.n c.requires.cell c.args.order c.loop-k.k-index c.requires.most (inside c))
    ∙ ap pos (sym (sum_by_more (weighs_at c.args.order c.args.points.now) (node_of c.args.tree.now c.args.n).members c.loop-k.k-index 0 (inside c)))

pub returns-clause-weight : goal.returns-clause-weight
returns-clause-weight c =
    let members = (node_of c.args.tree.now c.args.n).members in
    c.loop-k.invariant
    ∙ ap (λ l. pos (sum_by (weighs_at c.args.order c.args.points.now) l)) (take_all c.loop-k.k-index members (omega (arith, ap length c.members-k-items.ensures, c.loop-k-test.false)))
    ∙ ap pos (members_weigh c.args.points.now c.args.tree.now c.requires.tree c.args.n c.requires.cell c.args.order)

pub returns-clause-size : goal.returns-clause-size
returns-clause-size c =
    let e = returns-clause-weight c in
    let light = cell_light c.args.points.now c.args.order (square_of c.args.tree.now c.args.n) c.requires.most in
    let limit = all_light c.args.points.now c.args.tree.now c.requires.tree c.args.n c.requires.cell in
    record { least = omega (arith, ints, e); most = omega (arith, ints, e, light, limit) }

use Rattle.std.proofs.Common.{◌≡◌, ◌+◌, ◌<◌, inl, inr, ◌⊎◌, false, ap, ◌∙◌, subst, sym, arith, lit<}
use Rattle.std.proofs.lemmas.Int.{ints}
use Rattle.exact_math.proofs.Orders.{order_bounds}
use Rattle.local_shift.proofs.Sums.{nothing_at}
use Rattle.quadtree.specs.TreeModel.{node_of}
use Rattle.row_recursions.specs.Rows.{row_of}
use Rattle.field_basis.specs.Basis.{IsBasis}
use Rattle.downward_rows.specs.Entries.{row_below}
use Rattle.downward_rows.specs.Radii.{v_losses_of, x_losses_of}
use Rattle.downward_rows.proofs.MadePlaces.{parent_read, parent_small, radius_light, radius_read, place_made, place_empty, nothing_translated}
use Rattle.downward_rows.proofs.fill.make_place.Goals.{then-n-eq0-via-then-n-eq0, then-n-eq0-via-else-n-eq0+then-not-has_target}
use Rattle.downward_rows.proofs.fill.make_place.Goals as goal

pub returns-then-n-eq0-clause-local : goal.returns-then-n-eq0-clause-local
returns-then-n-eq0-clause-local g c =
    let b = c.args.basis.now in
    let s : IsBasis g.row.P b = subst (IsBasis g.row.P) c.basis.view_is c.basis.invariant in
    let out : (c.args.n ≡ 0) ⊎ ((node_of b.tree c.args.n).has_target ≡ false) = elim c.then-n-eq0.branch [
      | then-n-eq0-via-then-n-eq0 w ↦ inl w.if-n-eq0.true
      | then-n-eq0-via-else-n-eq0+then-not-has_target w ↦ inr (sym (w.has_target.ensures ∙ ap (λ b. (node_of b.tree c.args.n).has_target) c.basis.view_is) ∙ w.if-not-has_target.true)
    ] in
    place_empty g.row.P b s c.args.n c.requires.cell out c.set_radius.new.self
    (λ k h. ap (λ r. row_of r k) c.set_radius.ensures.row ∙ nothing_at g.row.P c.clear.new.cells (c.clear.auto.cells ∙ c.row_mut.ensures.len) c.clear.ensures k h)
    (omega (arith, ints, c.set_radius.ensures.radius))

pub returns-then-n-eq0-clause-work : goal.returns-then-n-eq0-clause-work
returns-then-n-eq0-clause-work g c =
    let b = c.args.basis.now in
    let s : IsBasis g.row.P b = subst (IsBasis g.row.P) c.basis.view_is c.basis.invariant in
    let out : (c.args.n ≡ 0) ⊎ ((node_of b.tree c.args.n).has_target ≡ false) = elim c.then-n-eq0.branch [
      | then-n-eq0-via-then-n-eq0 w ↦ inl w.if-n-eq0.true
      | then-n-eq0-via-else-n-eq0+then-not-has_target w ↦ inr (sym (w.has_target.ensures ∙ ap (λ b. (node_of b.tree c.args.n).has_target) c.basis.view_is) ∙ w.if-not-has_target.true)
    ] in
    nothing_translated g.row.P b s c.args.n c.requires.cell out c.args.work.now

pub make_row-requires : goal.make_row-requires
make_row-requires g c =
    let b = c.args.basis.now in
    let s : IsBasis g.row.P b = subst (IsBasis g.row.P) c.basis.view_is c.basis.invariant in
    let lo : 0 < c.args.n = omega arith in
    let p_is = c.parent.ensures ∙ ap (λ b. (node_of b.tree c.args.n).parent) c.basis.view_is in
    let few = order_bounds g.row.P s.order in
    let small = parent_small g.row.P b s c.args.n c.requires.cell lo c.args.above.now c.parent.result p_is c.index-above-parent.result c.index-above-parent.is (c.requires.parent lo) c.row.result.cells.now c.row.ensures in
    (lit< tt, (omega (arith, few), (lit< tt, (c.requires.cell, (lo, (c.requires.rows, (small, (c.row_mut-2.ensures.len, c.requires.room))))))))

pub set_radius-requires-2 : goal.set_radius-requires-2
set_radius-requires-2 g c =
    let b = c.args.basis.now in
    let s : IsBasis g.row.P b = subst (IsBasis g.row.P) c.basis.view_is c.basis.invariant in
    let lo : 0 < c.args.n = omega arith in
    let p_is = c.parent.ensures ∙ ap (λ b. (node_of b.tree c.args.n).parent) c.basis.view_is in
    let has = sym (c.has_target.ensures ∙ ap (λ b. (node_of b.tree c.args.n).has_target) c.basis.view_is) ∙ c.if-not-has_target.false in
    let above = c.index-above-parent.result in
    let parent = parent_read g.row.P b s c.args.n c.requires.cell lo c.args.above.now c.parent.result p_is above c.index-above-parent.is (c.requires.parent lo) in
    let light = radius_light g.row.P b s c.args.n c.requires.cell lo has above parent in
    let e = radius_read above.radius (v_losses_of g.row.P b c.args.n + x_losses_of g.row.P b c.args.n) c.radius.result c.local_radius.result c.radius.ensures.radius light c.local_radius.ensures in
    let few = order_bounds g.row.P s.order in
    (omega (arith, few), (omega (arith, ints, e), omega (arith, ints, e, light)))

pub returns-clause-local : goal.returns-clause-local
returns-clause-local g c =
    let b = c.args.basis.now in
    let s : IsBasis g.row.P b = subst (IsBasis g.row.P) c.basis.view_is c.basis.invariant in
    let lo : 0 < c.args.n = omega arith in
    let p_is = c.parent.ensures ∙ ap (λ b. (node_of b.tree c.args.n).parent) c.basis.view_is in
    let has = sym (c.has_target.ensures ∙ ap (λ b. (node_of b.tree c.args.n).has_target) c.basis.view_is) ∙ c.if-not-has_target.false in
    let above = c.index-above-parent.result in
    let parent = parent_read g.row.P b s c.args.n c.requires.cell lo c.args.above.now c.parent.result p_is above c.index-above-parent.is (c.requires.parent lo) in
    let light = radius_light g.row.P b s c.args.n c.requires.cell lo has above parent in
    let e = radius_read above.radius (v_losses_of g.row.P b c.args.n + x_losses_of g.row.P b c.args.n) c.radius.result c.local_radius.result c.radius.ensures.radius light c.local_radius.ensures in
    place_made g.row.P b s c.args.n c.requires.cell lo has above parent c.set_radius-2.new.self
    (λ k h. ap (λ r. row_of r k) c.set_radius-2.ensures.row ∙ c.make_row.ensures.row k h ∙ ap (λ r. row_below g.row.P b c.args.n (row_of r) k) c.row.ensures)
    (omega (arith, ints, c.set_radius-2.ensures.radius ∙ e))

pub row_mut-requires : goal.row_mut-requires
row_mut-requires g c =
    let s : IsBasis g.row.P c.args.basis.now = subst (IsBasis g.row.P) c.basis.view_is c.basis.invariant in
    let few = order_bounds g.row.P s.order in
    omega (arith, few)

pub row-requires : goal.row-requires
row-requires g c =
    let s : IsBasis g.row.P c.args.basis.now = subst (IsBasis g.row.P) c.basis.view_is c.basis.invariant in
    let few = order_bounds g.row.P s.order in
    (omega (arith, few), lit< tt)

pub row_mut-requires-2 : goal.row_mut-requires-2
row_mut-requires-2 g c =
    let s : IsBasis g.row.P c.args.basis.now = subst (IsBasis g.row.P) c.basis.view_is c.basis.invariant in
    let few = order_bounds g.row.P s.order in
    omega (arith, few)

pub radius-requires : goal.radius-requires
radius-requires g c =
    let s : IsBasis g.row.P c.args.basis.now = subst (IsBasis g.row.P) c.basis.view_is c.basis.invariant in
    let few = order_bounds g.row.P s.order in
    omega (arith, few)

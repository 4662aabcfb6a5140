-- The tree is that of the points.
use Rattle.std.proofs.Common.{ℕ, List, ◌<◌, ◌≤◌, ◌+◌, length, sym, subst, arith}
use Rattle.exact_math.proofs.Orders.{order_bounds}
use Rattle.field_basis.proofs.Trees.{tree_of_basis}
use Rattle.field_basis.specs.Basis.{BasisModel}
use Rattle.field_basis.specs.MadePlaces.{IsMadeUp}
use Rattle.field_basis.specs.Place.{place_at}
use Rattle.field_basis.specs.Trees.{IsTreeOfPoints}
use Rattle.points.specs.declared.Point.{Point}
use Rattle.tree_field.specs.Program.{source_children}
use Rattle.upward_rows.specs.Behind.{AreBehind}
use Rattle.row_phases.specs.UpRuns.{IsRunAbove}
use Rattle.row_phases.proofs.up.run_alone.Goals as goal

pub fill_run-requires : goal.fill_run-requires
fill_run-requires g c =
    let P = g.row.P in
    let behind = c.args.behind.now in
    let first = c.args.first in
    let count = length c.args.run.now in
    let here = c.basis.inside.tree in
    let few = order_bounds P c.basis.invariant.order in
    let read = sym c.deref.ensures.value in
    let tree = subst (λ (l : List Point). IsTreeOfPoints l here) read (tree_of_basis P _ c.basis.invariant) in
    let run = subst (λ (b : BasisModel). IsRunAbove P b behind first count) (sym c.basis.view_is) c.requires.run in
    let quarters = subst (λ (l : List Point). (n : ℕ) → first ≤ n → n < first + count → AreBehind P l here behind (source_children here n)) read run.quarters in
    (omega (arith, few), (c.basis.invariant.order, (tree, (run.in_range, quarters))))

pub returns : goal.returns
returns g c =
    let P = g.row.P in
    let first = c.args.first in
    let count = length c.args.run.now in
    let new = c.fill_run.new.run in
    subst (λ (b : BasisModel). (k : ℕ) → k < count → IsMadeUp P b.points b.tree (first + k) (place_at new k)) c.basis.view_is
    (subst (λ (l : List Point). (k : ℕ) → k < count → IsMadeUp P l c.basis.inside.tree (first + k) (place_at new k)) c.deref.ensures.value c.fill_run.ensures.made)

-- There are few targets.
use Rattle.std.proofs.Common.{◌≤◌, ap, subst, arith, length}
use Rattle.std.proofs.Math.Nat.{div-le_self}
use Rattle.field_basis.proofs.Positions.{few_positions}
use Rattle.field_basis.specs.Basis.{IsBasis}
use Rattle.limits.proofs.Grids.{within_widest}
use Rattle.limits.specs.Limits.{most_points, widest_grid}
use Rattle.row_phases.proofs.targets.piece_at.Goals as goal

pub overflow_cast-result : goal.overflow_cast-result
overflow_cast-result g c =
    let b = c.args.basis.now in
    let is : IsBasis g.row.P b = subst (IsBasis g.row.P) c.basis.view_is c.basis.invariant in
    let points : length b.points ≤ most_points widest_grid = omega (arith, is.within.count, (within_widest b.tree.grid is.is_tree.known_grid).points) in
    let targets : length b.targets ≤ most_points widest_grid = omega (arith, ap length is.targets_are, few_positions b.points, points) in
    omega (arith, div-le_self c.args.start c.args.count, c.requires.start, targets)

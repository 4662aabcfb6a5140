use Rattle.std.proofs.Common.{arith}
use Rattle.limits.proofs.Grids.{version_has_grid, within_widest}
use Rattle.limits.specs.Limits.{grid_of}
use Rattle.certificate_rows.proofs.radius.entries_loss.Goals as goal

pub entry_loss-sum-requires-clause-weight : goal.entry_loss-sum-requires-clause-weight
entry_loss-sum-requires-clause-weight g c =
    let version = c.args.given.now.points.version in
    omega (arith, c.weight.ensures.light, (within_widest (grid_of version) (version_has_grid version)).weight)

use Rattle.limits.proofs.limits_by_version.Goals as goal
use Rattle.limits.proofs.Grids.{version_has_grid, within_widest, in_widest}

pub returns-clause-grid : goal.returns-clause-grid
returns-clause-grid c = version_has_grid

pub returns-clause-most : goal.returns-clause-most
returns-clause-most c = within_widest

pub returns-clause-nested : goal.returns-clause-nested
returns-clause-nested c = in_widest

use Rattle.std.proofs.Common.{◌∙◌}
use Rattle.row_recursions.proofs.Turns.{doubled_is}
use Rattle.row_recursions.proofs.quadrants.doubled.Goals as goal

pub returns : goal.returns
returns c = c.add.ensures.ends ∙ doubled_is c.args.b

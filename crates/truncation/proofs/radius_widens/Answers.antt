use Rattle.truncation.proofs.Counting.{radius_widens as holds}
use Rattle.truncation.proofs.radius_widens.Goals as goal

pub returns : goal.returns
returns c = holds

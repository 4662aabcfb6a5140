use Rattle.truncation.proofs.SourceBounds.{single_truncation as holds}
use Rattle.truncation.proofs.single_truncation.Goals as goal

pub returns : goal.returns
returns c = record { bound = holds }

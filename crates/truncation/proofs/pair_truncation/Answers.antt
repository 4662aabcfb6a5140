use Rattle.truncation.proofs.SourceBounds.{pair_truncation as holds}
use Rattle.truncation.proofs.pair_truncation.Goals as goal

pub returns : goal.returns
returns c = record { bound = holds }

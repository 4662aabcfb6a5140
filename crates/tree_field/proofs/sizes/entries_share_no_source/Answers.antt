use Rattle.tree_field.proofs.Disjoint.{entries_share_no_source}
use Rattle.tree_field.proofs.sizes.entries_share_no_source.Goals as goal

pub returns : goal.returns
returns c = entries_share_no_source

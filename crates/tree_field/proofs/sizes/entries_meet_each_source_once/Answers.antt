use Rattle.tree_field.proofs.PathSources.{each_source_once}
use Rattle.tree_field.proofs.sizes.entries_meet_each_source_once.Goals as goal

pub returns : goal.returns
returns c = each_source_once

use Rattle.tree_field.proofs.LocalContents.{local_rows_held}
use Rattle.tree_field.proofs.contents.local_rows_hold.Goals as goal

pub returns : goal.returns
returns c = record { field = local_rows_held }

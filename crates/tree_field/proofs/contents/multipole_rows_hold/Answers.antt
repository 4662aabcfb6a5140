use Rattle.tree_field.proofs.MultipoleContents.{multipole_rows_held}
use Rattle.tree_field.proofs.contents.multipole_rows_hold.Goals as goal

pub returns : goal.returns
returns c = record { moments = multipole_rows_held }

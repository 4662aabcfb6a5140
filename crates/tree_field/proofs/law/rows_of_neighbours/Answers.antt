use Rattle.tree_field.proofs.LocalRows.{local_row-root, local_row-below, local_radius-root, local_radius-below}
use Rattle.tree_field.proofs.MultipoleRows.{multipole_row-leaf, multipole_row-split}
use Rattle.tree_field.proofs.law.rows_of_neighbours.Goals as goal

pub returns : goal.returns
returns c = record { leaf = multipole_row-leaf; inner = multipole_row-split; root = local_row-root; local = local_row-below; root_radius = local_radius-root; radius = local_radius-below }

use Rattle.tree_field.proofs.ValueContents.{local_values_held, multipole_values_held, multipole_sums_held}
use Rattle.tree_field.proofs.contents.values_hold.Goals as goal

pub returns : goal.returns
returns c = record { local = local_values_held; multipole = multipole_values_held; sum = multipole_sums_held }

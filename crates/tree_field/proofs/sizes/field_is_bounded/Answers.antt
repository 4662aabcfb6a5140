use Rattle.tree_field.proofs.Bounds.{rows_within, radii_within, boxes_within}
use Rattle.tree_field.proofs.CellWeights.{weight_sizes}
use Rattle.tree_field.proofs.sizes.field_is_bounded.Goals as goal

pub returns : goal.returns
returns c = record { weights = weight_sizes; rows = rows_within; radii = radii_within; boxes = boxes_within }

-- The sizes of rows, radii and boxes, since no source lies in two entries.
use Rattle.std.specs.Prelude.{ℕ, ◌*◌, ◌^◌, ◌≤◌, List, sum_by}
use Rattle.cell_name.specs.Square.{Square, side}
use Rattle.letters.specs.declared.Letter.TheVariants.{W}
use Rattle.points.specs.Limits.{total_weight}
use Rattle.points.specs.declared.Point.{Point}
use Rattle.quadtree.specs.Tree.{IsTreeCell}
use Rattle.tree_field.specs.Field.{single_loss_in}
use Rattle.tree_field.specs.Lists.{TreeLists}
use Rattle.tree_field.specs.Sizes.{IsLimited, RowSizes, RadiusSizes, BoxSizes}
use Rattle.tree_field.proofs.BoxSizes.{box_sizes}
use Rattle.tree_field.proofs.Disjoint.{entries_share_no_source}
use Rattle.tree_field.proofs.LocalSizes.{row_sizes}
use Rattle.tree_field.proofs.Radii.{radius_sizes, multipoles_lose}

pub rows_within : RowSizes
rows_within = row_sizes entries_share_no_source

pub radii_within : RadiusSizes
radii_within = radius_sizes entries_share_no_source

pub boxes_within : BoxSizes
boxes_within = box_sizes entries_share_no_source

-- what the W entries of a cell can lose together
pub losses_within : (points : List Point) (cap P : ℕ) (lists : TreeLists) → P ≤ 32 → IsLimited points cap lists → (b : Square) → IsTreeCell lists.grid points cap b
    → sum_by (λ c. single_loss_in points P (side c) c) (lists.entries W b) ≤ 2 ^ 40 * total_weight points
losses_within = multipoles_lose entries_share_no_source

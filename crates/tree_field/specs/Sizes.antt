-- How large weights, rows, radii and boxes of the field are.
use Rattle.std.specs.Prelude.{ℕ, ◌*◌, ◌<◌, ◌≤◌, ◌^◌, List, All, sum_by}
use Rattle.exact_math.specs.Ends.{BoxEndsWithin}
use Rattle.exact_math.specs.Orders.{IsOrder}
use Rattle.cell_name.specs.Square.{Square}
use Rattle.letters.specs.declared.Letter.{Letter}
use Rattle.limits.specs.Limits.{IsGrid, most_weight, most_multipole, most_local, most_box}
use Rattle.points.specs.Limits.{total_weight}
use Rattle.points.specs.Points.{place}
use Rattle.points.specs.declared.Point.{Point}
use Rattle.quadtree.specs.Tree.{AreInGrid, IsTreeCell}
use Rattle.row_recursions.specs.Sizes.{RowWithin}
use Rattle.tree_field.specs.Field.{sources_in, targets, weight_in, multipole_row, local_row, local_radius, target_box}
use Rattle.tree_field.specs.Lists.{TreeLists, AreTreeLists}

-- what is summed over the sources of the entries of one cell and letter is at most the sum over all points
abbrev pub EntriesShareNoSource : Type 0
EntriesShareNoSource =
    (grid : ℕ) (points : List Point) (cap : ℕ) (lists : TreeLists) → 0 < grid → AreInGrid grid points → AreTreeLists grid points cap lists
    → (letter : Letter) (b : Square) → IsTreeCell grid points cap b → (w : Point → ℕ)
    → sum_by (λ c. sum_by w (sources_in points c)) (lists.entries letter b) ≤ sum_by w points

-- points in a grid that are not too heavy together for it, and the lists of their tree
pub record IsLimited (points : List Point) (cap : ℕ) (lists : TreeLists) : Type 0 where
  pub known_grid : IsGrid lists.grid
  pub in_grid : AreInGrid lists.grid points
  pub light : total_weight points ≤ most_weight lists.grid
  pub lists_are : AreTreeLists lists.grid points cap lists

-- the weight of a cell at an order
abbrev pub WeightSizes : Type 0
WeightSizes = (points : List Point) (P : ℕ) (c : Square) → P ≤ 32 → weight_in points P c ≤ total_weight points

-- the rows of a cell
pub record RowsWithin (points : List Point) (cap P : ℕ) (lists : TreeLists) (c : Square) : Type 0 where
  pub multipole : RowWithin P (most_multipole lists.grid) (multipole_row points cap c)
  pub local : RowWithin P (most_local lists.grid) (local_row points cap P lists c)

abbrev pub RowSizes : Type 0
RowSizes =
    (points : List Point) (cap P : ℕ) (lists : TreeLists) → IsOrder P → IsLimited points cap lists
    → (c : Square) → IsTreeCell lists.grid points cap c → RowsWithin points cap P lists c

-- the radius of a cell
abbrev pub RadiusSizes : Type 0
RadiusSizes =
    (points : List Point) (cap P : ℕ) (lists : TreeLists) → IsOrder P → IsLimited points cap lists → (c : Square)
    → IsTreeCell lists.grid points cap c → local_radius points cap P lists c ≤ 2 ^ 48 * most_weight lists.grid

-- the boxes of the targets
abbrev pub BoxSizes : Type 0
BoxSizes =
    (points : List Point) (cap P : ℕ) (lists : TreeLists) → IsOrder P → IsLimited points cap lists
    → All (λ t. BoxEndsWithin (most_box lists.grid) (target_box points cap P lists (place t))) (targets points)

-- The field row by row, each from its sources and from the rows next to it, and that lists of a tree are determined.
use Rattle.std.specs.Prelude.{ℕ, ◌≡◌, ◌+◌, ◌*◌, ◌<◌, ◌≤◌, ◌⊎◌, List, length, filter, sum_by}
use Rattle.exact_math.specs.Ends.{zero_box, add_box}
use Rattle.cell_name.specs.Square.{Square, side, parent}
use Rattle.letters.specs.declared.Letter.{Letter}
use Rattle.letters.specs.declared.Letter.TheVariants.{V, X}
use Rattle.points.specs.declared.Point.{Point}
use Rattle.cell_name.specs.Quarters.{quarters}
use Rattle.quadtree.specs.Tree.{AreInGrid, count_in, IsTreeCell, has_source}
use Rattle.row_recursions.specs.Rows.{shifted_up, shifted_down}
use Rattle.soundness.specs.Computed.{total_row}
use Rattle.soundness.specs.Squares.{quadrant}
use Rattle.soundness.specs.Steps.{radius_of, v_rows, x_rows}
use Rattle.tree_field.specs.Field.{leaf_row, multipole_row, local_row, weight_in, local_radius, sources_in}
use Rattle.tree_field.specs.Lists.{TreeLists, AreTreeLists}
use Rattle.tree_field.specs.Work.{translations}

-- of a cell with no more points than a leaf may have, or of the last level
abbrev pub LeafRows : Type 0
LeafRows =
    (points : List Point) (cap : ℕ) (c : Square) → (count_in points c ≤ cap) ⊎ (c.grid ≤ c.level)
    → (k : ℕ) → multipole_row points cap c k ≡ leaf_row points c k

-- of another cell: its quarters' that have a source, shifted up
abbrev pub InnerRows : Type 0
InnerRows = (points : List Point) (cap : ℕ) (c : Square) → c.level < c.grid → cap < count_in points c → (k : ℕ)
    → multipole_row points cap c k ≡ total_row (λ q. shifted_up (multipole_row points cap q) (quadrant q)) (filter (has_source points) (quarters c)) k

abbrev pub RootRows : Type 0
RootRows = (points : List Point) (cap P : ℕ) (lists : TreeLists) (b : Square) → b.level ≡ 0 → (k : ℕ) → local_row points cap P lists b k ≡ zero_box

-- below the root: the parent's brought down, and what the V and X entries bring
abbrev pub LocalRows : Type 0
LocalRows = (points : List Point) (cap P : ℕ) (lists : TreeLists) (b : Square) → 0 < b.level → (k : ℕ)
    → local_row points cap P lists b k ≡ add_box (shifted_down P (local_row points cap P lists (parent b)) (quadrant b) k)
    (add_box (v_rows (λ c. c) (multipole_row points cap) P b (lists.entries V b) k) (x_rows (λ p. p) (sources_in points) b (lists.entries X b) k))

abbrev pub RootRadius : Type 0
RootRadius = (points : List Point) (cap P : ℕ) (lists : TreeLists) (b : Square) → b.level ≡ 0 → local_radius points cap P lists b ≡ 0

abbrev pub Radii : Type 0
Radii = (points : List Point) (cap P : ℕ) (lists : TreeLists) (b : Square) → 0 < b.level
    → local_radius points cap P lists b
    ≡ radius_of P (weight_in points P) (side b) (local_radius points cap P lists (parent b)) (lists.entries V b) (lists.entries X b)

-- each list of points within a grid has a tree with its entries
abbrev pub EachListHasTree : Type 0
EachListHasTree = (grid : ℕ) (points : List Point) (cap : ℕ) → 0 < grid → AreInGrid grid points → (lists : TreeLists) × AreTreeLists grid points cap lists

-- lists of one tree have the same cells, and the same entries at each of them
abbrev pub OneTree : Type 0
OneTree = (grid : ℕ) (points : List Point) (cap : ℕ) (these others : TreeLists) → AreTreeLists grid points cap these → AreTreeLists grid points cap others
    → (these.cells ≡ others.cells) × ((letter : Letter) (b : Square) → IsTreeCell grid points cap b → these.entries letter b ≡ others.entries letter b)

-- the translations are at most the V entries and twice the cells
abbrev pub TranslationsAreFew : Type 0
TranslationsAreFew =
    (points : List Point) (lists : TreeLists) → translations points lists ≤ sum_by (λ b. length (lists.entries V b)) lists.cells + 2 * length lists.cells

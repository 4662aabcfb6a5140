-- The field over a tree of the program and its lists, by the numbers of its cells.
use Rattle.std.specs.Prelude.{ℕ, ◌≡◌, ◌+◌, ◌<◌, false, ◌&&◌, nat_lt, List, length, map, filter, sum_by, Some, slice_get, slice_index_or}
use Rattle.std.specs.List.{range_with_len, count_by}
use Rattle.cell_lists.specs.EntryLists.{lists_of, EntryListsModel}
use Rattle.cell_lists.specs.Lists.{AreLists}
use Rattle.cell_lists.specs.ListAt.{list_at}
use Rattle.letters.specs.declared.Letter.{Letter}
use Rattle.points.specs.Points.{is_source, place}
use Rattle.points.specs.declared.Point.{Point}
use Rattle.cell_name.specs.Quarters.{quarters}
use Rattle.quadtree.specs.Tree.{AreInGrid, has_target, has_source}
use Rattle.quadtree.specs.TreeModel.{TreeModel, squares, size, square_of, node_of, leaf_of, children_of, IsTreeOf}
use Rattle.tree_field.specs.Field.{sources_in, leaf_at}
use Rattle.tree_field.specs.Lists.{TreeLists, AreTreeLists}
use Rattle.tree_field.specs.Work.{pairs_between, translations, pairs}

-- the cells and the entries, from the program's lists of numbers
pub record AreListsOf (tree : TreeModel) (lists : EntryListsModel) (these : TreeLists) : Type 0 where
  pub cells : these.cells ≡ squares tree
  pub entries : (letter : Letter) (n : ℕ) → n < size tree → these.entries letter (square_of tree n) ≡ map (square_of tree) (list_at (lists_of lists letter) n)

abbrev pub ListsOfTree : Type 0
ListsOfTree =
    (tree : TreeModel) (lists : EntryListsModel) (points : List Point) (cap : ℕ) (these : TreeLists) → AreInGrid tree.grid points
    → IsTreeOf tree points cap → AreLists tree lists → AreTreeLists tree.grid points cap these
    → AreListsOf tree lists these

-- of some cells those that have a source
abbrev pub with_source : TreeModel → List ℕ → List ℕ
with_source tree cells = filter (λ m. (node_of tree m).has_source) cells

-- the numbers of the quarters of a cell that have a source
abbrev pub source_children : TreeModel → ℕ → List ℕ
source_children tree n = with_source tree (children_of tree n)

-- what the program keeps of a cell and of a point, in the words of the field
pub record IsNodeOfField (tree : TreeModel) (points : List Point) (n : ℕ) : Type 0 where
  pub source : (node_of tree n).has_source ≡ has_source points (square_of tree n)
  pub target : (node_of tree n).has_target ≡ has_target points (square_of tree n)
  pub members : (default : Point)
      → filter (λ p. is_source p.kind) (map (λ k. slice_index_or points k default) (node_of tree n).members) ≡ sources_in points (square_of tree n)
  pub children : (node_of tree n).is_leaf ≡ false → map (square_of tree) (source_children tree n) ≡ filter (has_source points) (quarters (square_of tree n))

abbrev pub NodesOfTree : Type 0
NodesOfTree =
    (tree : TreeModel) (points : List Point) (cap : ℕ) → AreInGrid tree.grid points
    → IsTreeOf tree points cap → (n : ℕ) → n < size tree → IsNodeOfField tree points n

-- the leaf of each point
abbrev pub LeavesOfTree : Type 0
LeavesOfTree =
    (tree : TreeModel) (points : List Point) (cap : ℕ) → AreInGrid tree.grid points
    → IsTreeOf tree points cap → (k : ℕ) (p : Point) → slice_get points k ≡ Some p
    → leaf_at points cap tree.grid (place p) ≡ square_of tree (leaf_of tree k)

-- the counts, by the numbers of the cells
pub record IsWorkOf (tree : TreeModel) (lists : EntryListsModel) (points : List Point) (these : TreeLists) : Type 0 where
  pub translations_are :
      translations points these
      ≡ count_by (λ n. nat_lt 0 n && (node_of tree n).has_source) (range_with_len 0 (size tree))
      + (sum_by (λ list. length list) lists.v + count_by (λ n. nat_lt 0 n && (node_of tree n).has_target) (range_with_len 0 (size tree)))
  pub pairs_are : pairs points these
      ≡ sum_by (λ n. sum_by (λ m. pairs_between points (square_of tree n) (square_of tree m)) (list_at lists.u n)) (range_with_len 0 (size tree))

abbrev pub WorkOfTree : Type 0
WorkOfTree =
    (tree : TreeModel) (lists : EntryListsModel) (points : List Point) (cap : ℕ) (these : TreeLists) → AreInGrid tree.grid points
    → IsTreeOf tree points cap → AreLists tree lists → AreTreeLists tree.grid points cap these
    → IsWorkOf tree lists points these

-- The four lists of a tree, by the numbers of its cells.
use Rattle.std.specs.Prelude.{ℕ, ◌≡◌, ◌<◌, ◌≤◌, ◌↔◌, List, length, All, Contains}
use Rattle.std.specs.List.Sorted.{IsStrictlyIncreasing}
use Rattle.points.specs.declared.Point.{Point}
use Rattle.quadtree.specs.TreeModel.{TreeModel, size, square_of}
use Rattle.letters.specs.declared.Letter.{Letter}
use Rattle.cell_lists.specs.EntryLists.{EntryListsModel, lists_of}
use Rattle.cell_lists.specs.Entries.{IsEntry, Accounts, IsTargetAndSource}
use Rattle.cell_lists.specs.Numbers.{OfEachList}
use Rattle.cell_lists.specs.ListAt.{list_at}

-- exactly the cells `c` of the entries of a letter and a cell `b`, ascending
pub record IsListOf (tree : TreeModel) (points : List Point) (cap : ℕ) (letter : Letter) (b : ℕ) (cells : List ℕ) : Type 0 where
  pub numbers : All (λ c. c < size tree) cells
  pub ascending : IsStrictlyIncreasing cells
  pub exact : (c : ℕ) → c < size tree → Contains cells c ↔ IsEntry tree.grid points cap letter (square_of tree b) (square_of tree c)

-- the lists of the first cells
pub record AreListsTo (tree : TreeModel) (lists : EntryListsModel) (count : ℕ) : Type 0 where
  pub as_many : (letter : Letter) → length (lists_of lists letter) ≡ count
  pub each : OfEachList tree (λ points cap. (letter : Letter) (b : ℕ) → b < count → IsListOf tree points cap letter b (list_at (lists_of lists letter) b))

-- the four lists of each cell of the tree
abbrev pub AreLists : TreeModel → EntryListsModel → Type 0
AreLists tree lists = AreListsTo tree lists (size tree)

-- exactly one entry of the lists accounts for a target and a source
pub record HasOneListed (tree : TreeModel) (lists : EntryListsModel) (target source : Point) : Type 0 where
  pub letter : Letter
  pub b : ℕ
  pub c : ℕ
  pub in_range : b < size tree
  pub listed : Contains (list_at (lists_of lists letter) b) c
  pub accounts : Accounts (square_of tree b) (square_of tree c) target source
  pub no_other : (letter' : Letter) (b' c' : ℕ) → b' < size tree → Contains (list_at (lists_of lists letter') b') c'
      → Accounts (square_of tree b') (square_of tree c') target source → (letter' ≡ letter) × (b' ≡ b) × (c' ≡ c)

-- each target and source of the list of points
abbrev pub EachPairHasOneListed : TreeModel → EntryListsModel → Type 0
EachPairHasOneListed tree lists =
    OfEachList tree (λ points cap. (target source : Point) → IsTargetAndSource points target source → HasOneListed tree lists target source)

-- no V list has more than 27 cells: the parent's colleagues have 36 quarters, and 9 of them touch
abbrev pub VListsAreShort : EntryListsModel → Type 0
VListsAreShort lists = All (λ cells. length cells ≤ 27) lists.v

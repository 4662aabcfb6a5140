-- The cells of the tree of a list of points, and the entries of each cell, as lists.
use Rattle.std.specs.Prelude.{ℕ, ◌≡◌, List}
use Rattle.cell_name.specs.Square.{Square}
use Rattle.cell_lists.specs.Entries.{IsEntry}
use Rattle.letters.specs.declared.Letter.{Letter}
use Rattle.points.specs.declared.Point.{Point}
use Rattle.quadtree.specs.Tree.{IsTreeCell, AreExactly}

-- the bits of the grid, cells, and for each letter and each cell b the cells c of its entries
pub record TreeLists : Type 0 where
  pub grid : ℕ
  pub cells : List Square
  pub entries : Letter → Square → List Square

-- the lists of the points with a leaf capacity, which determine them: the cells of the tree, and for each letter and cell b the cells c of its entries
pub record AreTreeLists (grid : ℕ) (points : List Point) (cap : ℕ) (lists : TreeLists) : Type 0 where
  pub of_grid : lists.grid ≡ grid
  pub cells_are : AreExactly (IsTreeCell grid points cap) lists.cells
  pub entries_are : (letter : Letter) (b : Square) → IsTreeCell grid points cap b → AreExactly (IsEntry grid points cap letter b) (lists.entries letter b)

-- a fact of the lists of the points with a leaf capacity, of which there is one by a law
abbrev pub OfTreeLists : ℕ → List Point → ℕ → (TreeLists → Type 0) → Type 0
OfTreeLists grid points cap P = (lists : TreeLists) → AreTreeLists grid points cap lists → P lists

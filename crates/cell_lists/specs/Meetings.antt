-- The cells that a walk met are enough for the lists of a cell. No public contract cites it.
use Rattle.std.specs.Prelude.{ℕ, ◌<◌, List, Contains}
use Rattle.quadtree.specs.TreeModel.{TreeModel, size, square_of}
use Rattle.letters.specs.declared.Letter.{Letter}
use Rattle.cell_lists.specs.Entries.{IsEntry}
use Rattle.cell_lists.specs.Numbers.{OfEachList}

-- each cell that is in a list of `b` was met
abbrev pub MeetsAll : TreeModel → ℕ → List ℕ → Type 0
MeetsAll tree b met =
    OfEachList tree (λ points cap.
    (letter : Letter) (c : ℕ) → c < size tree → IsEntry tree.grid points cap letter (square_of tree b) (square_of tree c) → Contains met c)

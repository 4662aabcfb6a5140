-- The letter of a pair of cells. No public contract cites it.
use Rattle.std.specs.Prelude.{ℕ, ◌≡◌, ◌↔◌, Bool, IsTrue, Option, Some}
use Rattle.cell_name.specs.Square.{Square, Touches}
use Rattle.letters.specs.declared.Letter.{Letter}
use Rattle.letters.specs.declared.Letter.TheVariants.{U, V, W, X}
use Rattle.quadtree.specs.TreeModel.{TreeModel, square_of}
use Rattle.cell_lists.specs.Entries.{ComeApartOnOneLevel, ComesApartBelow, IsEntry}
use Rattle.cell_lists.specs.Numbers.{OfEachList}

-- the condition of each letter, where it is known which of the two cells are leaves
abbrev pub MeetsLetter : Bool → Bool → Square → Square → Letter → Type 0
MeetsLetter b_is_leaf c_is_leaf b c U = IsTrue b_is_leaf × IsTrue c_is_leaf × Touches b c
MeetsLetter b_is_leaf c_is_leaf b c V = ComeApartOnOneLevel b c
MeetsLetter b_is_leaf c_is_leaf b c W = IsTrue b_is_leaf × ComesApartBelow b c
MeetsLetter b_is_leaf c_is_leaf b c X = IsTrue c_is_leaf × ComesApartBelow c b

-- the letter of the entry of two cells of the tree, or that they are none
abbrev pub IsLetterOf : TreeModel → ℕ → ℕ → Option Letter → Type 0
IsLetterOf tree b c answer =
    OfEachList tree (λ points cap. (letter : Letter) → (answer ≡ Some letter) ↔ IsEntry tree.grid points cap letter (square_of tree b) (square_of tree c))

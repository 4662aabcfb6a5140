-- The lists of a basis by numbers.
use Rattle.std.proofs.Common.{ℕ, ◌<◌, ◌≡◌, List, length, get_or, sym, subst, arith, map}
use Rattle.std.specs.Prelude.{All}
use Rattle.cell_lists.specs.EntryLists.{lists_of}
use Rattle.cell_lists.specs.Lists.{IsListOf}
use Rattle.cell_lists.specs.ListAt.{list_at}
use Rattle.letters.specs.declared.Letter.{Letter}
use Rattle.quadtree.proofs.Limits.{in_grid}
use Rattle.quadtree.specs.TreeModel.{size, square_of}
use Rattle.tree_field.proofs.Program.{lists_of_tree}
use Rattle.tree_field.specs.Lists.{TreeLists, AreTreeLists}
use Rattle.field_basis.specs.Basis.{BasisModel, IsBasis}

module _ (P : ℕ) (b : BasisModel) (is : IsBasis P b) (letter : Letter) (n : ℕ) (lt : n < size b.tree) where
  the_list : IsListOf b.tree b.points b.cap letter n (list_at (lists_of b.lists letter) n)
  the_list = is.lists_are.each b.points b.cap (in_grid b.tree.grid b.points is.within.range) is.is_tree letter n lt

  pub listed : n < length (lists_of b.lists letter)
  listed = omega (arith, lt, is.lists_are.as_many letter)

  -- a list, as it comes back from a call
  module _ (xs : List ℕ) (same : xs ≡ list_at (lists_of b.lists letter) n) where
    pub number_in : (i d : ℕ) → i < length xs → get_or xs i d < size b.tree
    number_in i d h = let Q : List ℕ → Type 0 = λ l. All (λ c. c < size b.tree) l in subst Q (sym same) the_list.numbers i d h

  -- the cells of the field's list
  pub entries_by_number : (lists : TreeLists) → AreTreeLists b.tree.grid b.points b.cap lists → lists.entries letter (square_of b.tree n) ≡ map (square_of b.tree) (list_at (lists_of b.lists letter) n)
  entries_by_number lists are = (lists_of_tree b.tree b.lists b.points b.cap lists (in_grid b.tree.grid b.points is.within.range) is.is_tree is.lists_are are).entries letter n lt

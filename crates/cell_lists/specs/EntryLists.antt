-- The four lists of each cell, as callers see them.
use Rattle.std.specs.Prelude.{ℕ, List}
use Rattle.letters.specs.declared.Letter.{Letter}
use Rattle.letters.specs.declared.Letter.TheVariants.{U, V, W, X}

-- For each letter a list for each cell `b`: the numbers of the cells `c` of its entries.
pub record EntryListsModel : Type 0 where
  pub u : List (List ℕ)
  pub v : List (List ℕ)
  pub w : List (List ℕ)
  pub x : List (List ℕ)

-- the lists of a letter, one for each cell
abbrev pub lists_of : EntryListsModel → Letter → List (List ℕ)
lists_of lists U = lists.u
lists_of lists V = lists.v
lists_of lists W = lists.w
lists_of lists X = lists.x

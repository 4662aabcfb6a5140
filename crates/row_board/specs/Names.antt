-- The names of the places of a board, and what each needs.
use Rattle.std.specs.Prelude.{◌<◌, ◌≡◌, Bool, true, false, cond, ◌==◌, List, [], ◌∷◌, ◌++◌, length, map, All, slice_index_or, Option, MatchOption}
use Rattle.cell_lists.specs.ListAt.{list_at}
use Rattle.field_basis.specs.Basis.{target_leaf}
use Rattle.quadtree.specs.TreeModel.{size, node_of}
use Rattle.tree_field.specs.Program.{source_children}
use Rattle.row_board.specs.declared.name.Name.{Name}
use Rattle.row_board.specs.declared.name.Name.TheVariants.{Up, Local, Value}
use Rattle.row_board.specs.Parts.{BoardParts}

-- the cells that have a source, those that have a target, and the targets by their order in the list
abbrev pub IsName : BoardParts → Name → Type 0
IsName b (Up n) = (n < size b.basis.tree) × ((node_of b.basis.tree n).has_source ≡ true)
IsName b (Local n) = (n < size b.basis.tree) × ((node_of b.basis.tree n).has_target ≡ true)
IsName b (Value k) = k < length b.basis.targets

abbrev pub is_filled : BoardParts → Name → Bool
is_filled b (Up n) = slice_index_or b.has_up n false
is_filled b (Local n) = slice_index_or b.has_local n false
is_filled b (Value k) = slice_index_or b.has_value k false

-- a multipole row is made of those of the cell's quarters that have a source; a local row of the parent's and of the multipole rows of the V list, and the
-- root's of nothing; the box of a target of its leaf's local row and of the multipole rows of the leaf's W list
abbrev pub needs : BoardParts → Name → List Name
needs b (Up n) = map Up (source_children b.basis.tree n)
needs b (Local n) = cond (n == 0) [] (Local (node_of b.basis.tree n).parent ∷ map Up (list_at b.basis.lists.v n))
needs b (Value k) = Local (target_leaf b.basis k) ∷ map Up (list_at b.basis.lists.w (target_leaf b.basis k))

abbrev pub AreFilled : BoardParts → List Name → Type 0
AreFilled b names = All (λ name. is_filled b name ≡ true) names

-- the first of some names that is not filled
pub record IsFirstMissing (b : BoardParts) (names : List Name) (missing : Name) : Type 0 where
  pub before : List Name
  pub behind : List Name
  pub split : names ≡ before ++ missing ∷ behind
  pub filled : AreFilled b before
  pub is_missing : is_filled b missing ≡ false

-- what a search among some names finds: nothing where all are filled, and otherwise the first that is not. No public contract cites it.
abbrev pub FindsMissing : BoardParts → List Name → Option Name → Type 0
FindsMissing b names found = MatchOption found (AreFilled b names) (IsFirstMissing b names)

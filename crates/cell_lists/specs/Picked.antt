-- The lists of one cell, as they are picked. No public contract cites it.
use Rattle.std.specs.Prelude.{ℕ, ◌≡◌, List, [], ◌∷◌, ◌++◌}
use Rattle.letters.specs.declared.Letter.{Letter}
use Rattle.letters.specs.declared.Letter.TheVariants.{U, V, W, X}
use Rattle.quadtree.specs.TreeModel.{TreeModel}
use Rattle.cell_lists.specs.declared.picked.Picked.{Picked}
use Rattle.cell_lists.specs.EntryLists.{EntryListsModel}
use Rattle.cell_lists.specs.Lists.{IsListOf}
use Rattle.cell_lists.specs.Numbers.{OfEachList}

-- the list of a letter
abbrev pub picked_of : Picked → Letter → List ℕ
picked_of picked U = picked.u.items
picked_of picked V = picked.v.items
picked_of picked W = picked.w.items
picked_of picked X = picked.x.items

-- they are the lists of a cell
abbrev pub ArePickedFor : TreeModel → ℕ → Picked → Type 0
ArePickedFor tree b picked = OfEachList tree (λ points cap. (letter : Letter) → IsListOf tree points cap letter b (picked_of picked letter))

-- each letter has one more list, the picked one
pub record AddsLists (was : EntryListsModel) (picked : Picked) (now : EntryListsModel) : Type 0 where
  pub u : now.u ≡ was.u ++ picked.u.items ∷ []
  pub v : now.v ≡ was.v ++ picked.v.items ∷ []
  pub w : now.w ≡ was.w ++ picked.w.items ∷ []
  pub x : now.x ≡ was.x ++ picked.x.items ∷ []

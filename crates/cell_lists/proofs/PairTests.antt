-- The condition of a letter, from what the program keeps of the two cells.
use Rattle.std.proofs.Common.{ℕ, ◌≡◌, ◌<◌, List, Option, Some}
use Rattle.std.specs.Prelude.{IsTrue, ◌↔◌}
use Rattle.points.specs.declared.Point.{Point}
use Rattle.letters.specs.declared.Letter.{Letter}
use Rattle.letters.specs.declared.Letter.TheVariants.{U, V, W, X}
use Rattle.quadtree.specs.TreeModel.{TreeModel, size, square_of, node_of, IsTreeOf}
use Rattle.cell_lists.specs.Entries.{IsPair, IsEntry}
use Rattle.cell_lists.specs.Pairs.{MeetsLetter}
use Rattle.quadtree.proofs.TreeChildren.{tree_cell_at}

module _ (tree : TreeModel) (points : List Point) (cap b c : ℕ) (h : IsTreeOf tree points cap) (lb : b < size tree) (lc : c < size tree) where
  -- two cells meet the condition of a letter
  abbrev Meets : Letter → Type 0
  Meets letter = MeetsLetter (node_of tree b).is_leaf (node_of tree c).is_leaf (square_of tree b) (square_of tree c) letter

  is_pair : (letter : Letter) → Meets letter → IsPair tree.grid points cap letter (square_of tree b) (square_of tree c)
  is_pair U m = ((h.nodes_are b lb).leaf.0 m.0, (h.nodes_are c lc).leaf.0 m.1, m.2)
  is_pair V m = (tree_cell_at tree points cap b h lb, tree_cell_at tree points cap c h lc, m)
  is_pair W m = ((h.nodes_are b lb).leaf.0 m.0, tree_cell_at tree points cap c h lc, m.1)
  is_pair X m = ((h.nodes_are c lc).leaf.0 m.0, tree_cell_at tree points cap b h lb, m.1)

  meets : (letter : Letter) → IsPair tree.grid points cap letter (square_of tree b) (square_of tree c) → Meets letter
  meets U p = ((h.nodes_are b lb).leaf.1 p.0, (h.nodes_are c lc).leaf.1 p.1, p.2)
  meets V p = p.2
  meets W p = ((h.nodes_are b lb).leaf.1 p.0, p.2)
  meets X p = ((h.nodes_are c lc).leaf.1 p.0, p.2)

  -- with a target in the first and a source in the second they are an entry
  pub entry_from_letter : (answer : Option Letter) (letter : Letter) → IsTrue (node_of tree b).has_target → IsTrue (node_of tree c).has_source → ((answer ≡ Some letter) ↔ Meets letter) → (answer ≡ Some letter) ↔ IsEntry tree.grid points cap letter (square_of tree b) (square_of tree c)
  entry_from_letter answer letter target source test = (
    λ e. record { target = (h.nodes_are b lb).target.0 target; source = (h.nodes_are c lc).source.0 source; pair = is_pair letter (test.0 e) },
    λ entry. test.1 (meets letter entry.pair),
  )

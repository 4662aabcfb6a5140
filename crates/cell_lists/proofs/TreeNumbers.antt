-- The cells of a tree by their numbers.
use Rattle.std.proofs.Common.{ℕ, ◌≡◌, ◌<◌, ◌≤◌, List, length, map, get_or, Option, Some, None, refl, sym, ap, ◌∙◌, subst, arith}
use Rattle.std.specs.Prelude.{ℤ, Contains, MatchOption, IsSome, IsTrue}
use Rattle.std.proofs.lemmas.Int.{ints}
use Rattle.std.proofs.lemmas.List.{get_or-map}
use Rattle.limits.proofs.Grids.{grid_positive}
use Rattle.points.specs.declared.Point.{Point}
use Rattle.cell_name.specs.declared.cell.Cell.{Cell}
use Rattle.cell_name.specs.Cell.{square}
use Rattle.cell_name.specs.Square.{Square, no_square, half, ancestor, Holds}
use Rattle.cell_name.proofs.Ancestors.{IsPart-ancestor}
use Rattle.cell_name.proofs.Cells.{IsPart}
use Rattle.cell_name.proofs.Levels.{above_le}
use Rattle.letters.specs.declared.Letter.{Letter}
use Rattle.quadtree.proofs.TreeChildren.{tree_cell_at}
use Rattle.quadtree.specs.Tree.{AreInGrid, IsTreeCell}
use Rattle.quadtree.specs.TreeModel.{TreeModel, size, squares, square_of, node_of, IsTreeOf, IsTree}
use Rattle.quadtree.proofs.LeafLevel.{InTreeAt, tree_above}
use Rattle.quadtree.proofs.Parents.{cell_of_point}
use Rattle.cell_lists.specs.Cases.{IsCase}
use Rattle.cell_lists.specs.Entries.{IsEntry}
use Rattle.cell_lists.specs.Walk.{AncestorsTouch, IsAncestor}
use Rattle.cell_lists.proofs.OneEntry.{ancestor_of, levels_of_case, entry_from_case}

-- what the program reads is the cell of the number
pub read_is : (cells : List Cell) (n : ℕ) (x : Cell) → n < length cells → x ≡ get_or cells n x → square x ≡ get_or (map square cells) n no_square
read_is cells n x lt e = ap square e ∙ sym (get_or-map square cells n x no_square lt)

-- the ancestors of a cell of the tree are cells of the tree
pub IsTreeCell-ancestor : (grid : ℕ) (points : List Point) (cap : ℕ) (c : Square) (level : ℕ) → 0 < grid → AreInGrid grid points → IsTreeCell grid points cap c → level ≤ c.level → IsTreeCell grid points cap (ancestor c level)
IsTreeCell-ancestor grid points cap c level positive inside h le =
    let o = cell_of_point grid points c h.of_grid inside h.occupied in
    let p : Point = o.point in
    let P : Square → Type 0 = λ v. IsTreeCell grid points cap v in
    let here : InTreeAt grid points cap p c.level = subst P o.is_cell h in
    let above : InTreeAt grid points cap p level = above_le (InTreeAt grid points cap p) (tree_above grid points cap p positive o.given) level c.level le here in
    subst P (ancestor_of grid c p level o.is_cell h.level_in_grid le) above

-- so the tree has their numbers
pub ancestor_listed : (tree : TreeModel) (n level : ℕ) → IsTree tree → n < size tree → level ≤ (square_of tree n).level → Contains (squares tree) (ancestor (square_of tree n) level)
ancestor_listed tree n level h lt le = h.is_tree.cells_are.whole (ancestor (square_of tree n) level) (IsTreeCell-ancestor tree.grid h.points h.cap (square_of tree n) level (grid_positive tree.grid h.is_tree.known_grid) h.in_grid (tree_cell_at tree h.points h.cap n h.is_tree lt) le)

pub found_number : (tree : TreeModel) (s s' : Square) (r : Option ℕ) → Contains (squares tree) s → s ≡ s' → MatchOption r (Contains (squares tree) s' → ⊥) (λ n. (n < size tree) × (square_of tree n ≡ s')) → IsSome r
found_number tree s s' (Some n) listed e h = refl
found_number tree s s' None listed e h = let P : Square → Type 0 = λ v. Contains (squares tree) v in absurd (h (subst P e listed))

pub number_of : (tree : TreeModel) (s : Square) (r : Option ℕ) (n : ℕ) → r ≡ Some n → MatchOption r (Contains (squares tree) s → ⊥) (λ n. (n < size tree) × (square_of tree n ≡ s)) → (n < size tree) × (square_of tree n ≡ s)
number_of tree s r n e h = let P : Option ℕ → Type 0 = λ v. MatchOption v (Contains (squares tree) s → ⊥) (λ n. (n < size tree) × (square_of tree n ≡ s)) in subst P e h

pub read_at : (tree : TreeModel) (cells : List Cell) (n : ℕ) (x : Cell) → cells ≡ tree.cells → n < size tree → x ≡ get_or cells n x → square x ≡ square_of tree n
read_at tree cells n x all lt e = read_is tree.cells n x lt (e ∙ ap (λ l. get_or l n x) all)

-- a number of the tree is below the number of cells that were read
pub below_length : (tree : TreeModel) (cells : List Cell) (n : ℕ) → cells ≡ tree.cells → n < size tree → n < length cells
below_length tree cells n all lt = omega (arith, ap length all)

-- what stands at an ancestor's number is the ancestor
pub ancestor_at : (tree : TreeModel) (n n' level : ℕ) → level ≤ (square_of tree n).level → square_of tree n' ≡ ancestor (square_of tree n) level → IsAncestor (square_of tree n') (square_of tree n)
ancestor_at tree n n' level le e =
    let P : Square → Type 0 = λ s. IsAncestor s (square_of tree n) in
    subst P (sym e) (record { level_at_most = le; is_ancestor = refl })

-- an ancestor has the places of its descendants
pub Holds-ancestor : (c d : Square) (level : ℕ) (x y : ℤ) → d ≡ ancestor c level → level ≤ c.level → c.level ≤ c.grid → Holds c x y → Holds d x y
Holds-ancestor c d level x y e le hi h = let P : Square → Type 0 = λ v. Holds v x y in subst P (sym e) (Holds-part c (ancestor c level) x y (IsPart-ancestor c level le hi) h)
  where
    Holds-part : (c d : Square) (x y : ℤ) → IsPart c d → Holds c x y → Holds d x y
    Holds-part c d x y w h =
        let e = ap half w.same_grid in
        record {
          west = omega (arith, ints);
          east = omega (arith, ints);
          south = omega (arith, ints);
          north = omega (arith, ints);
        }

-- the levels of a case, seen from the cells of the tree
pub case_levels : (x y b c : Square) (letter : Letter) (k l : ℕ) → IsCase (AncestorsTouch x y) x.level y.level letter k l → x ≡ b → y ≡ c → (k ≤ b.level) × (l ≤ c.level)
case_levels x y b c letter k l h eb ec =
    let both = levels_of_case (AncestorsTouch x y) x.level y.level letter k l h in
    let lb : x.level ≡ b.level = ap (λ (s : Square). s.level) eb in
    let lc : y.level ≡ c.level = ap (λ (s : Square). s.level) ec in
    (omega (arith, both.0), omega (arith, both.1))

-- the cells at which a descent of two leaves stops are an entry
pub entry_named : (tree : TreeModel) (points : List Point) (cap b c b' c' : ℕ) (x y : Square) (letter : Letter) (k l : ℕ) → AreInGrid tree.grid points → IsTreeOf tree points cap → b < size tree → c < size tree → IsTrue (node_of tree b).is_leaf → IsTrue (node_of tree c).is_leaf → IsTrue (node_of tree b).has_target → IsTrue (node_of tree c).has_source → IsCase (AncestorsTouch x y) x.level y.level letter k l → x ≡ square_of tree b → y ≡ square_of tree c → square_of tree b' ≡ ancestor (square_of tree b) k → square_of tree c' ≡ ancestor (square_of tree c) l → IsEntry tree.grid points cap letter (square_of tree b') (square_of tree c')
entry_named tree points cap b c b' c' x y letter k l inside h lb lc leaf_b leaf_c target source stop eb ec ab ac =
    let P : Square → Type 0 = λ v. IsCase (AncestorsTouch v y) v.level y.level letter k l in
    let Q : Square → Type 0 = λ v. IsCase (AncestorsTouch (square_of tree b) v) (square_of tree b).level v.level letter k l in
    let here : IsCase (AncestorsTouch (square_of tree b) (square_of tree c)) (square_of tree b).level (square_of tree c).level letter k l = subst Q ec (subst P eb stop) in
    let nb = h.nodes_are b lb in
    let nc = h.nodes_are c lc in
    let e : IsEntry tree.grid points cap letter (ancestor (square_of tree b) k) (ancestor (square_of tree c) l) = entry_from_case tree.grid points cap (square_of tree b) (square_of tree c) letter k l (grid_positive tree.grid h.known_grid) inside (nb.leaf.0 leaf_b) (nc.leaf.0 leaf_c) (nb.target.0 target) (nc.source.0 source) here in
    let R : Square → Type 0 = λ v. IsEntry tree.grid points cap letter v (ancestor (square_of tree c) l) in
    let S : Square → Type 0 = λ v. IsEntry tree.grid points cap letter (square_of tree b') v in
    subst S (sym ac) (subst R (sym ab) e)

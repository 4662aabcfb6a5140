-- Lists of numbers of cells, and the members of a cell.
use Rattle.std.proofs.Common.{◌≡◌, ◌∙◌, ◌+◌, ◌<◌, ◌≤◌, zero, suc, sym, ap, subst, arith, ℕ, List, [], ◌∷◌, length, get_or}
use Rattle.std.specs.Prelude.{All}
use Rattle.std.specs.List.{range_with_len}
use Rattle.std.specs.List.Sorted.{IsStrictlyIncreasing}
use Rattle.std.proofs.lemmas.List.Elements.{Contains-get_or}
use Rattle.std.proofs.lemmas.List.FromFn.{length-range_with_len}
use Rattle.std.proofs.lemmas.List.Sums.{length-filter, count_by-le-length}
use Rattle.cell_lists.specs.Entries.{IsEntry}
use Rattle.cell_lists.specs.EntryLists.{lists_of}
use Rattle.cell_lists.specs.Lists.{IsListOf}
use Rattle.cell_lists.specs.ListAt.{list_at}
use Rattle.field_basis.proofs.CellWeights.{position_inside}
use Rattle.field_basis.proofs.Sizes.{inside}
use Rattle.field_basis.proofs.Trees.{tree_of_basis}
use Rattle.field_basis.specs.Basis.{BasisModel, IsBasis}
use Rattle.letters.specs.declared.Letter.{Letter}
use Rattle.limits.proofs.Grids.{within_widest}
use Rattle.limits.specs.Limits.{most_cells, most_points, widest_grid}
use Rattle.quadtree.specs.Members.{holds_position}
use Rattle.quadtree.specs.TreeModel.{size, square_of, node_of}

-- ascending numbers below n are no more than n
few_below : (n : ℕ) (xs : List ℕ) → All (λ x. x < n) xs → IsStrictlyIncreasing xs → length xs ≤ n
few_below n [] below up = omega arith
few_below n (x ∷ xs) below up =
    let last = at_least (length xs) (omega arith) in
    let h = below (length xs) 0 (omega arith) in
    omega arith
  where
    at_least : (k : ℕ) → k < length (x ∷ xs) → k ≤ get_or (x ∷ xs) k 0
    at_least zero lt = omega arith
    at_least (suc k) lt =
        let h = at_least k (omega arith) in
        let e : k + 1 ≡ suc k = omega arith in
        let next : get_or (x ∷ xs) (k + 1) 0 ≡ get_or (x ∷ xs) (suc k) 0 = ap (λ j. get_or (x ∷ xs) j 0) e in
        let f = up k (omega arith) in
        omega (arith, next, f, h)

module _ (P : ℕ) (b : BasisModel) (is : IsBasis P b) where
  -- ---- a list of entries, as it is read
  module _ (letter : Letter) (n : ℕ) (lt : n < size b.tree) (items : List ℕ) (are : items ≡ list_at (lists_of b.lists letter) n) where
    list_of : IsListOf b.tree b.points b.cap letter n items
    list_of = subst (IsListOf b.tree b.points b.cap letter n) (sym are) (is.lists_are.each b.points b.cap (inside P b is) is.is_tree letter n lt)

    pub number_below : (i : ℕ) → i < length items → get_or items i 0 < size b.tree
    number_below i l = list_of.numbers i 0 l

    pub few_items : length items ≤ most_cells widest_grid
    few_items = let f = few_below (size b.tree) items list_of.numbers list_of.ascending in omega (arith, f, is.is_tree.few, (within_widest b.tree.grid is.is_tree.known_grid).cells)

    pub entry_at : (i : ℕ) → i < length items → IsEntry b.tree.grid b.points b.cap letter (square_of b.tree n) (square_of b.tree (get_or items i 0))
    entry_at i l = (list_of.exact (get_or items i 0) (number_below i l)).0 (Contains-get_or items i 0 l)

  -- ---- the members of a cell
  pub few_members : (n : ℕ) → n < size b.tree → (members : List ℕ) → members ≡ (node_of b.tree n).members → length members ≤ most_points widest_grid
  few_members n lt members are =
      let p : ℕ → _ = holds_position (square_of b.tree n) b.points in
      let e = ap length (are ∙ (is.is_tree.nodes_are n lt).members_are) in
      let f = length-filter p (range_with_len 0 (length b.points)) in
      let g = count_by-le-length p (range_with_len 0 (length b.points)) in
      let l = length-range_with_len 0 (length b.points) in
      omega (arith, e, f, g, l, is.within.count, (within_widest b.tree.grid is.is_tree.known_grid).points)

  pub member_below : (n : ℕ) → n < size b.tree → (members : List ℕ) → members ≡ (node_of b.tree n).members → (i : ℕ) → i < length members → get_or members i 0 < length b.points
  member_below n lt members are i l =
      let here = position_inside b.points b.tree (tree_of_basis P b is) n lt i (omega (arith, ap length are, l)) in
      subst (λ (xs : List ℕ). get_or xs i 0 < length b.points) (sym are) here

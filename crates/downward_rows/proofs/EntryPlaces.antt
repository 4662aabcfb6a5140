-- Where the cells of the entries of a cell lie.
use Rattle.std.proofs.Common.{ℕ, ◌≡◌, ◌<◌, ◌≤◌, List, [], length, get_or, not, true, refl, ◌∙◌, sym, ap, subst, arith}
use Rattle.std.specs.Prelude.{All, Contains}
use Rattle.std.specs.List.{range_with_len}
use Rattle.std.proofs.lemmas.List.Elements.{Contains-get_or}
use Rattle.std.proofs.lemmas.List.FromFn.{length-range_with_len}
use Rattle.std.proofs.lemmas.List.Filters.{length-filter_both}
use Rattle.std.proofs.lemmas.Map.Keys.{sorted_from_strictly_increasing}
use Rattle.std.proofs.lemmas.Map.Views.{length-le_from_below}
use Rattle.std.proofs.lemmas.Option.{slice_get-get_or}
use Rattle.cell_name.proofs.HoldsTest.{Holds-from_test}
use Rattle.quadtree.proofs.TreeChildren.{tree_cell_at}
use Rattle.cell_lists.specs.Entries.{IsEntry, IsPair}
use Rattle.cell_lists.specs.EntryLists.{lists_of, EntryListsModel}
use Rattle.cell_lists.specs.Lists.{IsListOf}
use Rattle.cell_lists.specs.ListAt.{list_at}
use Rattle.letters.specs.declared.Letter.{Letter}
use Rattle.letters.specs.declared.Letter.TheVariants.{V, X, W}
use Rattle.cell_name.proofs.Cells.{Touches-sym}
use Rattle.limits.proofs.Grids.{within_widest}
use Rattle.limits.specs.Limits.{most_points, widest_grid}
use Rattle.points.specs.Limits.{InRange}
use Rattle.points.specs.declared.Point.{Point}
use Rattle.quadtree.proofs.Distinct.{Contains-filter}
use Rattle.quadtree.proofs.Limits.{in_grid}
use Rattle.quadtree.specs.Members.{holds_position, holds_point, members_of}
use Rattle.quadtree.specs.TreeModel.{TreeModel, size, square_of, node_of}
use Rattle.row_recursions.proofs.Geometry.{pairs_of_cells, far_places}
use Rattle.exact_math.proofs.Lists.{range_below}
use Rattle.downward_rows.specs.Entries.{IsVEntryAt, IsFarPosition, IsFarCell, HasFarEntries}
use Rattle.field_basis.specs.Basis.{BasisModel, IsBasis}
use Rattle.field_basis.specs.Targets.{no_point, point_at}

module _ (P : ℕ) (b : BasisModel) (is : IsBasis P b) (n : ℕ) (lt : n < size b.tree) where
  abbrev tree : TreeModel
  tree = b.tree

  abbrev lists : EntryListsModel
  lists = b.lists

  abbrev points : List Point
  points = b.points

  the_list : (letter : Letter) → IsListOf tree points b.cap letter n (list_at (lists_of lists letter) n)
  the_list letter = is.lists_are.each points b.cap (in_grid tree.grid points is.within.range) is.is_tree letter n lt

  grid_is : (c : ℕ) → c < size tree → (square_of tree c).grid ≡ tree.grid
  grid_is c h = (tree_cell_at tree points b.cap c is.is_tree h).of_grid

  level_is : (c : ℕ) → c < size tree → (square_of tree c).level ≤ tree.grid
  level_is c h = (tree_cell_at tree points b.cap c is.is_tree h).level_in_grid

  pub entry_at : (letter : Letter) (k d : ℕ) → k < length (list_at (lists_of lists letter) n) → IsEntry tree.grid points b.cap letter (square_of tree n) (square_of tree (get_or (list_at (lists_of lists letter) n) k d))
  entry_at letter k d h =
      let list = the_list letter in
      (list.exact (get_or (list_at (lists_of lists letter) n) k d) (list.numbers k d h)).0 (Contains-get_or (list_at (lists_of lists letter) n) k d h)

  v_entry_at : (c : ℕ) → c < size tree → IsPair tree.grid points b.cap V (square_of tree n) (square_of tree c) → IsVEntryAt tree n c
  v_entry_at c h e = record {
    in_range = h;
    distance = (pairs_of_cells (square_of tree n) (square_of tree c) (grid_is n lt ∙ sym (grid_is c h)) e.2.same_level e.2.apart e.2.parents_touch).kernel;
  }

  far_position : (c k : ℕ) → c < size tree → IsPair tree.grid points b.cap W (square_of tree c) (square_of tree n) → Contains (members_of points (square_of tree c)) k → IsFarPosition points (square_of tree n) k
  far_position c k h e m = record {
    inside = inside;
    range = subst (λ grid. InRange grid (point_at points k)) (sym (grid_is n lt)) (is.within.range k no_point inside);
    far = far_places (square_of tree c) (square_of tree n) (point_at points k).x (point_at points k).y (grid_is c h ∙ sym (grid_is n lt)) (omega (arith, e.2.deeper)) (omega (arith, grid_is n lt, level_is n lt))
        (λ t. e.2.apart (Touches-sym (square_of tree c) (square_of tree n) t))
        (Holds-from_test (square_of tree c) (point_at points k).x (point_at points k).y (sym (ap (holds_point (square_of tree c)) (slice_get-get_or points k no_point inside)) ∙ held));
  }
    where
      held : holds_position (square_of tree c) points k ≡ true
      held = (Contains-filter (λ j. holds_position (square_of tree c) points j) (range_with_len 0 (length points)) k m).1

      inside : k < length points
      inside = range_below (length points) k (Contains-filter (λ j. holds_position (square_of tree c) points j) (range_with_len 0 (length points)) k m).0

  few_members : (c : ℕ) → c < size tree → length (node_of tree c).members ≤ most_points widest_grid
  few_members c h =
      let e : length (node_of tree c).members ≡ length (members_of points (square_of tree c)) = ap (λ l. length l) (is.is_tree.nodes_are c h).members_are in
      let le = length-filter_both (λ j. holds_position (square_of tree c) points j) (λ j. not (holds_position (square_of tree c) points j)) (λ j. refl) (range_with_len 0 (length points)) in
      omega (arith, e, le, length-range_with_len 0 (length points), is.within.count, (within_widest tree.grid is.is_tree.known_grid).points)

  far_cell : (c : ℕ) → c < size tree → IsPair tree.grid points b.cap W (square_of tree c) (square_of tree n) → IsFarCell tree points (square_of tree n) c
  far_cell c h e = record {
    in_range = h;
    few = few_members c h;
    each = let P : List ℕ → Type 0 = λ l. All (IsFarPosition points (square_of tree n)) l in
        subst P (sym (is.is_tree.nodes_are c h).members_are) (λ k d inside. far_position c (get_or (members_of points (square_of tree c)) k d) h e (Contains-get_or (members_of points (square_of tree c)) k d inside));
  }

  pub far_entries : HasFarEntries tree lists points n
  far_entries = record {
    v_entries = λ k d h. v_entry_at (get_or (list_at lists.v n) k d) ((the_list V).numbers k d h) (entry_at V k d h).pair;
    short = is.short n [] (omega (arith, lt, is.lists_are.as_many V));
    far = λ k d h. far_cell (get_or (list_at lists.x n) k d) ((the_list X).numbers k d h) (entry_at X k d h).pair;
    few = let le = length-le_from_below (size tree) (list_at lists.x n) (sorted_from_strictly_increasing (list_at lists.x n) (the_list X).ascending) (the_list X).numbers in omega (arith, le, is.is_tree.few, (within_widest tree.grid is.is_tree.known_grid).cells);
  }

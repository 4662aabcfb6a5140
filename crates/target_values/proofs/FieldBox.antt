-- The box of a target from the rows of the field is the field's.
use Rattle.std.proofs.Common.{◌≡◌, ◌∙◌, ◌+◌, ◌*◌, ◌^◌, ◌<◌, ◌≤◌, sym, ap, ap₂, subst, arith, ℕ, pos, length, map, get_or}
use Rattle.std.specs.Prelude.{All, sum_by}
use Rattle.std.proofs.lemmas.List.{get_or-map, length-map}
use Rattle.std.proofs.lemmas.Option.{slice_get-get_or}
use Rattle.exact_math.specs.Ends.{BoxEnds, BoxEndsContain, BoxEndsWithin, add_box, widen_box}
use Rattle.exact_math.specs.Gaussian.{Gaussian}
use Rattle.exact_math.specs.Units.{unit}
use Rattle.exact_math.proofs.Orders.{order_bounds}
use Rattle.cell_name.specs.Square.{Square, side, Holds}
use Rattle.cell_lists.specs.EntryLists.{lists_of}
use Rattle.cell_lists.specs.ListAt.{list_at}
use Rattle.complex_box.specs.Box.{box_ends, BoxContains, BoxWithin}
use Rattle.complex_box.specs.declared.CBox.{CBox}
use Rattle.field_basis.proofs.Positions.{IsTargetPosition, position_at, leaf_at_position, target_has_leaf, targets_at}
use Rattle.field_basis.specs.Basis.{BasisModel, IsBasis, target_of, target_place, target_leaf}
use Rattle.field_basis.specs.FieldPlaces.{HasLocalRow, IsLocalPlace, IsMultipolePlace, IsTargetBox}
use Rattle.field_basis.specs.Targets.{no_point, point_at}
use Rattle.tree_field.proofs.Bounds.{boxes_within, losses_within}
use Rattle.letters.specs.declared.Letter.{Letter}
use Rattle.letters.specs.declared.Letter.TheVariants.{U, W}
use Rattle.limits.proofs.Grids.{grid_positive, in_widest, within_widest}
use Rattle.limits.specs.Grid.{IsInGrid}
use Rattle.limits.specs.Limits.{most_box, most_local, most_multipole, widest_grid}
use Rattle.near_field.specs.DirectSum.{direct_sum}
use Rattle.near_field.specs.Pair.{pair_box}
use Rattle.field_basis.specs.Place.{PlaceModel}
use Rattle.points.specs.Limits.{total_weight}
use Rattle.points.specs.Points.{place}
use Rattle.points.specs.declared.Point.{Point}
use Rattle.quadtree.specs.TreeModel.{IsLeafOf, size, square_of}
use Rattle.row_recursions.specs.Rows.{row_of, local_value, multipole_value}
use Rattle.row_recursions.specs.Sizes.{RowWithin}
use Rattle.soundness.specs.Computed.{total_box}
use Rattle.soundness.specs.Squares.{offset}
use Rattle.tree_field.specs.Field.{sources_in, multipole_row, local_row, single_loss_in, leaf_at, box_in, target_box, targets}
use Rattle.tree_field.specs.Lists.{TreeLists, AreTreeLists}
use Rattle.tree_field.proofs.Program.{lists_of_tree, leaves_of_tree}
use Rattle.soundness.proofs.Sums.{total_box-map, sum_by-map}
use Rattle.tree_field.proofs.Whole.{field_contains}
use Rattle.field_basis.proofs.Sizes.{inside, some_lists, limited, tree_cell_of_lists, multipole_within, local_within}
use Rattle.target_values.proofs.SameValues.{local_value-same}
use Rattle.target_values.specs.Values.{value_of_cell, loss_of_cell, pairs_of_cell}
use Rattle.soundness.specs.Steps.{w_values, u_pairs}

module _ (P : ℕ) (b : BasisModel) (is : IsBasis P b) where
  -- ---- how large rows are
  pub multipole_small : (n : ℕ) → n < size b.tree → (place : PlaceModel) → IsMultipolePlace P b.points b.tree n place → RowWithin P (most_multipole widest_grid) (row_of place.row)
  multipole_small n lt place here k l = subst (BoxEndsWithin (most_multipole widest_grid)) (sym (here.row_is b.cap is.is_tree k l)) (multipole_within P b is n lt k l)

  -- ---- the entries of a cell, by the numbers of their cells
  module _ (lists : TreeLists) (are : AreTreeLists b.tree.grid b.points b.cap lists) (n : ℕ) (lt : n < size b.tree) where
    entries_same : (letter : Letter) → lists.entries letter (square_of b.tree n) ≡ map (square_of b.tree) (list_at (lists_of b.lists letter) n)
    entries_same letter = (lists_of_tree b.tree b.lists b.points b.cap lists (inside P b is) is.is_tree is.lists_are are).entries letter n lt

    pairs_same : (z : Gaussian) → total_box (pairs_of_cell b z) (list_at b.lists.u n) ≡ u_pairs (λ p. p) (sources_in b.points) z (lists.entries U (square_of b.tree n))
    pairs_same z =
        let f : Square → BoxEnds = λ c. total_box (pair_box z) (sources_in b.points c) in
        sym (ap (total_box f) (entries_same U) ∙ total_box-map f (square_of b.tree) (list_at b.lists.u n))

    values_same : (z : Gaussian) → total_box (value_of_cell P b z) (list_at b.lists.w n) ≡ w_values (λ c. c) (multipole_row b.points b.cap) P z (lists.entries W (square_of b.tree n))
    values_same z =
        let f : Square → BoxEnds = λ c. multipole_value P (multipole_row b.points b.cap c) (side c) (offset c z) in
        sym (ap (total_box f) (entries_same W) ∙ total_box-map f (square_of b.tree) (list_at b.lists.w n))

    losses_same : sum_by (loss_of_cell P b) (list_at b.lists.w n) ≡ sum_by (λ c. single_loss_in b.points P (side c) c) (lists.entries W (square_of b.tree n))
    losses_same =
        let f : Square → ℕ = λ c. single_loss_in b.points P (side c) c in
        sym (ap (sum_by f) (entries_same W) ∙ sum_by-map f (square_of b.tree) (list_at b.lists.w n))

    -- no source stands in two entries
    losses_light : sum_by (loss_of_cell P b) (list_at b.lists.w n) ≤ 2 ^ 40 * total_weight b.points
    losses_light =
        let few = order_bounds P is.order in
        let most = losses_within b.points b.cap P lists (omega (arith, few)) (limited P b is lists are) (square_of b.tree n) (tree_cell_of_lists P b is lists are n lt) in
        omega (arith, losses_same, most)

  pub losses_small : (n : ℕ) → n < size b.tree → sum_by (loss_of_cell P b) (list_at b.lists.w n) ≤ 2 ^ 76
  losses_small n lt =
      let most = losses_light (some_lists P b is).0 (some_lists P b is).1 n lt in
      omega (arith, most, is.within.weight, (within_widest b.tree.grid is.is_tree.known_grid).weight)

  -- the boxes of all targets
  pub boxes_small : All (λ t. BoxEndsWithin (most_box b.tree.grid) (target_box b.points b.cap P (some_lists P b is).0 (place t))) (targets b.points)
  boxes_small =
      subst (λ grid. All (λ t. BoxEndsWithin (most_box grid) (target_box b.points b.cap P (some_lists P b is).0 (place t))) (targets b.points)) (some_lists P b is).1.of_grid
      (boxes_within b.points b.cap P (some_lists P b is).0 is.order (limited P b is (some_lists P b is).0 (some_lists P b is).1))

  -- ---- a target
  -- a fact of all targets is one of the target of a number
  at_target : (Q : Point → Type 0) → All Q (targets b.points) → (k : ℕ) → k < length b.targets → Q (target_of b k)
  at_target Q all k lt =
      let here : targets b.points ≡ map (point_at b.points) b.targets = sym (ap (map (point_at b.points)) is.targets_are ∙ targets_at b.points) in
      subst Q (get_or-map (point_at b.points) b.targets k 0 no_point lt) (subst (All Q) here all k no_point (omega (arith, length-map b.targets (point_at b.points))))

  module _ (k : ℕ) (lt : k < length b.targets) where
    pub position : IsTargetPosition b.points (get_or b.targets k 0)
    position = position_at b.points b.targets is.targets_are k lt

    pub leaf_is : IsLeafOf b.tree b.points b.cap (target_leaf b k) (target_of b k)
    leaf_is = leaf_at_position b.tree b.points b.cap is.is_tree (get_or b.targets k 0) no_point position.inside

    -- its leaf and itself, as they are read
    module _ (n : ℕ) (leaf : n ≡ target_leaf b k) where
      pub leaf_below : n < size b.tree
      leaf_below = omega (arith, leaf, leaf_is.in_range)

      pub leaf_holds : (t : Point) → t ≡ target_of b k → Holds (square_of b.tree n) t.x t.y
      leaf_holds t e = subst (λ (p : Point). Holds (square_of b.tree n) p.x p.y) (sym e) (subst (λ n. Holds (square_of b.tree n) (target_of b k).x (target_of b k).y) (sym leaf) leaf_is.held)

    pub target_in_grid : (t : Point) → t ≡ target_of b k → IsInGrid b.tree.grid t.x t.y
    target_in_grid t e = subst (λ (p : Point). IsInGrid b.tree.grid p.x p.y) (sym e) (is.within.range (get_or b.targets k 0) no_point position.inside).place

    pub target_in_widest : (t : Point) → t ≡ target_of b k → IsInGrid widest_grid t.x t.y
    target_in_widest t e = in_widest b.tree.grid t.x t.y is.is_tree.known_grid (target_in_grid t e)

    module _ (place : PlaceModel) (here : IsLocalPlace P b (target_leaf b k) place) where
      row_here : (lists : TreeLists) → AreTreeLists b.tree.grid b.points b.cap lists → HasLocalRow P b lists (target_leaf b k) place
      row_here lists are = here.with_target (target_has_leaf b.points b.cap b.tree is.is_tree (get_or b.targets k 0) position) lists are

      pub local_small : RowWithin P (most_local widest_grid) (row_of place.row)
      local_small i l = subst (BoxEndsWithin (most_local widest_grid)) (sym ((row_here (some_lists P b is).0 (some_lists P b is).1).row_is i l)) (local_within P b is (target_leaf b k) leaf_is.in_range i l)

      -- the box that the parts make
      abbrev parts_make : BoxEnds
      parts_make =
          let s : Square = square_of b.tree (target_leaf b k) in
          let z : Gaussian = target_place b k in
          widen_box (add_box (local_value P (row_of place.row) (side s) (offset s z)) (add_box (total_box (value_of_cell P b z) (list_at b.lists.w (target_leaf b k))) (total_box (pairs_of_cell b z) (list_at b.lists.u (target_leaf b k)))))
          (pos (place.radius + sum_by (loss_of_cell P b) (list_at b.lists.w (target_leaf b k))))

      pub box_is : (value : CBox) → box_ends value ≡ parts_make → IsTargetBox P b k value
      box_is value e lists are =
          let s : Square = square_of b.tree (target_leaf b k) in
          let z : Gaussian = target_place b k in
          let row = row_here lists are in
          e ∙ ap₂ widen_box
          (ap₂ add_box (local_value-same P (row_of place.row) (local_row b.points b.cap P lists s) (side s) (offset s z) row.row_is) (ap₂ add_box (values_same lists are (target_leaf b k) leaf_is.in_range z) (pairs_same lists are (target_leaf b k) leaf_is.in_range z)))
          (ap₂ (λ r n. pos (r + n)) row.radius_is (losses_same lists are (target_leaf b k) leaf_is.in_range))
          ∙ ap (λ c. box_in b.points b.cap P lists c z) (sym (leaves_of_tree b.tree b.points b.cap (inside P b is) is.is_tree (get_or b.targets k 0) (target_of b k) (slice_get-get_or b.points (get_or b.targets k 0) no_point position.inside)))
          ∙ ap (λ grid. box_in b.points b.cap P lists (leaf_at b.points b.cap grid z) z) (sym are.of_grid)

    pub box_contains : (value : CBox) → IsTargetBox P b k value → BoxContains unit value (direct_sum (target_place b k) b.points)
    box_contains value h =
        subst (λ e. BoxEndsContain unit e (direct_sum (target_place b k) b.points)) (sym (h (some_lists P b is).0 (some_lists P b is).1))
        (at_target (λ t. BoxEndsContain unit (target_box b.points b.cap P (some_lists P b is).0 (place t)) (direct_sum (place t) b.points))
        (field_contains b.tree.grid b.points b.cap P (some_lists P b is).0 (grid_positive b.tree.grid is.is_tree.known_grid) (order_bounds P is.order).0 (inside P b is) (some_lists P b is).1) k lt)

    pub box_small : (value : CBox) → IsTargetBox P b k value → BoxWithin (most_box b.tree.grid) value
    box_small value h =
        subst (BoxEndsWithin (most_box b.tree.grid)) (sym (h (some_lists P b is).0 (some_lists P b is).1))
        (at_target (λ t. BoxEndsWithin (most_box b.tree.grid) (target_box b.points b.cap P (some_lists P b is).0 (place t))) boxes_small k lt)

-- The pairs of all targets, one after another, are those of all U entries.
use Rattle.std.proofs.Common.{ℕ, ◌≡◌, ◌≢◌, ◌∙◌, ◌<◌, List, [], ◌∷◌, map, get_or, Bool, true, false, not, cond, filter, refl, sym, ap, arith}
use Rattle.std.specs.Prelude.{Contains, sum_by}
use Rattle.std.specs.List.{range_with_len}
use Rattle.std.proofs.lemmas.List.Elements.{Contains-get_or}
use Rattle.std.proofs.lemmas.Option.{slice_get-get_or}
use Rattle.cell_name.specs.Square.{Square, holds_test}
use Rattle.cell_name.proofs.HoldsTest.{Holds-from_test, test-from_Holds}
use Rattle.cell_lists.specs.Lists.{AreLists}
use Rattle.cell_lists.specs.ListAt.{list_at}
use Rattle.cell_lists.proofs.CellNumbers.{same_number}
use Rattle.letters.specs.declared.Letter.TheVariants.{U}
use Rattle.limits.proofs.Grids.{grid_positive}
use Rattle.points.specs.Points.{is_source, place}
use Rattle.points.specs.declared.Point.{Point}
use Rattle.quadtree.specs.TreeModel.{IsTreeOf, size, squares, square_of, node_of, leaf_of}
use Rattle.tree_field.specs.Field.{sources_in}
use Rattle.tree_field.specs.Lists.{TreeLists, AreTreeLists}
use Rattle.tree_field.specs.Work.{pairs_between, pairs}
use Rattle.tree_field.proofs.Leaves.{only_leaf}
use Rattle.exact_math.proofs.Lists.{All-from_members, AllPairs-both, AllPairs-range, Contains-range, filter-filter, range_below}
use Rattle.tree_field.proofs.Program.{nodes_of_tree, leaves_of_tree}
use Rattle.soundness.proofs.Sums.{sum_by-map, sum_by-same}
use Rattle.tree_field.proofs.Work.{work_of_tree}
use Rattle.field_basis.specs.Basis.{BasisModel, IsBasis}
use Rattle.field_basis.specs.Counts.{count_apart, sources_at}
use Rattle.field_basis.specs.Targets.{no_point, point_at, target_positions}
use Rattle.field_basis.proofs.Positions.{targets_at, IsTargetPosition, positions_are, leaf_at_position}
use Rattle.field_basis.proofs.Sizes.{inside}
use Rattle.target_values.proofs.Sums.{sum_by-exchange, sum_by-filter, sum_by-one}
use Rattle.target_values.specs.Values.{count_of_cell}
use Rattle.quadtree.specs.Tree.{is_target_in}

no_members : (xs : List ℕ) → ((x : ℕ) → Contains xs x → ⊥) → xs ≡ []
no_members [] none = refl
no_members (x ∷ xs) none = absurd (none x (0, omega arith, refl))

-- the pairs of the target at a position with the sources of the U entries of a leaf
abbrev pub count_at : BasisModel → ℕ → ℕ → ℕ
count_at b n k = sum_by (count_of_cell b (place (point_at b.points k))) (list_at b.lists.u n)

module _ (P : ℕ) (b : BasisModel) (stands : IsBasis P b) where
  are : AreLists b.tree b.lists
  are = stands.lists_are

  h : IsTreeOf b.tree b.points b.cap
  h = stands.is_tree

  -- where cell n holds the target
  abbrev share : ℕ → ℕ → ℕ
  share n k = cond (holds_test (square_of b.tree n) (point_at b.points k).x (point_at b.points k).y) (count_at b n k) 0

  -- the pairs of one cell, target after target
  counted_in_cell : (n : ℕ) → n < size b.tree → sum_by (λ m. pairs_between b.points (square_of b.tree n) (square_of b.tree m)) (list_at b.lists.u n) ≡ sum_by (share n) (target_positions b.points)
  counted_in_cell n lt =
      let s : Square = square_of b.tree n in
      let us : List ℕ = list_at b.lists.u n in
      let f : Point → ℕ = λ t. sum_by (count_of_cell b (place t)) (list_at b.lists.u n) in
      let held : Point → Bool = λ t. holds_test s t.x t.y in
      let below = (are.each b.points b.cap (inside P b stands) h U n lt).numbers in
      let in_turn : sum_by (λ m. pairs_between b.points s (square_of b.tree m)) us ≡ sum_by (λ t. sum_by (λ m. count_apart (place t) (sources_in b.points (square_of b.tree m))) us) (filter (is_target_in s) b.points) =
      sum_by-exchange (λ m t. count_apart (place t) (sources_in b.points (square_of b.tree m))) us (filter (is_target_in s) b.points) in
      let listed : sum_by (λ t. sum_by (λ m. count_apart (place t) (sources_in b.points (square_of b.tree m))) us) (filter (is_target_in s) b.points) ≡ sum_by f (filter (is_target_in s) b.points) =
      sum_by-same (λ t. sum_by (λ m. count_apart (place t) (sources_in b.points (square_of b.tree m))) us) f (filter (is_target_in s) b.points) (λ k d l.
      sum_by-same (λ m. count_apart (place (get_or (filter (is_target_in s) b.points) k d)) (sources_in b.points (square_of b.tree m))) (λ m. count_apart (place (get_or (filter (is_target_in s) b.points) k d)) (sources_at b.points (node_of b.tree m).members)) us
      (λ i e j. ap (count_apart (place (get_or (filter (is_target_in s) b.points) k d))) (sym ((nodes_of_tree b.tree b.points b.cap (inside P b stands) h (get_or us i e) (below i e j)).members no_point)))) in
      let among : filter (is_target_in s) b.points ≡ filter held (map (point_at b.points) (target_positions b.points)) = sym (ap (filter held) (targets_at b.points) ∙ filter-filter held (λ p. not (is_source p.kind)) b.points) in
      in_turn ∙ listed ∙ ap (sum_by f) among ∙ sum_by-filter held f (map (point_at b.points) (target_positions b.points)) ∙ sum_by-map (λ t. cond (held t) (f t) 0) (point_at b.points) (target_positions b.points)

  -- only leaves have U entries
  no_pairs : (n : ℕ) → n < size b.tree → (k : ℕ) → IsTargetPosition b.points k → n ≢ leaf_of b.tree k → share n k ≡ 0
  no_pairs n lt k is ne = step (holds_test (square_of b.tree n) (point_at b.points k).x (point_at b.points k).y) none
    where
      none : holds_test (square_of b.tree n) (point_at b.points k).x (point_at b.points k).y ≡ true → count_at b n k ≡ 0
      none held = ap (sum_by (λ c. count_apart (place (point_at b.points k)) (sources_at b.points (node_of b.tree c).members))) (no_members (list_at b.lists.u n) (λ c m.
          let l = are.each b.points b.cap (inside P b stands) h U n lt in
          let p : Point = point_at b.points k in
          let e = (l.exact c (numbers_below c m)).0 m in
          let here = Contains-get_or b.points k no_point is.inside in
          let leaf = only_leaf b.tree.grid b.points b.cap (squares b.tree) (grid_positive b.tree.grid h.known_grid) (inside P b stands) h.cells_are p here (square_of b.tree n) e.pair.0 (Holds-from_test (square_of b.tree n) p.x p.y held) in
          ne (same_number b.tree h.cells_are.ascending n (leaf_of b.tree k) lt (leaf_at_position b.tree b.points b.cap h k no_point is.inside).in_range
          (leaf ∙ leaves_of_tree b.tree b.points b.cap (inside P b stands) h k p (slice_get-get_or b.points k no_point is.inside)))))
        where
          numbers_below : (c : ℕ) → Contains (list_at b.lists.u n) c → c < size b.tree
          numbers_below c m = let all = (are.each b.points b.cap (inside P b stands) h U n lt).numbers m.0 c m.1 in omega (arith, all, m.2)

      step : (t : Bool) → (t ≡ true → count_at b n k ≡ 0) → cond t (count_at b n k) 0 ≡ 0
      step true none = none refl
      step false none = refl

  -- a target's pairs are those of its leaf
  counted_at_leaf : (k : ℕ) → IsTargetPosition b.points k → sum_by (λ n. share n k) (range_with_len 0 (size b.tree)) ≡ count_at b (leaf_of b.tree k) k
  counted_at_leaf k is =
      let p : Point = point_at b.points k in
      let l = leaf_at_position b.tree b.points b.cap h k no_point is.inside in
      let r : List ℕ = range_with_len 0 (size b.tree) in
      sum_by-one (λ n. share n k) r (leaf_of b.tree k)
      (AllPairs-both (λ n. n < size b.tree) (λ m n. (m < n) × (n < size b.tree)) (λ m n. m ≢ n) r (All-from_members (λ n. n < size b.tree) r (range_below (size b.tree))) (AllPairs-range (size b.tree)) (λ m n lm ln less same. omega (arith, less.0, same)))
      (Contains-range (size b.tree) (leaf_of b.tree k) l.in_range)
      (λ n m ne. no_pairs n (range_below (size b.tree) n m) k is ne)
      ∙ ap (λ (t : Bool). cond t (count_at b (leaf_of b.tree k) k) 0) (test-from_Holds (square_of b.tree (leaf_of b.tree k)) p.x p.y l.held)

  pub pairs_are : (lists : TreeLists) → AreTreeLists b.tree.grid b.points b.cap lists → sum_by (λ k. count_at b (leaf_of b.tree k) k) (target_positions b.points) ≡ pairs b.points lists
  pairs_are lists given =
      let r : List ℕ = range_with_len 0 (size b.tree) in
      let positions : List ℕ = target_positions b.points in
      sym ((work_of_tree b.tree b.lists b.points b.cap lists (inside P b stands) h are given).pairs_are
      ∙ sum_by-same (λ n. sum_by (λ m. pairs_between b.points (square_of b.tree n) (square_of b.tree m)) (list_at b.lists.u n)) (λ n. sum_by (share n) positions) r (All-from_members (λ n. sum_by (λ m. pairs_between b.points (square_of b.tree n) (square_of b.tree m)) (list_at b.lists.u n) ≡ sum_by (share n) positions) r (λ n m. counted_in_cell n (range_below (size b.tree) n m)))
      ∙ sum_by-exchange share r positions
      ∙ sum_by-same (λ k. sum_by (λ n. share n k) r) (λ k. count_at b (leaf_of b.tree k) k) positions (λ i d l. counted_at_leaf (get_or positions i d) (positions_are b.points i d l)))

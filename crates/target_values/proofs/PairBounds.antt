-- A target takes at most one pair for each point.
use Rattle.std.proofs.Common.{ℕ, ◌≡◌, ◌∙◌, ◌<◌, ◌≤◌, List, length, get_or, Bool, true, false, not, cond, sym, ap, arith}
use Rattle.std.specs.Prelude.{sum_by}
use Rattle.std.proofs.lemmas.List.Sums.{sum_by-le, sum_by-le-sum_by}
use Rattle.exact_math.specs.Gaussian.{Gaussian}
use Rattle.cell_name.specs.Square.{Square}
use Rattle.cell_lists.specs.ListAt.{list_at}
use Rattle.field_basis.proofs.Positions.{leaf_at_position, position_at}
use Rattle.field_basis.specs.Basis.{BasisModel, IsBasis, target_leaf, target_place}
use Rattle.field_basis.specs.Counts.{count_apart, sources_at, pairs_of_target}
use Rattle.field_basis.specs.Targets.{no_point}
use Rattle.quadtree.proofs.TreeChildren.{tree_cell_at}
use Rattle.letters.specs.declared.Letter.TheVariants.{U}
use Rattle.limits.proofs.Grids.{grid_positive}
use Rattle.tree_field.proofs.Disjoint.{entries_share_no_source}
use Rattle.near_field.specs.Pair.{is_at}
use Rattle.points.specs.declared.Point.{Point}
use Rattle.quadtree.specs.TreeModel.{size, square_of, node_of}
use Rattle.tree_field.specs.Field.{sources_in}
use Rattle.tree_field.proofs.EachList.{each_list_has_tree}
use Rattle.tree_field.proofs.Program.{lists_of_tree, nodes_of_tree}
use Rattle.soundness.proofs.Sums.{sum_by-map, sum_by-same}
use Rattle.field_basis.proofs.Sizes.{inside}
use Rattle.target_values.specs.Values.{count_of_cell}

abbrev count : List Point → ℕ
count some = sum_by (λ p. 1) some

count_apart-le : (z : Gaussian) (some : List Point) → count_apart z some ≤ count some
count_apart-le z some = sum_by-le-sum_by (λ p. cond (not (is_at z p)) 1 0) (λ p. 1) some (λ p. one (not (is_at z p)))
  where
    one : (b : Bool) → cond {A = ℕ} b 1 0 ≤ 1
    one true = omega arith
    one false = omega arith

module _ (P : ℕ) (b : BasisModel) (is : IsBasis P b) where
  counted-le : (n : ℕ) → n < size b.tree → (z : Gaussian) → sum_by (count_of_cell b z) (list_at b.lists.u n) ≤ length b.points
  counted-le n lt z =
      let f : Square → ℕ = λ c. count (sources_in b.points c) in
      let g : ℕ → ℕ = λ c. count (sources_at b.points (node_of b.tree c).members) in
      let positive = grid_positive b.tree.grid is.is_tree.known_grid in
      let field = each_list_has_tree b.tree.grid b.points b.cap positive (inside P b is) in
      let entries = (lists_of_tree b.tree b.lists b.points b.cap field.0 (inside P b is) is.is_tree is.lists_are field.1).entries U n lt in
      let below = (is.lists_are.each b.points b.cap (inside P b is) is.is_tree U n lt).numbers in
      let near = sum_by-le-sum_by (count_of_cell b z) g (list_at b.lists.u n) (λ c. count_apart-le z (sources_at b.points (node_of b.tree c).members)) in
      let same : sum_by g (list_at b.lists.u n) ≡ sum_by f (field.0.entries U (square_of b.tree n)) =
      sum_by-same g (λ c. f (square_of b.tree c)) (list_at b.lists.u n) (λ i d l. ap count ((nodes_of_tree b.tree b.points b.cap (inside P b is) is.is_tree (get_or (list_at b.lists.u n) i d) (below i d l)).members no_point))
      ∙ sym (ap (sum_by f) entries ∙ sum_by-map f (square_of b.tree) (list_at b.lists.u n)) in
      let most = entries_share_no_source b.tree.grid b.points b.cap field.0 positive (inside P b is) field.1 U (square_of b.tree n) (tree_cell_at b.tree b.points b.cap n is.is_tree lt) (λ p. 1) in
      let all = sum_by-le (λ (p : Point). 1) 1 b.points (λ k d l. omega arith) in
      omega (arith, near, same, most, all)

  pub few_pairs : (k : ℕ) → k < length b.targets → pairs_of_target b k ≤ length b.points
  few_pairs k lt = counted-le (target_leaf b k) (leaf_at_position b.tree b.points b.cap is.is_tree (get_or b.targets k 0) no_point (position_at b.points b.targets is.targets_are k lt).inside).in_range (target_place b k)

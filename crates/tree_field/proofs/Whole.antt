-- The field of a list meets the rules of soundness, and so its boxes contain the direct sum.
use Rattle.std.proofs.Common.{ℕ, ◌≡◌, ◌<◌, ◌≤◌, inl, inr, List, [], ◌∷◌, length, get_or, map, Bool, true, false, not, ◌&&◌, filter, refl, sym, ap, ◌∙◌, subst, arith}
use Rattle.std.specs.Prelude.{pos, ◌^◌, All, Contains, fold}
use Rattle.std.specs.List.{count_by}
use Rattle.std.proofs.lemmas.Bool.{cases_Bool, and_from}
use Rattle.std.proofs.lemmas.List.{get_or-map}
use Rattle.std.proofs.lemmas.List.Elements.{All-map, filter_agree}
use mathlib.Core.Logic.{⊎_elim}
use Rattle.exact_math.specs.Ends.{BoxEndsContain}
use Rattle.exact_math.specs.Gaussian.{Gaussian}
use Rattle.exact_math.specs.Ratio.{zero_complex, ◌+ᶜ◌}
use Rattle.cell_name.specs.Square.{Square, holds_test}
use Rattle.near_field.specs.DirectSum.{acts_on, direct_sum}
use Rattle.points.specs.Points.{is_source, place}
use Rattle.near_field.specs.Pair.{is_at, term_of}
use Rattle.points.specs.declared.Point.{Point}
use Rattle.quadtree.specs.Tree.{AreInGrid, IsLeaf, count_in, has_target, is_target_in}
use Rattle.quadtree.proofs.Distinct.{Contains-filter}
use Rattle.row_recursions.proofs.Geometry.{held_places}
use Rattle.soundness.specs.Accounts.{LeafSource, LeafTarget, Accounting, under, is_leaf, has_target_under, accounts, points_of}
use Rattle.soundness.specs.Rules.{SourceStands, TargetStands, IsTiled, BoxHolds, Rules}
use Rattle.soundness.specs.Squares.{IsIn}
use Rattle.soundness.proofs.Inside.{BoxEndsInside-same, RowInside-same}
use Rattle.soundness.proofs.Nodes.{under-self}
use Rattle.soundness.proofs.Targets.{boxes_contain}
use Rattle.tree_field.specs.Contains.{FieldContains}
use Rattle.tree_field.specs.Lists.{TreeLists, AreTreeLists}
use Rattle.tree_field.specs.Field.{targets, leaf_at, box_in, target_box}
use Rattle.tree_field.proofs.Accounts.{leaf_number, leaf_source, leaf_target, sources, accounting}
use Rattle.tree_field.proofs.Entries.{entries_in_range, entries_apart, accounted_once}
use Rattle.tree_field.proofs.Leaves.{leaf_is, leaf_holds, leaf_number_below, cell_of_leaf, under_is_holding}
use Rattle.tree_field.proofs.LocalRows.{local_rows_same, radii_same, boxes_same}
use Rattle.exact_math.proofs.Lists.{All-from_members, filter-filter, image_of}
use Rattle.tree_field.proofs.Members.{found, list_any-member}
use Rattle.tree_field.proofs.MultipoleRows.{split_from_node, leaf_rows_same, inner_rows_same}
use Rattle.tree_field.proofs.Numbers.{cell_at, above, tree_cell, level_positive, above_root, above_first, cell_above}

module _ (grid : ℕ) (points : List Point) (cap P : ℕ) (lists : TreeLists) (positive : 0 < grid) (inside : AreInGrid grid points) (are : AreTreeLists grid points cap lists) where
  abbrev given : Accounting
  given = accounting grid points cap P lists

  abbrev cell : ℕ → Square
  cell n = cell_at lists.cells n

  listed_source : (p : Point) → Contains (sources points) p → Contains points p
  listed_source p h = (Contains-filter _ points p h).0

  listed_target : (t : Point) → Contains (targets points) t → Contains points t
  listed_target t h = (Contains-filter _ points t h).0

  -- a node whose cell is a leaf is one
  node_is_leaf : (n : ℕ) → n < length lists.cells → IsLeaf grid points cap (cell n) → is_leaf given n ≡ true
  node_is_leaf n lt leaf = ⊎_elim (λ e. e) (λ e. absurd (neither (split_from_node grid points cap P lists positive inside are n lt e))) (cases_Bool (is_leaf given n))
    where
      neither : (cap < count_in points (cell n)) × ((cell n).level < grid) → ⊥
      neither split = elim leaf.ends [ inl few ↦ absurd (omega (arith, split.0)) | inr last ↦ absurd (omega (arith, split.1)) ]

  place_in_leaf : (p : Point) → Contains points p → IsIn (cell (leaf_number grid points cap lists p)) (place p)
  place_in_leaf p h = subst (λ c. IsIn c (place p)) (sym (cell_of_leaf grid points cap lists.cells positive inside are.cells_are p h)) (held_places _ p.x p.y (leaf_holds grid points cap lists.cells positive inside are.cells_are p h))

  in_range : (p : Point) → Contains points p → leaf_number grid points cap lists p < length lists.cells
  in_range p h = leaf_number_below grid points cap lists.cells positive inside are.cells_are p h

  source_stands : (p : Point) → Contains points p → SourceStands given (leaf_source grid points cap lists p)
  source_stands p h = record {
    in_range = in_range p h;
    leaf = node_is_leaf _ (in_range p h) (subst (IsLeaf grid points cap) (sym (cell_of_leaf grid points cap lists.cells positive inside are.cells_are p h)) (leaf_is grid points cap lists.cells positive inside are.cells_are p h));
    held = place_in_leaf p h;
  }

  target_stands : (t : Point) → Contains points t → TargetStands given (leaf_target grid points cap P lists t)
  target_stands t h = record { in_range = in_range t h; held = place_in_leaf t h }

  -- a fact of all targets
  All-targets : (Q : LeafTarget → Type 0) → ((t : Point) → Contains (targets points) t → Q (leaf_target grid points cap P lists t)) → All Q given.targets
  All-targets Q h = All-map Q (leaf_target grid points cap P lists) (targets points) (All-from_members (λ t. Q (leaf_target grid points cap P lists t)) (targets points) h)

  All-sources : (Q : LeafSource → Type 0) → ((p : Point) → Contains (sources points) p → Q (leaf_source grid points cap lists p)) → All Q given.sources
  All-sources Q h = All-map Q (leaf_source grid points cap lists) (sources points) (All-from_members (λ p. Q (leaf_source grid points cap lists p)) (sources points) h)

  -- the cell of a node above a target has it
  target_here : (t : Point) → Contains (targets points) t → (n : ℕ) → n < length lists.cells → under (above lists.cells) (leaf_number grid points cap lists t) n ≡ true → has_target points (cell n) ≡ true
  target_here t h n lt u =
      let l = Contains-filter _ points t h in
      list_any-member (is_target_in (cell n)) points t l.0 (and_from (not (is_source t.kind)) (holds_test (cell n) t.x t.y) l.1
      (sym (under_is_holding grid points cap lists.cells positive inside are.cells_are t l.0 n lt) ∙ u))

  target_under : (n : ℕ) → n < length lists.cells → has_target_under given n ≡ true → has_target points (cell n) ≡ true
  target_under n lt e =
      let f = found (λ (x : LeafTarget). under given.parent x.leaf n) given.targets e in
      let i = image_of (leaf_target grid points cap P lists) (targets points) f.member f.listed in
      target_here i.source i.listed n lt (ap (λ (x : LeafTarget). under (above lists.cells) x.leaf n) i.gives ∙ f.passes)

  at_most : (m n : ℕ) → m ≡ n → m ≤ n
  at_most m n e = omega arith

  -- the field meets the rules
  pub rules_met : Rules P given
  rules_met = record {
    root = above_root grid points cap lists.cells positive inside are.cells_are;
    parents = above_first grid points cap lists.cells positive inside are.cells_are;
    quarters = λ n lo lt.
        let here = tree_cell grid points cap lists.cells positive inside are.cells_are n lt in
        record {
          below_root = level_positive grid points cap lists.cells positive inside are.cells_are n lo lt;
          in_grid = omega (arith, here.level_in_grid, here.of_grid);
          parent_is = sym (cell_above grid points cap lists.cells positive inside are.cells_are n lo lt);
        };
    sources = All-sources (SourceStands given) (λ p h. source_stands p (listed_source p h));
    targets = All-targets (TargetStands given) (λ t h. target_stands t (listed_target t h));
    in_range = entries_in_range grid points cap P lists positive inside are;
    apart = entries_apart grid points cap P lists positive inside are;
    tiled = All-targets (λ t. IsTiled given t.leaf)
        (λ t ht. All-sources (λ x. count_by (accounts given (leaf_number grid points cap lists t) x) given.entries ≡ 1) (λ p hp. accounted_once grid points cap P lists positive inside are t p ht hp));
    multipoles = λ n lt. record {
      of_leaf = λ e. RowInside-same P _ _ (leaf_rows_same grid points cap P lists positive inside are n lt e);
      of_inner = λ e. RowInside-same P _ _ (inner_rows_same grid points cap P lists positive inside are n lt e);
    };
    locals = λ n lt h. record {
      row = RowInside-same P _ _ (local_rows_same grid points cap P lists positive inside are n lt (target_under n lt h));
      radius = at_most _ _ (radii_same grid points cap P lists positive inside are n lt (target_under n lt h));
    };
    boxes = All-targets (BoxHolds P given)
        (λ t h. BoxEndsInside-same (boxes_same grid points cap P lists positive inside are (leaf_target grid points cap P lists t) (in_range t (listed_target t h))
        (target_here t h (leaf_number grid points cap lists t) (in_range t (listed_target t h))
        (under-self (above lists.cells) (above_root grid points cap lists.cells positive inside are.cells_are) (above_first grid points cap lists.cells positive inside are.cells_are) (leaf_number grid points cap lists t)))
        ∙ ap (λ c. box_in points cap P lists c (place t)) (cell_of_leaf grid points cap lists.cells positive inside are.cells_are t (listed_target t h) ∙ ap (λ g. leaf_at points cap g (place t)) (sym are.of_grid))));
  }

-- ---- the sources alone have the direct sum of the list
and_again : (a b : Bool) → (a && (a && b)) ≡ (a && b)
and_again true b = refl
and_again false b = refl

points_back : (grid : ℕ) (points : List Point) (cap : ℕ) (lists : TreeLists) (xs : List Point) → points_of (map (leaf_source grid points cap lists) xs) ≡ xs
points_back grid points cap lists [] = refl
points_back grid points cap lists (x ∷ xs) = ap (λ l. x ∷ l) (points_back grid points cap lists xs)

sum_of_sources : (t : Gaussian) (points : List Point) → direct_sum t (filter (λ p. is_source p.kind) points) ≡ direct_sum t points
sum_of_sources t points = ap (fold (λ sum p. sum +ᶜ term_of t p) zero_complex)
    (filter-filter (acts_on t) (λ p. is_source p.kind) points
    ∙ filter_agree (λ p. is_source p.kind && acts_on t p) (acts_on t) (λ p. and_again (is_source p.kind) (not (is_at t p))) points)

pub field_contains : FieldContains
field_contains grid points cap P lists positive orders inside are = λ k d lt.
    let all = boxes_contain P (accounting grid points cap P lists) orders (rules_met grid points cap P lists positive inside are) in
    let f : Point → LeafTarget = leaf_target grid points cap P lists in
    let t : Point = get_or (targets points) k d in
    let here = all k (f d) (omega (arith, lt, images f (targets points))) in
    let same : get_or (map f (targets points)) k (f d) ≡ f t = get_or-map f (targets points) k d (f d) lt in
    let sums : direct_sum (place t) (points_of (map (leaf_source grid points cap lists) (sources points))) ≡ direct_sum (place t) points =
    ap (direct_sum (place t)) (points_back grid points cap lists (sources points)) ∙ sum_of_sources (place t) points in
    subst (BoxEndsContain (pos (2 ^ 40)) (target_box points cap P lists (place t))) sums
    (subst (λ (x : LeafTarget). BoxEndsContain (pos (2 ^ 40)) x.box (direct_sum x.place (points_of (accounting grid points cap P lists).sources))) same here)
  where
    images : (f : Point → LeafTarget) (xs : List Point) → length (map f xs) ≡ length xs
    images f [] = refl
    images f (x ∷ xs) = let e = images f xs in omega arith

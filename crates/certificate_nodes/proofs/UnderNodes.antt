-- The points of a certificate in its nodes, and what they add up to under each.
use Rattle.std.proofs.Common.{ℕ, ◌+◌, ◌≡◌, ◌<◌, ◌≤◌, ◌==◌, ◌^◌, Bool, true, false, not, List, [], length, map, filter, sum, inl, inr, sym, ap, ◌∙◌, subst, arith}
use Rattle.std.specs.Prelude.{All, sum_by}
use Rattle.std.specs.List.{range_with_len}
use Rattle.std.proofs.lemmas.Bool.{cases_lt, ne_eqb}
use Rattle.std.proofs.lemmas.List.{get_or_past, length-map}
use Rattle.std.proofs.lemmas.List.Elements.{All-map, All-weaker}
use Rattle.std.proofs.lemmas.List.FromFn.{length-map-range_with_len, get_or-map-range_with_len}
use Rattle.std.proofs.lemmas.List.Sums.{sum_by-le-sum_by}
use Rattle.accounting_text.specs.Given.{number_at}
use Rattle.cert_text.specs.Certificate.{Certificate, IsCertificate}
use Rattle.cert_text.specs.Lines.{line}
use Rattle.certificate_rules.proofs.GivenPoints.{sources_hold, targets_hold, sources_are, targets_are}
use Rattle.certificate_rules.proofs.Ranges.{at_in_nodes, parent_less, root_parent}
use Rattle.certificate_rules.specs.LineRules.{HeadHolds, presented, targets_of}
use Rattle.exact_math.proofs.Orders.{order_bounds}
use Rattle.exact_math.specs.Sizes.{weight_at}
use Rattle.groups.specs.GroupsByKey.{group_at}
use Rattle.limits.proofs.Grids.{version_has_grid, within_widest}
use Rattle.limits.specs.Limits.{grid_of, most_points, most_weight, widest_grid}
use Rattle.node_sums.specs.Sums.{AreParents, parent_in}
use Rattle.points.proofs.Ranges.{range_in_widest}
use Rattle.points.specs.Limits.{InRange, WithinLimits, total_weight, weight64}
use Rattle.points.specs.Points.{is_source, place, pole, dipole}
use Rattle.points.specs.declared.Point.{Point}
use Rattle.points.specs.declared.Points.{Points}
use Rattle.row_recursions.proofs.Points.{weight-le-weight64}
use Rattle.soundness.proofs.Sums.{sum_by-map}
use Rattle.soundness.specs.Accounts.{Accounting, LeafSource, LeafTarget, sources_under, under}
use Rattle.soundness.specs.Computed.{point_of, weight_under}
use Rattle.certificate_nodes.proofs.Counts.{few_points}
use Rattle.certificate_nodes.proofs.Given.{sources_of_key, targets_of_key}
use Rattle.certificate_nodes.proofs.Groups.{group_of, in_points}
use Rattle.certificate_nodes.proofs.Sums.{count_is, sum_by-kept, sum_is, sums_are}
use Rattle.certificate_nodes.specs.AtNodes.{sources_at, places_at}
use Rattle.certificate_nodes.specs.Gathered.{of_nodes, point_groups, point_rows, targets_under}
use Rattle.certificate_nodes.specs.AtNodes.{no_point, point_at, points_at}
use Rattle.certificate_nodes.specs.Keys.{key_at, parent_at, parents_of}
use Rattle.certificate_nodes.specs.PointRows.{row_at}
use Rattle.certificate_nodes.specs.UnderNodes.{AddUp, AreLightRows, own_counts, own_weights, points_weight, sums_under}

module _ (points : Points) (c : Certificate) (is : IsCertificate c) (head : HeadHolds points c) where
  abbrev pub A : Accounting
  A = presented points c

  abbrev pub ps : List Point
  ps = points.list

  abbrev pub rows : Bool → List (List Point)
  rows sources = point_rows ps c sources

  as_many : length c.ats ≡ length ps
  as_many = is.ats_are ∙ head.point_count

  as_many_targets : length c.targets ≡ length (targets_of ps)
  as_many_targets = is.targets_are ∙ head.target_count

  -- ---- rows
  pub row_each : (sources : Bool) → length (rows sources) ≡ c.head.cells
  row_each sources = length-map-range_with_len (λ n. points_at ps (group_at (point_groups ps c sources) n)) 0 c.head.cells

  row_is : (sources : Bool) (n : ℕ) → n < c.head.cells → row_at (rows sources) n ≡ points_at ps (group_at (point_groups ps c sources) n)
  row_is sources n lt = get_or-map-range_with_len (λ n. points_at ps (group_at (point_groups ps c sources) n)) 0 c.head.cells n n [] lt (omega arith)

  group_is : (sources : Bool) (n : ℕ) → n < c.head.cells → group_at (point_groups ps c sources) n ≡ filter (λ k. key_at c sources ps k == n) (range_with_len 0 (length ps))
  group_is sources n lt = group_of (key_at c sources ps) (length ps) (c.head.cells + 1) n (omega (arith, lt))

  other : (n : ℕ) → n < c.head.cells → (c.head.cells == n) ≡ false
  other n lt = ne_eqb c.head.cells n (λ e. omega (arith, lt, e))

  pub source_row : (n : ℕ) → n < c.head.cells → row_at (rows true) n ≡ sources_at A n
  source_row n lt = row_is true n lt ∙ ap (points_at ps) (group_is true n lt) ∙ sources_of_key c.head.cells n (other n lt) ps c.ats as_many

  pub target_row : (n : ℕ) → n < c.head.cells → map place (row_at (rows false) n) ≡ places_at A n
  target_row n lt = ap (map place) (row_is false n lt ∙ ap (points_at ps) (group_is false n lt)) ∙ targets_of_key c.head.cells n (other n lt) ps c.ats c.targets as_many as_many_targets

  -- ---- parents
  parent_same : (k : ℕ) → parent_in (parents_of c) k ≡ A.parent k
  parent_same k = elim (cases_lt k c.head.cells) [
    | inl lt ↦ get_or-map-range_with_len (parent_at c) 0 c.head.cells k k 0 lt (omega arith)
    | inr ge ↦
        get_or_past (parents_of c) k 0 (omega (arith, ge, length-map-range_with_len (parent_at c) 0 c.head.cells))
        ∙ sym (ap (λ l. number_at l 0) (get_or_past c.nodes k (line [] []) (omega (arith, ge, is.nodes_are))))
  ]

  parents_same : parent_in (parents_of c) ≡ A.parent
  parents_same = λ i k. parent_same k i

  pub are_parents : AreParents (parents_of c)
  are_parents = record {
    root = parent_same 0 ∙ root_parent c is;
    smaller = λ n positive lt. let less = parent_less c is n positive in omega (arith, less, parent_same n);
  }

  -- ---- each point is in a node
  sources_inside : All (λ (x : LeafSource). x.leaf < c.head.cells) A.sources
  sources_inside = sources_hold (λ z n. n < c.head.cells) ps c.ats as_many (λ k lt. at_in_nodes c is k (omega (arith, lt, head.point_count)))

  targets_inside : All (λ (t : LeafTarget). t.leaf < c.head.cells) A.targets
  targets_inside = targets_hold (λ z n. n < c.head.cells) ps c.ats c.targets as_many (λ k lt. at_in_nodes c is k (omega (arith, lt, head.point_count)))

  few_sources : length A.sources ≤ length ps
  few_sources = omega (arith, ap length (sources_are ps c.ats as_many), length-map A.sources point_of, count_is ps, count_is (filter (λ p. is_source p.kind) ps), sum_by-kept (λ p. is_source p.kind) (λ p. 1) ps)

  few_targets : length A.targets ≤ length ps
  few_targets =
      omega (arith, ap length (targets_are ps c.ats c.targets as_many as_many_targets), length-map A.targets (λ t. t.place), length-map (targets_of ps) place, count_is ps, count_is (targets_of ps), sum_by-kept (λ p. not (is_source p.kind)) (λ p. 1) ps)

  -- ---- counts
  source_own : (n : ℕ) → n < c.head.cells → length (row_at (rows true) n) ≡ sum_by (λ (x : LeafSource). 1) (filter (λ x. x.leaf == n) A.sources)
  source_own n lt = ap length (source_row n lt) ∙ length-map (filter (λ x. x.leaf == n) A.sources) point_of ∙ sym (count_is (filter (λ x. x.leaf == n) A.sources))

  target_own : (n : ℕ) → n < c.head.cells → length (row_at (rows false) n) ≡ sum_by (λ (t : LeafTarget). 1) (filter (λ t. t.leaf == n) A.targets)
  target_own n lt =
      sym (length-map (row_at (rows false) n) place) ∙ ap length (target_row n lt) ∙ length-map (filter (λ t. t.leaf == n) A.targets) (λ t. t.place) ∙ sym (count_is (filter (λ t. t.leaf == n) A.targets))

  -- ---- weights
  abbrev weighs : ℕ → Point → ℕ
  weighs order p = weight_at order (pole p.kind) (dipole p.kind)

  abbrev weighs_source : ℕ → LeafSource → ℕ
  weighs_source order x = weighs order x.point

  weight_own : (order n : ℕ) → n < c.head.cells → points_weight order (row_at (rows true) n) ≡ sum_by (weighs_source order) (filter (λ x. x.leaf == n) A.sources)
  weight_own order n lt = ap (points_weight order) (source_row n lt) ∙ sum_by-map (weighs order) point_of (filter (λ x. x.leaf == n) A.sources)

  all_weigh : (order : ℕ) → order ≤ 32 → sum_by (weighs_source order) A.sources ≤ total_weight ps
  all_weigh order few =
      let same : sum_by (weighs_source order) A.sources ≡ sum_by (weighs order) (filter (λ p. is_source p.kind) ps) = sym (sum_by-map (weighs order) point_of A.sources) ∙ ap (sum_by (weighs order)) (sources_are ps c.ats as_many) in
      let kept = sum_by-kept (λ p. is_source p.kind) (weighs order) ps in
      let each = sum_by-le-sum_by (weighs order) weight64 ps (λ p. weight-le-weight64 order p few) in
      omega (arith, same, kept, each)

  -- ---- all values add up, and to which sums
  each_row : (sources : Bool) {X : Type 0} (leaf : X → ℕ) (items : List X) → All (λ x. leaf x < c.head.cells) items → All (λ x. leaf x < length (rows sources)) items
  each_row sources leaf items h = subst (λ m. All (λ x. leaf x < m) items) (sym (row_each sources)) h

  abbrev adds_up : (values : ℕ → ℕ) (sources : Bool) → sum (map values (range_with_len 0 (length (rows sources)))) < 2 ^ 64 → AddUp (parents_of c) (map values (range_with_len 0 (length (rows sources))))
  adds_up values sources small = record {
    are_parents = are_parents;
    as_many = omega (arith, length-map-range_with_len (parent_at c) 0 c.head.cells, length-map-range_with_len values 0 (length (rows sources)), row_each sources);
    room = small;
  }

  over_nodes : (sources : Bool) (f : ℕ → ℕ) → map f (range_with_len 0 (length (rows sources))) ≡ of_nodes points c f
  over_nodes sources f = ap (λ m. map f (range_with_len 0 m)) (row_each sources)

  -- the sources
  abbrev source_held : (k : ℕ) → k < length (rows true) → length (row_at (rows true) k) ≡ sum_by (λ (x : LeafSource). 1) (filter (λ x. x.leaf == k) A.sources)
  source_held k lt = source_own k (omega (arith, lt, row_each true))

  pub source_counts_add_up : AddUp (parents_of c) (own_counts (rows true))
  source_counts_add_up =
      let total = sum_is (λ x. x.leaf) (λ x. 1) A.sources (λ n. length (row_at (rows true) n)) (length (rows true)) source_held (each_row true (λ x. x.leaf) A.sources sources_inside) in
      adds_up (λ n. length (row_at (rows true) n)) true (omega (arith, total, count_is A.sources, few_sources, few_points c is, head.point_count))

  pub source_counts_are : sums_under (parents_of c) (own_counts (rows true)) ≡ of_nodes points c (λ n. length (sources_under A n))
  source_counts_are =
      sums_are (λ x. x.leaf) (λ x. 1) A.sources (λ n. length (row_at (rows true) n)) (length (rows true)) source_held (each_row true (λ x. x.leaf) A.sources sources_inside) (parents_of c) (λ n. length (sources_under A n))
      (λ n lt. ap (λ p. sum_by (λ x. 1) (filter (λ x. under p x.leaf n) A.sources)) parents_same ∙ count_is (sources_under A n))
      ∙ over_nodes true (λ n. length (sources_under A n))

  -- their weights
  abbrev weight_held : (order k : ℕ) → k < length (rows true) → points_weight order (row_at (rows true) k) ≡ sum_by (weighs_source order) (filter (λ x. x.leaf == k) A.sources)
  weight_held order k lt = weight_own order k (omega (arith, lt, row_each true))

  pub weights_are : (order : ℕ) → sums_under (parents_of c) (own_weights order (rows true)) ≡ of_nodes points c (weight_under order A)
  weights_are order =
      sums_are (λ x. x.leaf) (weighs_source order) A.sources (λ n. points_weight order (row_at (rows true) n)) (length (rows true)) (weight_held order) (each_row true (λ x. x.leaf) A.sources sources_inside) (parents_of c) (weight_under order A)
      (λ n lt. ap (λ p. sum_by (weighs_source order) (filter (λ x. under p x.leaf n) A.sources)) parents_same)
      ∙ over_nodes true (weight_under order A)

  -- the targets
  abbrev target_held : (k : ℕ) → k < length (rows false) → length (row_at (rows false) k) ≡ sum_by (λ (t : LeafTarget). 1) (filter (λ t. t.leaf == k) A.targets)
  target_held k lt = target_own k (omega (arith, lt, row_each false))

  pub target_counts_add_up : AddUp (parents_of c) (own_counts (rows false))
  target_counts_add_up =
      let total = sum_is (λ t. t.leaf) (λ t. 1) A.targets (λ n. length (row_at (rows false) n)) (length (rows false)) target_held (each_row false (λ t. t.leaf) A.targets targets_inside) in
      adds_up (λ n. length (row_at (rows false) n)) false (omega (arith, total, count_is A.targets, few_targets, few_points c is, head.point_count))

  pub target_counts_are : sums_under (parents_of c) (own_counts (rows false)) ≡ of_nodes points c (λ n. length (targets_under A n))
  target_counts_are =
      sums_are (λ t. t.leaf) (λ t. 1) A.targets (λ n. length (row_at (rows false) n)) (length (rows false)) target_held (each_row false (λ t. t.leaf) A.targets targets_inside) (parents_of c) (λ n. length (targets_under A n))
      (λ n lt. ap (λ p. sum_by (λ t. 1) (filter (λ t. under p t.leaf n) A.targets)) parents_same ∙ count_is (targets_under A n))
      ∙ over_nodes false (λ n. length (targets_under A n))

  -- ---- limits
  module _ (within : WithinLimits points) where
    abbrev grid : ℕ
    grid = grid_of points.version

    few_weights : most_weight grid ≤ most_weight widest_grid
    few_weights = (within_widest grid (version_has_grid points.version)).weight

    pub weights_add_up : (order : ℕ) → order ≤ 32 → AddUp (parents_of c) (own_weights order (rows true))
    weights_add_up order few =
        let total = sum_is (λ x. x.leaf) (weighs_source order) A.sources (λ n. points_weight order (row_at (rows true) n)) (length (rows true)) (weight_held order) (each_row true (λ x. x.leaf) A.sources sources_inside) in
        adds_up (λ n. points_weight order (row_at (rows true) n)) true (omega (arith, total, all_weigh order few, within.within.weight, few_weights))

    pub rows_in_range : (sources : Bool) (n : ℕ) → n < c.head.cells → All (InRange grid) (row_at (rows sources) n)
    rows_in_range sources n lt =
        let group = group_at (point_groups ps c sources) n in
        subst (All (InRange grid)) (sym (row_is sources n lt))
        (All-map (InRange grid) (point_at ps) group (All-weaker (λ k. k < length ps) (λ k. InRange grid (point_at ps k)) (λ k below. within.within.range k no_point below) group (in_points c sources ps n)))

    pub rows_are_light : AreLightRows (rows true)
    rows_are_light n lt =
        let below : n < c.head.cells = omega (arith, lt, row_each true) in
        let kept = sum_by-kept (λ x. x.leaf == n) (weighs_source 32) A.sources in
        record {
          range = All-weaker (InRange grid) (InRange widest_grid) (λ p r. range_in_widest grid p (version_has_grid points.version) r) (row_at (rows true) n) (rows_in_range true n below);
          light = omega (arith, weight_own 32 n below, kept, all_weigh 32 (omega arith), within.within.weight, few_weights);
        }

    pub few_under : (n : ℕ) → length (sources_under A n) ≤ most_points grid
    few_under n =
        let kept = sum_by-kept (λ x. under A.parent x.leaf n) (λ x. 1) A.sources in
        omega (arith, kept, count_is (sources_under A n), count_is A.sources, few_sources, within.within.count)

    pub light_under : (n : ℕ) → weight_under c.head.order A n ≤ most_weight grid
    light_under n =
        let few = (order_bounds c.head.order is.head_is.order.is_order).1 in
        let kept = sum_by-kept (λ x. under A.parent x.leaf n) (weighs_source c.head.order) A.sources in
        omega (arith, kept, all_weigh c.head.order few, within.within.weight)

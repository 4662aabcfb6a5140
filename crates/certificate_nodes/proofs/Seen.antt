-- What is kept of a certificate over a list of points, against the accounting that it gives.
use Rattle.std.proofs.Common.{ℕ, zero, suc, ◌+◌, ◌≡◌, ◌<◌, ◌==◌, Bool, true, false, not, cond, ◌&&◌, List, length, get_or, map, filter, nat_lt, refl, sym, ap, ◌∙◌, subst, arith, eq-eqb}
use Rattle.std.specs.Prelude.{All}
use Rattle.std.specs.List.{range_with_len}
use Rattle.std.proofs.lemmas.Bool.{ne_eqb, lt-ltb}
use Rattle.std.proofs.lemmas.List.FromFn.{length-map-range_with_len, get_or-map-range_with_len}
use Rattle.accounting_text.specs.Given.{number_at}
use Rattle.cert_text.specs.Certificate.{Certificate, nth_line}
use Rattle.certificate_rules.proofs.Ranges.{at_in_nodes}
use Rattle.exact_math.proofs.Lists.{filter_same}
use Rattle.groups.proofs.Members.{members_are_in_range, one_group_a_key}
use Rattle.groups.specs.GroupsByKey.{group_at, groups_by}
use Rattle.limits.specs.Limits.{grid_of}
use Rattle.points.specs.Limits.{InRange}
use Rattle.points.specs.Points.{is_source, place}
use Rattle.points.specs.declared.Points.{Points}
use Rattle.soundness.specs.Accounts.{Accounting, children, is_leaf, has_target_under, names_parent, under}
use Rattle.certificate_nodes.proofs.Given.{as_many_numbers, target_numbers, target_stands}
use Rattle.certificate_nodes.proofs.Groups.{group_of}
use Rattle.certificate_nodes.proofs.Ranges.{any_kept, range_each}
use Rattle.certificate_nodes.proofs.UnderNodes.{row_each, source_row, target_row, rows_in_range}
use Rattle.certificate_nodes.specs.AtNodes.{sources_at, places_at, entry_numbers_at, point_at}
use Rattle.certificate_nodes.specs.Gathered.{other_points, targets_under}
use Rattle.certificate_nodes.specs.Inside.{presented_seen, IsGathered}
use Rattle.certificate_nodes.specs.Keys.{child_key, child_keys, entry_key, entry_keys, key_at}
use Rattle.certificate_nodes.specs.PointRows.{row_at}
use Rattle.certificate_nodes.specs.Presented.{IsTargetAt, PresentedModel, accounting_of}
use Rattle.certificate_nodes.specs.declared.presented.Presented.TheInside.{Inside}

-- ---- tests that count
none_or_some : (m : ℕ) → (m == 0) ≡ not (nat_lt 0 m)
none_or_some zero = refl
none_or_some (suc m) = ne_eqb (suc m) 0 (λ e. omega (arith, e)) ∙ sym (ap not (lt-ltb 0 (suc m) (omega arith)))

pub leaf_is : (A : Accounting) (n : ℕ) → (length (children A n) == 0) ≡ is_leaf A n
leaf_is A n = none_or_some (length (children A n)) ∙ sym (ap not (any_kept (names_parent A n) (range_with_len 0 A.nodes)))

pub target_is : (A : Accounting) (n : ℕ) → nat_lt 0 (length (targets_under A n)) ≡ has_target_under A n
target_is A n = sym (any_kept (λ t. under A.parent t.leaf n) A.targets)

-- ---- a number for each node
pub at_node : (f : ℕ → ℕ) (items : List ℕ) (count n r : ℕ) → items ≡ map f (range_with_len 0 count) → n < count → r ≡ get_or items n r → r ≡ f n
at_node f items count n r is lt e = e ∙ ap (λ l. get_or l n r) is ∙ get_or-map-range_with_len f 0 count n n r lt (omega arith)

pub all_nodes : (f : ℕ → ℕ) (items : List ℕ) (count n : ℕ) → items ≡ map f (range_with_len 0 count) → n < count → n < length items
all_nodes f items count n is lt = omega (arith, ap length is, length-map-range_with_len f 0 count, lt)

module _ (g : Inside) (h : IsGathered g) where
  abbrev pub seen : PresentedModel
  seen = presented_seen g

  abbrev points : Points
  points = g.points.now

  abbrev c : Certificate
  c = g.cert.now

  abbrev A : Accounting
  A = accounting_of seen

  -- ---- children
  pub has_children : (n : ℕ) → n < c.head.cells → n < length g.at_nodes.children
  has_children n lt = omega (arith, ap length h.at_nodes.children_are, one_group_a_key (child_keys c) (c.head.cells + 1), lt)

  child_test : (n : ℕ) → n < c.head.cells → (k : ℕ) → (child_key c k == n) ≡ names_parent A n k
  child_test n lt zero = ne_eqb c.head.cells n (λ e. omega (arith, lt, e))
  child_test n lt (suc k) = sym (ap (λ b. b && (child_key c (suc k) == n)) (lt-ltb 0 (suc k) (omega arith)))

  pub children_are : (n : ℕ) → n < c.head.cells → group_at g.at_nodes.children n ≡ children A n
  children_are n lt =
      ap (λ gs. group_at gs n) h.at_nodes.children_are ∙ group_of (child_key c) c.head.cells (c.head.cells + 1) n (omega (arith, lt))
      ∙ filter_same (λ k. child_key c k == n) (names_parent A n) (range_with_len 0 c.head.cells) (range_each (λ k. (child_key c k == n) ≡ names_parent A n k) c.head.cells (λ k below. child_test n lt k))

  -- ---- entries
  pub has_entries : (n : ℕ) → n < c.head.cells → n < length g.at_nodes.entries
  has_entries n lt = omega (arith, ap length h.at_nodes.entries_are, one_group_a_key (entry_keys c) c.head.cells, lt)

  pub entries_are : (n : ℕ) → n < c.head.cells → group_at g.at_nodes.entries n ≡ entry_numbers_at c n
  entries_are n lt =
      ap (λ gs. group_at gs n) h.at_nodes.entries_are ∙ group_of (entry_key c) c.head.entries c.head.cells n lt
      ∙ ap (λ m. filter (λ e. entry_key c e == n) (range_with_len 0 m)) (sym h.certificate.entries_are)

  pub entries_below : (n : ℕ) → All (λ e. e < c.head.entries) (group_at g.at_nodes.entries n)
  entries_below n =
      subst (λ gs. All (λ e. e < c.head.entries) (group_at gs n)) (sym h.at_nodes.entries_are)
      (subst (λ m. All (λ e. e < m) (group_at (groups_by (entry_keys c) c.head.cells) n)) (length-map-range_with_len (entry_key c) 0 c.head.entries) (members_are_in_range (entry_keys c) c.head.cells n))

  -- ---- points
  pub has_sources : (n : ℕ) → n < c.head.cells → n < length g.at_nodes.sources
  has_sources n lt = omega (arith, ap length h.at_nodes.sources_are, row_each points c h.certificate h.head true, lt)

  pub sources_are : (n : ℕ) → n < c.head.cells → row_at g.at_nodes.sources n ≡ sources_at A n
  sources_are n lt = ap (λ rows. row_at rows n) h.at_nodes.sources_are ∙ source_row points c h.certificate h.head n lt

  pub sources_in_range : (n : ℕ) → n < c.head.cells → All (InRange (grid_of points.version)) (row_at g.at_nodes.sources n)
  sources_in_range n lt = subst (λ rows. All (InRange (grid_of points.version)) (row_at rows n)) (sym h.at_nodes.sources_are) (rows_in_range points c h.certificate h.head h.within true n lt)

  pub has_targets : (n : ℕ) → n < c.head.cells → n < length g.at_nodes.targets
  has_targets n lt = omega (arith, ap length h.at_nodes.targets_are, row_each points c h.certificate h.head false, lt)

  pub targets_are : (n : ℕ) → n < c.head.cells → map place (row_at g.at_nodes.targets n) ≡ places_at A n
  targets_are n lt = ap (λ rows. map place (row_at rows n)) h.at_nodes.targets_are ∙ target_row points c h.certificate h.head n lt

  pub targets_in_range : (n : ℕ) → n < c.head.cells → All (InRange (grid_of points.version)) (row_at g.at_nodes.targets n)
  targets_in_range n lt = subst (λ rows. All (InRange (grid_of points.version)) (row_at rows n)) (sym h.at_nodes.targets_are) (rows_in_range points c h.certificate h.head h.within false n lt)

  -- ---- positions of the targets
  other_test : (b : Bool) (a : ℕ) → a < c.head.cells → (cond b (cond true a c.head.cells) (cond true c.head.cells a) == c.head.cells) ≡ not b
  other_test true a lt = ne_eqb a c.head.cells (λ e. omega (arith, lt, e))
  other_test false a lt = eq-eqb c.head.cells c.head.cells refl

  others_are : other_points points.list c true ≡ target_numbers points.list
  others_are =
      group_of (key_at c true points.list) (length points.list) (c.head.cells + 1) c.head.cells (omega arith)
      ∙ filter_same (λ k. key_at c true points.list k == c.head.cells) (λ k. not (is_source (point_at points.list k).kind)) (range_with_len 0 (length points.list))
      (range_each (λ k. (key_at c true points.list k == c.head.cells) ≡ not (is_source (point_at points.list k).kind)) (length points.list)
      (λ k lt. other_test (is_source (point_at points.list k).kind) (number_at (nth_line c.ats k) 0) (at_in_nodes c h.certificate k (omega (arith, lt, h.head.point_count)))))

  positions_are : g.at_nodes.positions.items ≡ target_numbers points.list
  positions_are = h.at_nodes.positions_are ∙ others_are

  pub has_positions : (k : ℕ) → k < c.head.targets → k < length g.at_nodes.positions.items
  has_positions k lt = omega (arith, ap length positions_are, as_many_numbers points.list, h.head.target_count, lt)

  pub stands : (k r : ℕ) → k < c.head.targets → r ≡ get_or g.at_nodes.positions.items k 0 → IsTargetAt seen k r
  stands k r lt e =
      let s = target_stands points.list c.ats c.targets (h.certificate.ats_are ∙ h.head.point_count) (h.certificate.targets_are ∙ h.head.target_count) k (omega (arith, lt, h.head.target_count)) in
      subst (IsTargetAt seen k) (sym (e ∙ ap (λ l. get_or l k 0) positions_are)) (record { in_list = s.inside; place_is = s.place_is; node_is = s.node_is; box_is = s.box_is })

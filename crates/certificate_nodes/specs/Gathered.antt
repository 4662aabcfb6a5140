-- What is gathered at the nodes of a certificate and under them. Only private contracts cite it.
use Rattle.std.specs.Prelude.{ℕ, ◌+◌, ◌≡◌, Bool, true, false, List, length, map, filter}
use Rattle.std.specs.List.{range_with_len}
use Rattle.cert_text.specs.Certificate.{Certificate}
use Rattle.certificate_nodes.specs.Keys.{child_keys, entry_keys, point_keys}
use Rattle.certificate_nodes.specs.PointRows.{grouped_points}
use Rattle.certificate_nodes.specs.declared.at_nodes.AtNodes.{AtNodes}
use Rattle.certificate_nodes.specs.declared.under_nodes.UnderNodes.{UnderNodes}
use Rattle.certificate_rules.specs.LineRules.{presented}
use Rattle.groups.specs.GroupsByKey.{groups_by, group_at}
use Rattle.points.specs.declared.Point.{Point}
use Rattle.points.specs.declared.Points.{Points}
use Rattle.soundness.specs.Accounts.{Accounting, LeafTarget, sources_under, under}
use Rattle.soundness.specs.Computed.{weight_under}

-- the targets in the leaves under a node
abbrev pub targets_under : Accounting → ℕ → List LeafTarget
targets_under A n = filter (λ t. under A.parent t.leaf n) A.targets

module _ (points : List Point) (c : Certificate) where
  -- the sources, or the targets, by their nodes; the other points stand in the last group
  abbrev pub point_groups : Bool → List (List ℕ)
  point_groups sources = groups_by (point_keys c sources points) (c.head.cells + 1)

  abbrev pub point_rows : Bool → List (List Point)
  point_rows sources = grouped_points points (point_groups sources) c.head.cells

  abbrev pub other_points : Bool → List ℕ
  other_points sources = group_at (point_groups sources) c.head.cells

module _ (points : Points) (c : Certificate) where
  pub record AreAtNodes (at : AtNodes) : Type 0 where
    pub children_are : at.children ≡ groups_by (child_keys c) (c.head.cells + 1)
    pub entries_are : at.entries ≡ groups_by (entry_keys c) c.head.cells
    pub sources_are : at.sources ≡ point_rows points.list c true
    pub targets_are : at.targets ≡ point_rows points.list c false
    pub positions_are : at.positions.items ≡ other_points points.list c true

  -- a number for each node
  abbrev pub of_nodes : (ℕ → ℕ) → List ℕ
  of_nodes f = map f (range_with_len 0 c.head.cells)

  pub record AreUnderNodes (sums : UnderNodes) : Type 0 where
    pub source_counts_are : sums.source_counts.items ≡ of_nodes (λ n. length (sources_under (presented points c) n))
    pub weights_are : sums.weights.items ≡ of_nodes (weight_under c.head.order (presented points c))
    pub target_counts_are : sums.target_counts.items ≡ of_nodes (λ n. length (targets_under (presented points c) n))

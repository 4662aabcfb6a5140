-- The children of a cell that have a source.
use Rattle.std.proofs.Common.{ℕ, ◌≡◌, ◌<◌, List, true, ap}
use Rattle.std.specs.Prelude.{◌==◌, nat_lt, Contains}
use Rattle.std.specs.List.{range_with_len}
use Rattle.std.proofs.lemmas.Bool.{and_parts, ltb-true, eqb-true}
use Rattle.points.specs.declared.Point.{Point}
use Rattle.quadtree.specs.TreeModel.{TreeModel, size, node_of, is_child, children_of, IsTreeOf}
use Rattle.quadtree.proofs.Distinct.{Contains-filter}
use Rattle.exact_math.proofs.Lists.{range_below}
use Rattle.tree_field.specs.Program.{with_source, source_children}

pub record IsSourceChild (tree : TreeModel) (n c : ℕ) : Type 0 where
  pub in_range : c < size tree
  pub positive : 0 < c
  pub number_is : (node_of tree c).parent ≡ n
  pub source : (node_of tree c).has_source ≡ true

pub source_child : (tree : TreeModel) (n c : ℕ) → Contains (source_children tree n) c → IsSourceChild tree n c
source_child tree n c listed =
    let kept = Contains-filter (λ m. (node_of tree m).has_source) (children_of tree n) c listed in
    let child = Contains-filter (is_child tree n) (range_with_len 0 (size tree)) c kept.0 in
    let parts = and_parts (nat_lt 0 c) ((node_of tree c).parent == n) child.1 in
    record { in_range = range_below (size tree) c child.0; positive = ltb-true 0 c parts.0; number_is = eqb-true (node_of tree c).parent n parts.1; source = kept.1 }

-- they are those with a source among the children that the tree keeps
pub source_children_are : (tree : TreeModel) (points : List Point) (cap : ℕ) → IsTreeOf tree points cap → (n : ℕ) → n < size tree → with_source tree (node_of tree n).children ≡ source_children tree n
source_children_are tree points cap h n lt = ap (with_source tree) (h.nodes_are n lt).children_are

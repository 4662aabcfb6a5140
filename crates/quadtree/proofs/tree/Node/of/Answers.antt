-- What is kept of a cell is right.
use Rattle.std.proofs.Common.{ℕ, ◌≡◌, refl, ◌≤◌, ◌⊎◌, inl, inr, List, length, Bool, ap, ◌∙◌, arith}
use Rattle.std.specs.Prelude.{IsTrue, ◌↔◌, slice_get}
use Rattle.std.specs.List.{list_any}
use Rattle.points.specs.declared.Point.{Point}
use Rattle.cell_name.specs.Cell.{square}
use Rattle.cell_name.specs.Square.{Square}
use Rattle.quadtree.specs.Nodes.{is_target_at, is_source_at}
use Rattle.quadtree.specs.Tree.{IsTreeCell, IsLeaf, count_in}
use Rattle.quadtree.proofs.PointKinds.{has_target_is, has_source_is}
use Rattle.quadtree.proofs.Positions.{length-members}
use Rattle.quadtree.proofs.tree.Node.of.Goals as goal

-- a cell of the tree is a leaf where the code says that it isn't split
leaf_is : (points : List Point) (cap : ℕ) (c : Square) (n : ℕ) (b : Bool) → IsTreeCell c.grid points cap c → n ≡ count_in points c → (IsTrue b ↔ ((n ≤ cap) ⊎ (c.level ≡ c.grid))) → IsTrue b ↔ IsLeaf c.grid points cap c
leaf_is points cap c n b in_tree count h = (
  λ t. record { in_tree = in_tree; ends = elim (h.0 t) [ inl few ↦ inl (omega (arith, few, count)) | inr last ↦ inr last ] },
  λ leaf. h.1 (elim leaf.ends [ inl few ↦ inl (omega (arith, few, count)) | inr last ↦ inr last ]),
)

pub returns : goal.returns
returns c =
    let points = c.args.points.now in
    let cell = square c.args.run.cell in
    let members = c.requires.run.members_are in
    record {
      range = record { ordered = c.requires.run.ordered; in_range = c.requires.run.in_range };
      members_are = members;
      leaf = leaf_is points c.args.cap cell _ c.is_last.result c.requires.in_tree (ap length members ∙ length-members points cell) c.is_last.ensures;
      source = has_source_is points cell c.has_source.result (c.has_source.ensures ∙ ap (list_any (λ k. is_source_at (slice_get points k))) members);
      target = has_target_is points cell c.has_target.result (c.has_target.ensures ∙ ap (list_any (λ k. is_target_at (slice_get points k))) members);
      parent_is = refl;
      children_are = refl;
    }

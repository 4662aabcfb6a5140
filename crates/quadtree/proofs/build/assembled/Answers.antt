-- The parts make the tree.
use Rattle.std.proofs.Common.{ℕ, List, length, map, sym, ap, ◌∙◌, subst}
use Rattle.std.specs.Prelude.{All}
use Rattle.std.proofs.lemmas.List.Elements.{All-weaker}
use Rattle.limits.proofs.Grids.{grid_positive}
use Rattle.cell_name.specs.Square.{Square}
use Rattle.quadtree.specs.declared.split.Run.{Run}
use Rattle.quadtree.specs.declared.tree.Node.{Node}
use Rattle.quadtree.specs.Fields.{HasRange}
use Rattle.quadtree.specs.Nodes.{AreNodesTo, LeavesAreApart, LeavesAreTo}
use Rattle.quadtree.specs.Splitting.{squares_of, parents_of}
use Rattle.quadtree.specs.Tree.{IsTreeCell}
use Rattle.quadtree.proofs.Assembled.{AreMade, four_of_runs, nodes_lent, parts_made}
use Rattle.quadtree.proofs.Whole.{leaves_apart, ranges, tree_is, fields_are}
use Rattle.quadtree.proofs.build.assembled.Goals as goal

pub children_of-requires-clause-four : goal.children_of-requires-clause-four
children_of-requires-clause-four c = four_of_runs c.args.grid c.args.points.now c.args.cap c.args.splits.runs.items c.deref-2.result.now (grid_positive c.args.grid c.requires.known_grid) c.requires.in_grid c.requires.cells c.requires.parents c.deref-2.ensures.value

pub nodes_of-requires-clause-in_tree : goal.nodes_of-requires-clause-in_tree
nodes_of-requires-clause-in_tree c =
    let P : List Run → Type 0 = λ l. All (λ s. IsTreeCell s.grid c.args.points.now c.args.cap s) (squares_of l) in
    subst P (sym c.deref-4.ensures.value) (All-weaker (IsTreeCell c.args.grid c.args.points.now c.args.cap) (λ s. IsTreeCell s.grid c.args.points.now c.args.cap s) (λ s k. own s k) (squares_of c.args.splits.runs.items) c.requires.cells.each)
  where
    own : (s : Square) → IsTreeCell c.args.grid c.args.points.now c.args.cap s → IsTreeCell s.grid c.args.points.now c.args.cap s
    own s k = let G : ℕ → Type 0 = λ g. IsTreeCell g c.args.points.now c.args.cap s in subst G (sym k.of_grid) k

nodes_are : (c : goal.After-deref-7) → AreNodesTo c.args.points.now c.args.cap c.args.splits.positions.items (squares_of c.args.splits.runs.items) (parents_of c.args.splits.runs.items) c.in_ok-families.families.items c.in_ok-nodes.nodes.items (length (squares_of c.args.splits.runs.items))
nodes_are c =
    nodes_lent c.args.points.now c.args.cap c.deref-3.result.now c.args.splits.positions.items c.deref-4.result.now c.args.splits.runs.items c.deref-5.result.now c.in_ok-families.families.items c.in_ok-nodes.nodes.items c.deref-3.ensures.value c.deref-4.ensures.value c.deref-5.ensures.value c.in_ok-nodes.ensures

pub leaves_of-requires-clause-ranges : goal.leaves_of-requires-clause-ranges
leaves_of-requires-clause-ranges c =
    let P : List ℕ → Type 0 = λ l. All (HasRange l) c.deref-6.result.now in
    let Q : List Node → Type 0 = λ l. All (HasRange c.args.splits.positions.items) l in
    subst P (sym c.deref-7.ensures.value) (subst Q (sym c.deref-6.ensures.value) (ranges c.args.grid c.args.points.now c.args.cap c.args.splits.positions.items (squares_of c.args.splits.runs.items) (parents_of c.args.splits.runs.items) c.in_ok-families.families.items c.in_ok-nodes.nodes.items (grid_positive c.args.grid c.requires.known_grid) c.requires.in_grid c.requires.cells (nodes_are c)))

pub leaves_of-requires-clause-apart : goal.leaves_of-requires-clause-apart
leaves_of-requires-clause-apart c =
    let P : List ℕ → Type 0 = λ l. LeavesAreApart l c.deref-6.result.now in
    let Q : List Node → Type 0 = λ l. LeavesAreApart c.args.splits.positions.items l in
    subst P (sym c.deref-7.ensures.value) (subst Q (sym c.deref-6.ensures.value) (leaves_apart c.args.grid c.args.points.now c.args.cap c.args.splits.positions.items (squares_of c.args.splits.runs.items) (parents_of c.args.splits.runs.items) c.in_ok-families.families.items c.in_ok-nodes.nodes.items (grid_positive c.args.grid c.requires.known_grid) c.requires.in_grid c.requires.cells (nodes_are c)))

made : (c : goal.In_ok-leaves) → AreMade c.args.grid c.args.points.now c.args.cap c.in_ok-cells.cells.items c.args.splits.runs.items c.deref-2.result.now c.in_ok-families.families.items c.in_ok-nodes.nodes.items c.args.splits.positions.items c.in_ok-leaves.leaves.items
made c =
    let leaves = c.in_ok-leaves.leaves.items in
    let P : List ℕ → Type 0 = λ l. LeavesAreTo l c.deref-6.result.now leaves (length c.deref-6.result.now) in
    let Q : List Node → Type 0 = λ l. LeavesAreTo c.args.splits.positions.items l leaves (length l) in
    record {
      known_grid = c.requires.known_grid;
      in_grid = c.requires.in_grid;
      few_points = c.requires.few_points;
      few_cells = c.requires.few_cells;
      capacity = c.requires.capacity;
      lent_are = c.deref-2.ensures.value;
      cells_of = c.in_ok-cells.ensures ∙ ap (map (λ (r : Run). r.cell)) c.deref.ensures.value;
      cells_are = c.requires.cells;
      parents_are = c.requires.parents;
      families_are = c.in_ok-families.ensures;
      nodes_are =
          nodes_lent c.args.points.now c.args.cap c.deref-3.result.now c.args.splits.positions.items c.deref-4.result.now c.args.splits.runs.items c.deref-5.result.now c.in_ok-families.families.items c.in_ok-nodes.nodes.items c.deref-3.ensures.value c.deref-4.ensures.value c.deref-5.ensures.value c.in_ok-nodes.ensures;
      as_many_leaves = c.in_ok-leaves.ensures.as_many;
      leaves_are = subst Q c.deref-6.ensures.value (subst P c.deref-7.ensures.value c.in_ok-leaves.ensures.leaves);
    }

pub invariant_of-result : goal.invariant_of-result
invariant_of-result c = fields_are c.args.grid _ c.args.cap _ _ _ _ _ _ (parts_made c.args.grid _ c.args.cap _ _ _ _ _ _ _ (made c))

pub returns-clause-tree : goal.returns-clause-tree
returns-clause-tree c = tree_is c.args.grid _ c.args.cap _ _ _ _ _ _ (parts_made c.args.grid _ c.args.cap _ _ _ _ _ _ _ (made c.before.before))

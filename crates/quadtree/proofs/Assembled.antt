-- The parts that the code makes of the runs are those of the tree.
use Rattle.std.proofs.Common.{ℕ, ◌≡◌, ◌<◌, ◌≤◌, List, length, get_or, map, sym, ap, ◌∙◌, subst, arith}
use Rattle.std.proofs.lemmas.List.{length-map}
use Rattle.exact_math.specs.Orders.{IsCapacity}
use Rattle.limits.specs.Limits.{IsGrid, most_points, most_cells}
use Rattle.points.specs.declared.Point.{Point}
use Rattle.cell_name.specs.declared.cell.Cell.{Cell}
use Rattle.cell_name.specs.Cell.{square}
use Rattle.cell_name.specs.Square.{Square, no_square}
use Rattle.quadtree.specs.declared.children.Children.{Children}
use Rattle.quadtree.specs.declared.split.Run.{Run}
use Rattle.quadtree.specs.declared.tree.Node.{Node}
use Rattle.quadtree.specs.Families.{children_among, AreFamiliesTo}
use Rattle.quadtree.specs.Nodes.{AreNodesTo, LeavesAreTo}
use Rattle.quadtree.specs.Splitting.{squares_of, parents_of, IsParentNumber, HaveParents}
use Rattle.quadtree.specs.Tree.{AreInGrid, AreExactly, IsTreeCell}
use Rattle.quadtree.proofs.Families.{at_most_four}
use Rattle.quadtree.proofs.Levels.{parent_at}
use Rattle.quadtree.proofs.Whole.{AreParts, squares_of-cells}

-- no run has more than four children
pub four_of_runs : (grid : ℕ) (points : List Point) (cap : ℕ) (runs lent : List Run) → 0 < grid → AreInGrid grid points → AreExactly (IsTreeCell grid points cap) (squares_of runs) → HaveParents (squares_of runs) runs → lent ≡ runs → (n : ℕ) → length (children_among (parents_of lent) n (length lent)) ≤ 4
four_of_runs grid points cap runs lent positive inside t h e n =
    let P : List Run → Type 0 = λ l. length (children_among (parents_of l) n (length l)) ≤ 4 in
    let many : length (squares_of runs) ≡ length runs = length-map runs (λ (r : Run). square r.cell) in
    let Q : ℕ → Type 0 = λ m. length (children_among (parents_of runs) n m) ≤ 4 in
    subst P (sym e) (subst Q many (at_most_four grid points cap (squares_of runs) (parents_of runs) positive inside t (λ k lt. parent_at (squares_of runs) runs h k (omega arith)) n))

-- the nodes, where the code lent the lists
pub nodes_lent : (points : List Point) (cap : ℕ) (xs positions : List ℕ) (rs runs : List Run) (fs families : List Children) (nodes : List Node) → xs ≡ positions → rs ≡ runs → fs ≡ families → AreNodesTo points cap xs (squares_of rs) (parents_of rs) fs nodes (length rs) → AreNodesTo points cap positions (squares_of runs) (parents_of runs) families nodes (length (squares_of runs))
nodes_lent points cap xs positions rs runs fs families nodes e f g h =
    let P : List ℕ → Type 0 = λ l. AreNodesTo points cap l (squares_of rs) (parents_of rs) fs nodes (length rs) in
    let Q : List Run → Type 0 = λ l. AreNodesTo points cap positions (squares_of l) (parents_of l) fs nodes (length l) in
    let R : List Children → Type 0 = λ l. AreNodesTo points cap positions (squares_of runs) (parents_of runs) l nodes (length runs) in
    let S : ℕ → Type 0 = λ n. AreNodesTo points cap positions (squares_of runs) (parents_of runs) families nodes n in
    subst S (sym (length-map runs (λ (r : Run). square r.cell))) (subst R g (subst Q f (subst P e h)))

-- what is known of what the code made
pub record AreMade (grid : ℕ) (points : List Point) (cap : ℕ) (cells : List Cell) (runs lent : List Run) (families : List Children) (nodes : List Node) (positions leaves : List ℕ) : Type 0 where
  pub known_grid : IsGrid grid
  pub in_grid : AreInGrid grid points
  pub few_points : length points ≤ most_points grid
  pub few_cells : length runs ≤ most_cells grid
  pub capacity : IsCapacity cap
  pub lent_are : lent ≡ runs
  pub cells_of : cells ≡ map (λ r. r.cell) runs
  pub cells_are : AreExactly (IsTreeCell grid points cap) (squares_of runs)
  pub parents_are : HaveParents (squares_of runs) runs
  pub families_are : AreFamiliesTo (parents_of lent) families (length lent)
  pub nodes_are : AreNodesTo points cap positions (squares_of runs) (parents_of runs) families nodes (length (squares_of runs))
  pub as_many_leaves : length leaves ≡ length points
  pub leaves_are : LeavesAreTo positions nodes leaves (length nodes)

pub parts_made : (grid : ℕ) (points : List Point) (cap : ℕ) (cells : List Cell) (runs lent : List Run) (families : List Children) (nodes : List Node) (positions leaves : List ℕ) → AreMade grid points cap cells runs lent families nodes positions leaves → AreParts grid points cap cells (parents_of runs) families nodes positions leaves
parts_made grid points cap cells runs lent families nodes positions leaves h =
    let e : squares_of runs ≡ map square cells = sym (squares_of-cells cells runs h.cells_of) in
    let long : length cells ≡ length runs = ap length h.cells_of ∙ length-map runs (λ (r : Run). r.cell) in
    let many = length-map runs (λ (r : Run). square r.cell) in
    let named = length-map runs (λ (r : Run). r.parent) in
    let C : List Square → Type 0 = λ l. AreExactly (IsTreeCell grid points cap) l in
    let N : List Square → Type 0 = λ l. AreNodesTo points cap positions l (parents_of runs) families nodes (length l) in
    let M : ℕ → Type 0 = λ n. AreNodesTo points cap positions (map square cells) (parents_of runs) families nodes n in
    let F : List Run → Type 0 = λ l. AreFamiliesTo (parents_of l) families (length l) in
    let G : ℕ → Type 0 = λ n. AreFamiliesTo (parents_of runs) families n in
    record {
      known_grid = h.known_grid;
      in_grid = h.in_grid;
      few_points = h.few_points;
      few_cells = omega (arith, h.few_cells, long);
      capacity = h.capacity;
      cells_are = subst C e h.cells_are;
      as_many_parents = omega arith;
      parents_are = λ n lt. let P : List Square → Type 0 = λ l. IsParentNumber l (get_or l n no_square) (get_or (parents_of runs) n 0) in subst P e (parent_at (squares_of runs) runs h.parents_are n (omega arith));
      families_are = subst G (sym long) (subst F h.lent_are h.families_are);
      nodes_are = subst M (length-map cells square) (subst N e h.nodes_are);
      as_many_leaves = h.as_many_leaves;
      leaves_are = h.leaves_are;
    }

-- The levels of ascending cells do not fall, so the cells of one stand together.
use Rattle.std.proofs.Common.{List, ltb, leb, rules, length, ap, arith}
use Rattle.std.proofs.lemmas.List.Sorted.{IsPartitionPoint-from_clause, IsPartitionedBy-leb, IsPartitionedBy-ltb}
use Rattle.cell_name.specs.declared.cell.Cell.{Cell}
use Rattle.quadtree.specs.Fields.{tree_of}
use Rattle.quadtree.proofs.LevelRanges.{level_between, levels_rise}
use Rattle.quadtree.proofs.tree.Tree.level.Goals as goal

pub returns : goal.returns
returns c =
    let cells : List Cell = c.self.inside.cells.items in
    let rise = levels_rise cells c.self.invariant.is_tree.is_tree.cells_are.ascending in
    let first = c.deref.ensures.value in
    let second = c.deref-2.ensures.value in
    let from = IsPartitionPoint-from_clause (λ (x : Cell). ltb x.level c.args.level) _ _ c.partition_point.ensures.partitioned (IsPartitionedBy-ltb (λ (x : Cell). x.level) c.deref.result.now c.args.level (rw first rise)) (λ a r q k. search rules) in
    let to = IsPartitionPoint-from_clause (λ (x : Cell). leb x.level c.args.level) _ _ c.partition_point-2.ensures.partitioned (IsPartitionedBy-leb (λ (x : Cell). x.level) c.deref-2.result.now c.args.level (rw second rise)) (λ a r q k. search rules) in
    rw (← c.self.view_is) (level_between (tree_of c.self.inside.grid cells c.self.inside.nodes.items c.self.inside.positions.items c.self.inside.leaves.items) c.args.level c.partition_point.result c.partition_point-2.result
    (omega (arith, c.partition_point.ensures.bound, ap length first)) (omega (arith, c.partition_point-2.ensures.bound, ap length second)) (rw first at from) (rw second at to))

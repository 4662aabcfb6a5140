-- Each level adds the quarters of what touches the leaf.
use Rattle.std.proofs.Common.{◌≡◌, ap, arith}
use Rattle.cell_name.specs.declared.cell.Cell.{Cell}
use Rattle.cell_name.specs.Cell.{square}
use Rattle.cell_name.specs.Square.{Square}
use Rattle.quadtree.specs.TreeModel.{square_of}
use Rattle.cell_lists.proofs.TreeNumbers.{read_at}
use Rattle.cell_lists.proofs.WalkSteps.{below_begins, below_more, below_all}
use Rattle.cell_lists.proofs.search.push_below.Goals as goal

pub loop-level-init : goal.loop-level-init
loop-level-init c =
    let e : square c.index-cells-b.result ≡ square_of c.args.tree.now c.args.b = read_at c.args.tree.now c.cells.result.now c.args.b c.index-cells-b.result c.cells.ensures.all c.requires.cell c.index-cells-b.is in
    let level : c.index-cells-b.result.level ≡ (square_of c.args.tree.now c.args.b).level = ap (λ (s : Square). s.level) e in
    below_begins c.args.tree.now c.args.b _ c.args.found.now.items (omega (arith, level, ap (λ (x : Cell). x.level) c.index-cells-b.is)) c.requires.numbers c.requires.found

pub loop-level-preserved : goal.loop-level-preserved
loop-level-preserved c =
    below_more c.args.tree.now c.args.b c.loop-level._level c.loop-level.start _ c.args.found.now.items c.loop-level.found.items c.push_children.new.found.items (omega arith) c.cells.ensures.tree c.loop-level.invariant c.in_ok-push_children.ensures

pub returns-clause-whole : goal.returns-clause-whole
returns-clause-whole c leaf n below = below_all c.args.tree.now c.args.b c.loop-level._level c.loop-level.start c.args.found.now.items c.loop-level.found.items c.cells.ensures.tree (omega arith) c.loop-level.invariant n below

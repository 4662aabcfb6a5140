-- One child more.
use Rattle.std.proofs.Common.{sym, ◌∙◌, arith}
use Rattle.row_board.proofs.Children.{all_marked, child_in_range, one_without, one_marked, first_here}
use Rattle.row_board.proofs.search.first_unmarked_quarter.Goals as goal
use Rattle.row_board.proofs.search.first_unmarked_quarter.Goals.{else-has_source-via-then-has_source+else-not-marks-m, else-has_source-via-else-has_source}

pub has_source-requires : goal.has_source-requires
has_source-requires c = child_in_range c.args.tree.now c.args.marks.now c.args.n c.children-children.result.now c.requires.tree c.requires.cell c.children-children.ensures c.loop-child.child-index c.loop-child-test.true c.loop-child.invariant

pub bounds-marks-m : goal.bounds-marks-m
bounds-marks-m c = let inside = child_in_range c.args.tree.now c.args.marks.now c.args.n c.children-children.result.now c.requires.tree c.requires.cell c.children-children.ensures c.loop-child.child-index c.loop-child-test.true c.loop-child.invariant in omega (arith, inside, c.requires.marks)

pub returns-then-not-marks-m : goal.returns-then-not-marks-m
returns-then-not-marks-m c = first_here c.args.tree.now c.args.marks.now c.args.n c.children-children.result.now c.requires.tree c.requires.cell c.children-children.ensures c.loop-child.child-index c.loop-child-test.true c.loop-child.invariant (sym c.has_source.ensures ∙ c.if-has_source.true) c.if-not-marks-m.true

pub loop-child-preserved : goal.loop-child-preserved
loop-child-preserved c =
    elim c.else-has_source.branch [
      | else-has_source-via-then-has_source+else-not-marks-m w ↦ one_marked c.args.tree.now c.args.marks.now c.args.n c.children-children.result.now c.requires.tree c.requires.cell c.children-children.ensures c.loop-child.child-index c.loop-child-test.true c.loop-child.invariant (sym c.has_source.ensures ∙ w.if-has_source.true) w.if-not-marks-m.false
      | else-has_source-via-else-has_source w ↦ one_without c.args.tree.now c.args.marks.now c.args.n c.children-children.result.now c.requires.tree c.requires.cell c.children-children.ensures c.loop-child.child-index c.loop-child-test.true c.loop-child.invariant (sym c.has_source.ensures ∙ w.if-has_source.false)
    ]

pub returns : goal.returns
returns c = all_marked c.args.tree.now c.args.marks.now c.args.n c.children-children.result.now c.requires.tree c.requires.cell c.children-children.ensures c.loop-child.child-index (omega (arith, c.loop-child-test.false)) c.loop-child.invariant

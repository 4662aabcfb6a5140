use Rattle.std.proofs.Common.{ap, sym, ◌∙◌, ◌-◌, ◌^◌, arith, subst}
use Rattle.exact_math.specs.Ends.{BoxEndsWithin}
use Rattle.complex_box.specs.Box.{box_ends}
use Rattle.complex_box.proofs.Sizes.{box_wider}
use Rattle.row_recursions.specs.Rows.{row_of, down_round}
use Rattle.row_recursions.proofs.RowWrites.{row_got}
use Rattle.row_recursions.proofs.Equations.{down_round-zero}
use Rattle.row_recursions.specs.Cells.{quadrant_of}
use Rattle.local_shift.proofs.RoundSteps.{rounds_within, round_next}
use Rattle.local_shift.proofs.rounds.move_down.Goals as goal

pub loop-n-init : goal.loop-n-init
loop-n-init g c = record {
  len = c.requires.len;
  rounds = λ k h. c.requires.empty k h ∙ sym (down_round-zero _ _ _ _);
}

pub take_in-requires-clause-taken : goal.take_in-requires-clause-taken
take_in-requires-clause-taken g c = box_wider (2 ^ 90) (2 ^ 91) _ (omega arith)
    (subst (BoxEndsWithin (2 ^ 90)) (sym (row_got c.args.parent.cells.now (g.row.P - 1 - c.loop-n.n) c.get.ensures)) (c.requires.size (g.row.P - 1 - c.loop-n.n) (omega arith)))

pub take_in-requires-clause-size : goal.take_in-requires-clause-size
take_in-requires-clause-size g c = λ k h. subst (BoxEndsWithin (2 ^ 91)) (sym (c.loop-n.invariant.rounds k (omega arith)))
    (rounds_within g.row.P c.args.q (row_of c.args.parent.cells.now) c.requires.size c.loop-n.n k (omega arith))

pub loop-n-preserved : goal.loop-n-preserved
loop-n-preserved g c = record {
  len = omega arith;
  rounds = round_next g.row.P c.args.q (row_of c.args.parent.cells.now) (row_of c.loop-n.moved) (row_of c.take_in.new.moved) (box_ends c.get.result) c.loop-n.n (omega arith)
      (row_got c.args.parent.cells.now (g.row.P - 1 - c.loop-n.n) c.get.ensures) c.loop-n.invariant.rounds c.take_in.ensures.next c.take_in.ensures.others;
}

pub returns-clause-moved : goal.returns-clause-moved
returns-clause-moved g c = λ k h. c.loop-n.invariant.rounds k h ∙ ap (λ n. down_round g.row.P (row_of c.args.parent.cells.now) (quadrant_of c.args.q) n k) {x = c.loop-n.n} {y = g.row.P} (omega arith)

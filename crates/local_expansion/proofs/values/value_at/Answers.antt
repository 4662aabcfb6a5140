use Rattle.std.proofs.Common.{◌-◌, ◌∙◌, ◌^◌, ap, sym, arith, pos}
use Rattle.exact_math.specs.Ends.{quot_box}
use Rattle.complex_box.specs.Box.{number}
use Rattle.row_recursions.specs.Rows.{row_of, local_round}
use Rattle.row_recursions.proofs.RowWrites.{row_got}
use Rattle.row_recursions.proofs.Equations.{local_round-zero, local_value-is}
use Rattle.local_expansion.proofs.ValueSteps.{product_fits, sum_fits, value_next}
use Rattle.local_expansion.proofs.values.value_at.Goals as goal

pub loop-n-init : goal.loop-n-init
loop-n-init g c = c.zero-value.ensures.ends ∙ sym (local_round-zero _ _ _ _)

pub gscale-requires : goal.gscale-requires
gscale-requires g c = product_fits g.row.P c.args.bits (row_of c.args.row.cells.now) (number c.args.o) c.requires.order c.requires.bits c.requires.near c.requires.size c.loop-n.n _ (omega arith) c.loop-n.invariant

pub add-value-requires : goal.add-value-requires
add-value-requires g c = sum_fits g.row.P c.args.bits (row_of c.args.row.cells.now) (number c.args.o) c.requires.order c.requires.bits c.requires.near c.requires.size c.loop-n.n _ _ _ _ (omega arith) c.loop-n.invariant c.gscale.ensures.ends c.quot_shift.ensures.ends (row_got c.args.row.cells.now (g.row.P - 1 - c.loop-n.n) c.get.ensures)

pub loop-n-preserved : goal.loop-n-preserved
loop-n-preserved g c = value_next g.row.P c.args.bits (row_of c.args.row.cells.now) (number c.args.o) c.requires.order c.requires.bits c.requires.near c.requires.size c.loop-n.n _ _ _ _ _ c.loop-n.invariant c.gscale.ensures.ends c.quot_shift.ensures.ends (row_got c.args.row.cells.now (g.row.P - 1 - c.loop-n.n) c.get.ensures) c.add-value.ensures.ends

pub returns : goal.returns
returns g c = c.quot_shift-2.ensures.ends ∙ ap (λ b. quot_box b (pos (2 ^ c.args.bits))) (c.loop-n.invariant ∙ ap (local_round g.row.P (row_of c.args.row.cells.now) (2 ^ c.args.bits) (number c.args.o)) {x = c.loop-n.n} {y = g.row.P} (omega arith)) ∙ sym (local_value-is _ _ _ _)

use Rattle.std.proofs.Common.{◌-◌, ◌≡◌, ◌∙◌, ◌^◌, ap, sym, arith, pos, to_z, of_z}
use Rattle.std.proofs.lemmas.Int.{ints}
use Rattle.std.specs.Int.{w128}
use Rattle.exact_math.specs.Ends.{quot_box}
use Rattle.complex_box.specs.Box.{number}
use Rattle.row_recursions.specs.Rows.{row_of, multipole_round}
use Rattle.row_recursions.proofs.RowWrites.{row_got}
use Rattle.row_recursions.proofs.Equations.{multipole_round-zero, multipole_value-is}
use Rattle.multipole.proofs.ValueSteps.{sum_fits, product_fits, value_next}
use Rattle.multipole.proofs.values.value_at.Goals as goal

pub loop-n-init : goal.loop-n-init
loop-n-init g c = c.zero-value.ensures.ends ∙ sym (multipole_round-zero _ _ _ _)

pub add-requires : goal.add-requires
add-requires g c = sum_fits g.row.P c.args.bits (row_of c.args.row.cells.now) (number c.args.zeta) c.requires.far c.requires.size c.loop-n.n _ _ (omega arith) c.loop-n.invariant (row_got c.args.row.cells.now (g.row.P - 1 - c.loop-n.n) c.get.ensures)

pub gquot_by-value-requires-clause-fits : goal.gquot_by-value-requires-clause-fits
gquot_by-value-requires-clause-fits g c = product_fits g.row.P c.args.bits (row_of c.args.row.cells.now) (number c.args.zeta) c.requires.far c.requires.size c.loop-n.n _ _ _ _ (omega arith) c.loop-n.invariant (row_got c.args.row.cells.now (g.row.P - 1 - c.loop-n.n) c.get.ensures) c.add.ensures.ends c.far_ratio-ratio.ensures.small

pub loop-n-preserved : goal.loop-n-preserved
loop-n-preserved g c =
    let low = c.far_ratio-ratio.ensures.positive in
    let high = c.far_ratio-ratio.ensures.most in
    let d : to_z w128 (of_z w128 c.far_ratio-ratio.result.divisor) ≡ c.far_ratio-ratio.result.divisor = omega (arith, ints) in
    value_next g.row.P c.args.bits (row_of c.args.row.cells.now) (number c.args.zeta) c.requires.far c.requires.size c.loop-n.n _ _ _ _ _ _ c.loop-n.invariant (row_got c.args.row.cells.now (g.row.P - 1 - c.loop-n.n) c.get.ensures) c.add.ensures.ends
    c.far_ratio-ratio.ensures.factor (d ∙ c.far_ratio-ratio.ensures.divisor) c.gquot_by-value.ensures.ends

pub returns : goal.returns
returns g c = c.quot_shift.ensures.ends ∙ ap (λ b. quot_box b (pos (2 ^ c.args.bits))) (c.loop-n.invariant ∙ ap (multipole_round g.row.P (row_of c.args.row.cells.now) (2 ^ c.args.bits) (number c.args.zeta)) {x = c.loop-n.n} {y = g.row.P} (omega arith)) ∙ sym (multipole_value-is _ _ _ _)

use Rattle.std.proofs.Common.{◌∙◌, ◌-◌, ap₂, length, arith}
use mathlib.Core.Path.{refl}
use Rattle.row_recursions.specs.Cells.{quadrant_of}
use Rattle.row_recursions.specs.Rows.{row_of}
use Rattle.row_recursions.proofs.RowWrites.{row_read}
use Rattle.row_recursions.proofs.Turns.{unit_quadrant}
use Rattle.multipole_shift.proofs.UpSteps.{start, start_round, next_entry, next_round, entry_within, up_step}
use Rattle.multipole_shift.proofs.rounds.shift_in_place.Goals as goal

pub loop-r-init : goal.loop-r-init
loop-r-init c = start (length c.args.row.now) (row_of c.args.row.now) (quadrant_of c.args.q) c.args.row.now (λ j. refl)

pub loop-i-init : goal.loop-i-init
loop-i-init c = start_round _ _ _ _ _ c.loop-r.invariant

pub step-requires-clause-next : goal.step-requires-clause-next
step-requires-clause-next c = entry_within (length c.args.row.now) (row_of c.args.row.now) (quadrant_of c.args.q) (unit_quadrant c.args.q) c.requires.size c.loop-r.r c.loop-i.i
    (length c.args.row.now - 1 - c.loop-i.i) c.loop-i.row c.index-row-at.result (row_read c.loop-i.row (length c.args.row.now - 1 - c.loop-i.i) c.index-row-at.result (omega arith) c.index-row-at.is) (omega arith) (omega arith) c.loop-i.invariant

pub step-requires-clause-here : goal.step-requires-clause-here
step-requires-clause-here c = entry_within (length c.args.row.now) (row_of c.args.row.now) (quadrant_of c.args.q) (unit_quadrant c.args.q) c.requires.size c.loop-r.r c.loop-i.i
    (length c.args.row.now - 1 - c.loop-i.i - 1) c.loop-i.row c.index-row-at-in-loop-i.result (row_read c.loop-i.row (length c.args.row.now - 1 - c.loop-i.i - 1) c.index-row-at-in-loop-i.result (omega arith) c.index-row-at-in-loop-i.is) (omega arith) (omega arith) c.loop-i.invariant

pub loop-i-preserved : goal.loop-i-preserved
loop-i-preserved c =
    let p = row_read _ (length c.args.row.now - 1 - c.loop-i.i) _ (omega arith) c.index-row-at.is in
    let q = row_read _ (length c.args.row.now - 1 - c.loop-i.i - 1) _ (omega arith) c.index-row-at-in-loop-i.is in
    next_entry _ _ _ c.loop-r.r c.loop-i.i c.loop-i.row c.step.result (omega arith) (omega arith)
    (c.step.ensures ∙ ap₂ (λ a b. up_step a b (quadrant_of c.args.q)) p q) c.loop-i.invariant

pub loop-r-preserved : goal.loop-r-preserved
loop-r-preserved c = next_round _ _ _ c.loop-r.r c.loop-i.i c.loop-i.row (omega arith) (omega arith) c.loop-i.invariant

pub returns-clause-shifted : goal.returns-clause-shifted
returns-clause-shifted c = λ k h. c.loop-r.invariant.done k (omega arith)

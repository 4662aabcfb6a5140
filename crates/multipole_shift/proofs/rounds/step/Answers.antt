use Rattle.std.proofs.Common.{◌^◌, ◌*◌, ◌+◌, sym, subst, arith, pos}
use Rattle.std.proofs.lemmas.Int.{ints}
use Rattle.exact_math.specs.Ends.{BoxEndsWithin}
use Rattle.complex_box.specs.Box.{box_ends}
use Rattle.complex_box.proofs.Sizes.{box_wider, scale_box_within}
use Rattle.row_recursions.specs.Cells.{quadrant_of}
use Rattle.row_recursions.proofs.RowSizes.{box_gscale_within}
use Rattle.row_recursions.proofs.Turns.{unit_quadrant}
use Rattle.multipole_shift.proofs.UpSteps.{step_fits}
use Rattle.multipole_shift.proofs.rounds.step.Goals as goal

pub add-requires : goal.add-requires
add-requires c =
    let u = unit_quadrant c.args.q in
    step_fits (box_ends c.doubled.result) (box_ends c.turned.result)
    (subst (BoxEndsWithin (2 ^ 82)) (sym c.doubled.ensures) (box_wider (2 ^ 80 * 2) (2 ^ 82) _ (omega arith)
    (scale_box_within 2 (2 ^ 80) (pos 2) (box_ends c.args.next) (record { above = omega (arith, ints); below = omega (arith, ints) }) c.requires.next)))
    (subst (BoxEndsWithin (2 ^ 82)) (sym c.turned.ensures) (box_wider (2 ^ 80 * 1 + 2 ^ 80 * 1) (2 ^ 82) _ (omega arith)
    (box_gscale_within (2 ^ 80) 1 1 (box_ends c.args.here) (quadrant_of c.args.q) u.re u.im c.requires.here)))

use Rattle.std.proofs.Common.{◌∙◌, ◌^◌, ap, ap₂, sym, subst, arith, pos, to_z-of_z}
use Rattle.std.proofs.lemmas.Int.{ints}
use Rattle.exact_math.specs.Ends.{BoxEndsWithin, add_box, quot_box}
use Rattle.exact_math.specs.Gaussian.{gaussian}
use Rattle.complex_box.specs.Box.{box_ends}
use Rattle.complex_box.proofs.Sizes.{quot_box_within}
use Rattle.points.proofs.Ranges.{range_in_widest}
use Rattle.points.specs.Points.{place}
use Rattle.points.specs.Strength.{pole_part, dipole_part}
use Rattle.row_recursions.specs.Cells.{side_of, offset_from}
use Rattle.row_recursions.specs.Rows.{row_of, far_source}
use Rattle.row_recursions.proofs.Points.{grid_fits, side_positive, units_fit}
use Rattle.row_recursions.proofs.RowSizes.{power_positive}
use Rattle.complex_box.proofs.ZeroBoxes.{zero_right}
use Rattle.local_expansion.proofs.FarSources.{far_here, pole_coefficients, dipole_coefficients, no_coefficients}
use Rattle.local_expansion.proofs.sources.add_far.Goals as goal

pub add_poles-requires-clause-far : goal.add_poles-requires-clause-far
add_poles-requires-clause-far c =
    let f = grid_fits c.args.p.now.x c.args.p.now.y (range_in_widest c.args.cell.grid c.args.p.now c.args.cell.known_grid c.requires.range).place in
    let g = f.0 in
    let h = f.1 in
    far_here _ _ _ _ (side_positive c.args.cell) c.side_bits-s.ensures.side (simp to_z-of_z at c.offset-zeta.ensures.value) c.requires.far

pub add_dipoles-requires-clause-far : goal.add_dipoles-requires-clause-far
add_dipoles-requires-clause-far c =
    let f = grid_fits c.args.p.now.x c.args.p.now.y (range_in_widest c.args.cell.grid c.args.p.now c.args.cell.known_grid c.requires.range).place in
    let g = f.0 in
    let h = f.1 in
    far_here _ _ _ _ (side_positive c.args.cell) c.side_bits-s.ensures.side (simp to_z-of_z at c.offset-zeta.ensures.value) c.requires.far

pub add_dipoles-requires-clause-size : goal.add_dipoles-requires-clause-size
add_dipoles-requires-clause-size c =
    let h = power_positive c.side_bits-s.result in
    subst (BoxEndsWithin (2 ^ 60)) (sym c.quot_shift.ensures.ends) (quot_box_within (2 ^ 60) (box_ends c.units-in-Dipole.result) (pos (2 ^ c.side_bits-s.result)) (omega (arith, ints)) c.units-in-Dipole.ensures.size)

pub returns-in-Pole-clause-adds : goal.returns-in-Pole-clause-adds
returns-in-Pole-clause-adds c = λ l h.
    let f = grid_fits c.args.p.now.x c.args.p.now.y (range_in_widest c.args.cell.grid c.args.p.now c.args.cell.known_grid c.requires.range).place in
    let g = f.0 in
    let i = f.1 in
    c.add_poles.ensures.poles l h
    ∙ ap (add_box (row_of c.args.into.now l)) (pole_coefficients _ _ _ _ (side_positive c.args.cell) c.side_bits-s.ensures.side (simp to_z-of_z at c.offset-zeta.ensures.value) c.requires.far (gaussian c.in-Pole.re c.in-Pole.im) _ l
    (units_fit c.in-Pole.ensures.size.0 c.in-Pole.ensures.size.1 c.units.ensures.ends)
    ∙ ap (λ a. far_source (side_of c.args.cell) (pole_part a) (dipole_part a) (offset_from c.args.cell (place c.args.p.now)) l) c.in-Pole.ensures.value)

pub returns-in-Dipole-clause-adds : goal.returns-in-Dipole-clause-adds
returns-in-Dipole-clause-adds c = λ l h.
    let f = grid_fits c.args.p.now.x c.args.p.now.y (range_in_widest c.args.cell.grid c.args.p.now c.args.cell.known_grid c.requires.range).place in
    let g = f.0 in
    let i = f.1 in
    c.add_dipoles.ensures.dipoles l h
    ∙ ap (add_box (row_of c.args.into.now l)) (dipole_coefficients _ _ _ _ (side_positive c.args.cell) c.side_bits-s.ensures.side (simp to_z-of_z at c.offset-zeta.ensures.value) c.requires.far (gaussian c.in-Dipole.re c.in-Dipole.im) _ l
    (c.quot_shift.ensures.ends ∙ ap₂ (λ b n. quot_box b (pos n)) (units_fit c.in-Dipole.ensures.size.0 c.in-Dipole.ensures.size.1 c.units-in-Dipole.ensures.ends) c.side_bits-s.ensures.side)
    ∙ ap (λ a. far_source (side_of c.args.cell) (pole_part a) (dipole_part a) (offset_from c.args.cell (place c.args.p.now)) l) c.in-Dipole.ensures.value)

pub returns-in-Nothing-clause-adds : goal.returns-in-Nothing-clause-adds
returns-in-Nothing-clause-adds c = λ l h.
    let f = grid_fits c.args.p.now.x c.args.p.now.y (range_in_widest c.args.cell.grid c.args.p.now c.args.cell.known_grid c.requires.range).place in
    let g = f.0 in
    let i = f.1 in
    sym (zero_right (row_of c.args.into.now l))
    ∙ ap (add_box (row_of c.args.into.now l)) (no_coefficients _ _ _ _ (side_positive c.args.cell) c.side_bits-s.ensures.side (simp to_z-of_z at c.offset-zeta.ensures.value) c.requires.far l
    ∙ ap (λ a. far_source (side_of c.args.cell) (pole_part a) (dipole_part a) (offset_from c.args.cell (place c.args.p.now)) l) c.in-Nothing.ensures.value)

use Rattle.std.proofs.Common.{◌∙◌, ◌^◌, ap, ap₂, sym, subst, arith, pos, to_z-of_z}
use Rattle.std.proofs.lemmas.Int.{ints}
use Rattle.exact_math.specs.Ends.{BoxEndsWithin, quot_box}
use Rattle.exact_math.specs.Gaussian.{gaussian}
use Rattle.complex_box.specs.Box.{box_ends}
use Rattle.complex_box.proofs.Sizes.{quot_box_within}
use Rattle.points.specs.Points.{place}
use Rattle.points.specs.Strength.{pole_part, dipole_part}
use Rattle.truncation.specs.Places.{doubled_offset}
use Rattle.row_recursions.specs.Cells.{side_of, doubled_centre_of}
use Rattle.row_recursions.specs.Rows.{source_moment}
use Rattle.row_recursions.proofs.Points.{grid_fits, held_in_grid, offset_within, side_positive, units_fit}
use Rattle.complex_box.specs.Rows.{zero_cbox}
use Rattle.multipole.proofs.SourcePowers.{power_le, near_next, pole_moments, dipole_moments, none_alone}
use Rattle.multipole.proofs.moments.fill_moments.Goals as goal

pub offset-o-requires : goal.offset-o-requires
offset-o-requires c =
    let f = grid_fits c.args.p.now.x c.args.p.now.y c.requires.range.place in
    let g = f.0 in
    let h = f.1 in
    simp to_z-of_z (held_in_grid c.args.cell c.args.p.now.x c.args.p.now.y c.requires.inside)

pub fill_powers-requires-clause-near : goal.fill_powers-requires-clause-near
fill_powers-requires-clause-near c =
    let f = grid_fits c.args.p.now.x c.args.p.now.y c.requires.range.place in
    let g = f.0 in
    let h = f.1 in
    near_next _ _ _ _ c.side_bits-s.ensures.side (simp to_z-of_z at c.offset-o.ensures.value) (offset_within c.args.cell _ _ c.requires.inside)

pub fill_slopes-requires-clause-near : goal.fill_slopes-requires-clause-near
fill_slopes-requires-clause-near c =
    let f = grid_fits c.args.p.now.x c.args.p.now.y c.requires.range.place in
    let g = f.0 in
    let h = f.1 in
    near_next _ _ _ _ c.side_bits-s.ensures.side (simp to_z-of_z at c.offset-o.ensures.value) (offset_within c.args.cell _ _ c.requires.inside)

pub fill_slopes-requires-clause-size : goal.fill_slopes-requires-clause-size
fill_slopes-requires-clause-size c =
    let h = power_le 0 c.side_bits-s.result (omega arith) in
    subst (BoxEndsWithin (2 ^ 60)) (sym c.quot_shift.ensures.ends) (quot_box_within (2 ^ 60) (box_ends c.units-in-Dipole.result) (pos (2 ^ c.side_bits-s.result)) (omega (arith, ints)) c.units-in-Dipole.ensures.size)

pub returns-in-Pole-clause-moments : goal.returns-in-Pole-clause-moments
returns-in-Pole-clause-moments c = λ k h.
    let f = grid_fits c.args.p.now.x c.args.p.now.y c.requires.range.place in
    let g = f.0 in
    let i = f.1 in
    c.fill_powers.ensures.powers k h
    ∙ pole_moments _ _ (gaussian c.in-Pole.re c.in-Pole.im) _ _ _ k (side_positive c.args.cell) c.side_bits-s.ensures.side (simp to_z-of_z at c.offset-o.ensures.value) (units_fit c.in-Pole.ensures.size.0 c.in-Pole.ensures.size.1 c.units.ensures.ends)
    ∙ ap (λ a. source_moment (side_of c.args.cell) (pole_part a) (dipole_part a) (doubled_offset (place c.args.p.now) (doubled_centre_of c.args.cell)) k) c.in-Pole.ensures.value

pub returns-in-Dipole-clause-moments : goal.returns-in-Dipole-clause-moments
returns-in-Dipole-clause-moments c = λ k h.
    let f = grid_fits c.args.p.now.x c.args.p.now.y c.requires.range.place in
    let g = f.0 in
    let i = f.1 in
    c.fill_slopes.ensures.slopes k h
    ∙ dipole_moments _ _ (gaussian c.in-Dipole.re c.in-Dipole.im) _ _ _ k (side_positive c.args.cell) c.side_bits-s.ensures.side (simp to_z-of_z at c.offset-o.ensures.value)
    (c.quot_shift.ensures.ends ∙ ap₂ (λ b n. quot_box b (pos n)) (units_fit c.in-Dipole.ensures.size.0 c.in-Dipole.ensures.size.1 c.units-in-Dipole.ensures.ends) c.side_bits-s.ensures.side)
    ∙ ap (λ a. source_moment (side_of c.args.cell) (pole_part a) (dipole_part a) (doubled_offset (place c.args.p.now) (doubled_centre_of c.args.cell)) k) c.in-Dipole.ensures.value

pub returns-in-Nothing-clause-moments : goal.returns-in-Nothing-clause-moments
returns-in-Nothing-clause-moments c = λ k h.
    c.clear.ensures k zero_cbox (omega arith) ∙ sym (none_alone (side_of c.args.cell) _ (side_positive c.args.cell) k)
    ∙ ap (λ a. source_moment (side_of c.args.cell) (pole_part a) (dipole_part a) (doubled_offset (place c.args.p.now) (doubled_centre_of c.args.cell)) k) c.in-Nothing.ensures.value

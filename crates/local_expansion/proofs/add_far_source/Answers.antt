use Rattle.std.proofs.Common.{◌*◌, ◌^◌, subst}
use Rattle.points.specs.Limits.{weight64}
use Rattle.truncation.specs.Entries.{local_cut}
use Rattle.row_recursions.specs.Cells.{side_of, doubled_centre_of, far_coefficients_in}
use Rattle.row_recursions.specs.Rows.{row_of, RowsAdd}
use Rattle.row_recursions.specs.Sources.{source_of}
use Rattle.row_recursions.proofs.Points.{side_positive}
use Rattle.row_recursions.proofs.RowSizes.{added_within}
use Rattle.row_recursions.proofs.RowWidths.{added_narrow}
use Rattle.local_expansion.proofs.RowCalls.{far_within, far_narrow, far_field, field_added}
use Rattle.cell_name.specs.Cell.{square}
use Rattle.local_expansion.proofs.add_far_source.Goals as goal

pub returns-clause-adds : goal.returns-clause-adds
returns-clause-adds g c = subst (λ n. RowsAdd n (row_of c.args.into.now) (far_coefficients_in (square c.args.cell) c.args.p.now) (row_of c.add_far.new.into)) c.requires.len c.add_far.ensures.adds

pub returns-clause-contains : goal.returns-clause-contains
returns-clause-contains g c = λ field h. field_added g.row.P (side_of c.args.cell) (doubled_centre_of c.args.cell) field (λ t. local_cut g.row.P (doubled_centre_of c.args.cell) t (source_of c.args.p.now)) (row_of c.args.into.now)
    (far_coefficients_in (square c.args.cell) c.args.p.now) (row_of c.add_far.new.into) (side_positive c.args.cell) (returns-clause-adds g c) h
    (far_field g.row.P c.args.cell c.args.p.now c.requires.order c.requires.far)

pub returns-clause-size : goal.returns-clause-size
returns-clause-size g c = λ n h. added_within g.row.P n (2 ^ 40 * weight64 c.args.p.now) (row_of c.args.into.now) (far_coefficients_in (square c.args.cell) c.args.p.now) (row_of c.add_far.new.into) (returns-clause-adds g c) h
    (far_within g.row.P c.args.cell c.args.p.now c.requires.order c.requires.far)

pub returns-clause-narrow : goal.returns-clause-narrow
returns-clause-narrow g c = λ v n k h. added_narrow g.row.P (row_of c.args.into.now) (far_coefficients_in (square c.args.cell) c.args.p.now) (row_of c.add_far.new.into) (returns-clause-adds g c) k h (n k h)
    (far_narrow g.row.P c.args.cell c.args.p.now c.requires.order c.requires.far k h)

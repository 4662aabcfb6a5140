use Rattle.accounting_text.proofs.Same.{written_given}
use Rattle.limits.proofs.Grids.{grid_positive, version_has_grid}
use Rattle.limits.specs.Limits.{grid_of}
use Rattle.quadtree.proofs.Limits.{in_grid}
use Rattle.tree_field.specs.Accounting.{accounting}
use Rattle.field_certificate.proofs.FieldRanges.{field_certificate_one, field_text_spells}
use Rattle.field_certificate.proofs.OfPoints.{field_of_points}
use Rattle.field_certificate.specs.Laws.{FieldIsGivenBack}
use Rattle.field_certificate.proofs.law.field_certificate_is_one.Goals as goal

field_given : FieldIsGivenBack
field_given points cap P lists limits are =
    let grid = grid_of points.version in
    written_given points P (accounting grid points.list cap P lists)
    (field_of_points points cap P lists (grid_positive grid (version_has_grid points.version)) (in_grid grid points.list limits.within.range) are)

pub returns : goal.returns
returns c = record { one = field_certificate_one; spelled = field_text_spells; given = field_given }

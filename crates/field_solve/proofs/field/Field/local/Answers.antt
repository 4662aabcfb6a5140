-- The row is that of a place of the field, of a cell with a target.
use Rattle.std.proofs.Common.{rules, arith, List, sym, subst}
use Rattle.std.proofs.lemmas.Grind.{common_steps}
use Rattle.complex_box.specs.declared.CBox.{CBox}
use Rattle.limits.specs.Limits.{most_local}
use Rattle.row_recursions.specs.Rows.{row_of}
use Rattle.row_recursions.specs.Sizes.{RowWithin}
use Rattle.field_solve.specs.Parts.{FieldParts, FitTogether}
use Rattle.field_solve.proofs.Sizes.{local_small}
use Rattle.field_solve.proofs.field.Field.local.Goals as goal

pub returns-clause-has : goal.returns-clause-has
returns-clause-has g c = search rules

pub returns-clause-row : goal.returns-clause-row
returns-clause-row g c = grind (arith, common_steps)

pub returns-clause-size : goal.returns-clause-size
returns-clause-size g c =
    let f = c.args.self.now in
    let fits = subst (λ (f : FieldParts). FitTogether g.row.P f) c.self.view_is c.self.invariant in
    subst (λ (row : List CBox). RowWithin g.row.P (most_local f.basis.tree.grid) (row_of row)) (sym (returns-clause-row g c))
    (local_small g.row.P f fits c.args.n c.requires (returns-clause-has g c))

-- How a field is kept.
use Rattle.std.specs.Prelude.{ℕ}
use Rattle.field_basis.specs.Target.{values_of}
use Rattle.field_solve.specs.declared.field.Field.TheInside.{Inside}
use Rattle.field_solve.specs.Parts.{FieldParts, FitTogether}

abbrev pub field_seen : {P : ℕ} → Inside P → FieldParts
field_seen f = record { basis = f.basis; up = f.places.up.items; local = f.places.local.items; values = values_of f.places.values.items; translations = f.translations; pairs = f.pairs }

abbrev pub fits : {P : ℕ} → Inside P → Type 0
fits {P} f = FitTogether P (field_seen f)

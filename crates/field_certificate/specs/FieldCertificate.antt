-- The certificate of the field of a list of points.
use Rattle.std.specs.Prelude.{ℕ}
use Rattle.accounting_text.specs.Written.{certificate_of}
use Rattle.cert_text.specs.Certificate.{Certificate}
use Rattle.limits.specs.Limits.{grid_of}
use Rattle.points.specs.declared.Points.{Points}
use Rattle.tree_field.specs.Accounting.{accounting}
use Rattle.tree_field.specs.Lists.{TreeLists}

-- that of the accounting of the field, over the lists of its tree
abbrev pub field_certificate : Points → ℕ → ℕ → TreeLists → Certificate
field_certificate points cap P lists = certificate_of points P (accounting (grid_of points.version) points.list cap P lists)

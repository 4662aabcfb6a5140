-- The certificate of a field meets the rules of a certificate.
use Rattle.std.specs.Prelude.{ℕ}
use Rattle.certificate_rules.specs.Verdicts.{HoldEverywhere}
use Rattle.field_certificate.specs.FieldCertificate.{field_certificate}
use Rattle.limits.specs.Limits.{grid_of}
use Rattle.points.specs.Limits.{WithinLimits}
use Rattle.points.specs.declared.Points.{Points}
use Rattle.tree_field.specs.Lists.{TreeLists, AreTreeLists}

-- for each list of points within the limits, each capacity of the leaves, each order, and the lists of the tree
abbrev pub FieldIsAccepted : Type 0
FieldIsAccepted = (points : Points) (cap P : ℕ) (lists : TreeLists) → WithinLimits points
    → AreTreeLists (grid_of points.version) points.list cap lists → HoldEverywhere points (field_certificate points cap P lists)

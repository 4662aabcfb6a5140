-- The certificate of a field is one, and so its text spells it, and it gives back the field's accounting.
use Rattle.std.specs.Prelude.{ℕ, ◌≤◌, length}
use Rattle.accounting_text.specs.Given.{AreSame, given_accounting}
use Rattle.cert_text.specs.Certificate.{IsCertificate, SpellsCert, certificate_text}
use Rattle.limits.specs.Limits.{grid_of, most_certificate}
use Rattle.points.specs.Limits.{WithinLimits, IsOrderOf}
use Rattle.points.specs.declared.Points.{Points}
use Rattle.quadtree.specs.Faults.{HasTree}
use Rattle.tree_field.specs.Accounting.{accounting}
use Rattle.tree_field.specs.Lists.{TreeLists, AreTreeLists}
use Rattle.field_certificate.specs.FieldCertificate.{field_certificate}

-- points within the limits and an order of their version, with a tree and its lists, and a text that is not too long
pub record CanBeCertified (points : Points) (cap P : ℕ) (lists : TreeLists) : Type 0 where
  pub limits : WithinLimits points
  pub order : IsOrderOf (grid_of points.version) P
  pub tree : HasTree (grid_of points.version) points.list cap
  pub lists_are : AreTreeLists (grid_of points.version) points.list cap lists
  pub short : length (certificate_text (field_certificate points cap P lists)) ≤ most_certificate (grid_of points.version)

-- each line is of its form and in its range, and there are as many as line 1 says
abbrev pub FieldCertificateIsOne : Type 0
FieldCertificateIsOne = (points : Points) (cap P : ℕ) (lists : TreeLists) → CanBeCertified points cap P lists → IsCertificate (field_certificate points cap P lists)

abbrev pub FieldTextSpells : Type 0
FieldTextSpells = (points : Points) (cap P : ℕ) (lists : TreeLists) → CanBeCertified points cap P lists
    → SpellsCert (certificate_text (field_certificate points cap P lists)) (field_certificate points cap P lists)

-- what it gives over the points is what the field presents of itself
abbrev pub FieldIsGivenBack : Type 0
FieldIsGivenBack = (points : Points) (cap P : ℕ) (lists : TreeLists) → WithinLimits points → AreTreeLists (grid_of points.version) points.list cap lists
    → AreSame P (accounting (grid_of points.version) points.list cap P lists) (given_accounting points.list (field_certificate points cap P lists))

-- The text of a field's certificate, in the pieces that are written.
use Rattle.std.proofs.Common.{ℕ, ◌≡◌, ◌<◌, List, ◌++◌, length, sym, ap, ap₂, ◌∙◌, subst}
use Rattle.accounting_text.specs.Written.{certificate_of}
use Rattle.cert_text.specs.Certificate.{certificate_text, end_line}
use Rattle.cert_text.specs.Lines.{cert_head_line, line_bytes}
use Rattle.field_certificate.specs.FieldCertificate.{field_certificate}
use Rattle.field_certificate.specs.ProgramLines.{at_text, box_text, entries_of, entries_text, local_text, multipole_text, node_text, texts}
use Rattle.field_certificate.proofs.ByNumbers.{ats-text, entries-many, entries-text, locals-text, multipoles-text, nodes-many, nodes-text, targets-many, targets-text}
use Rattle.field_certificate.proofs.Whole.{sections-bytes, whole-pieces}
use Rattle.field_solve.specs.Field.{IsSolved}
use Rattle.field_solve.specs.Parts.{FieldParts}
use Rattle.limits.specs.Limits.{grid_of}
use Rattle.points.specs.declared.Points.{Points}
use Rattle.quadtree.specs.Tree.{AreInGrid}
use Rattle.quadtree.specs.TreeModel.{size}
use Rattle.tree_field.specs.Accounting.{accounting}
use Rattle.tree_field.specs.Lists.{TreeLists, AreTreeLists}

-- line 1, of the points and of the field that is written
abbrev pub first_text : Points → ℕ → FieldParts → List ℕ
first_text points P f = line_bytes (cert_head_line (record { version = points.version; order = P; points = length points.list; targets = length f.values; cells = size f.basis.tree; entries = entries_of f.basis.lists }))

-- all pieces, each behind the others
abbrev pub written_text : Points → ℕ → FieldParts → List ℕ
written_text points P f =
    (((((((first_text points P f ++ texts (node_text f.basis.tree) (size f.basis.tree)) ++ texts (at_text f.basis.tree) (length points.list)) ++ texts (multipole_text P f) (size f.basis.tree))
    ++ texts (entries_text f.basis.lists) (size f.basis.tree)) ++ texts (local_text P f) (size f.basis.tree)) ++ texts (box_text f.values) (length f.values)) ++ line_bytes end_line)

module _ (points : Points) (cap P : ℕ) (f : FieldParts) (these : TreeLists) (positive : 0 < f.basis.tree.grid) (inside : AreInGrid f.basis.tree.grid points.list) (solved : IsSolved points.list cap P f)
    (are : AreTreeLists f.basis.tree.grid points.list cap these)
  where
    first-is : line_bytes (cert_head_line (certificate_of points P (accounting f.basis.tree.grid points.list cap P these)).head) ≡ first_text points P f
    first-is =
        ap (λ n. line_bytes (cert_head_line (record { version = points.version; order = P; points = length points.list; targets = n; cells = length these.cells; entries = length (accounting f.basis.tree.grid points.list cap P these).entries })))
        (targets-many points.list cap P f these positive inside solved are)
        ∙ ap₂ (λ m n. line_bytes (cert_head_line (record { version = points.version; order = P; points = length points.list; targets = length f.values; cells = m; entries = n })))
        (nodes-many points.list cap P f these positive inside solved are) (entries-many points.list cap P f these positive inside solved are)

    written-is : certificate_text (certificate_of points P (accounting f.basis.tree.grid points.list cap P these)) ≡ written_text points P f
    written-is =
        let c = certificate_of points P (accounting f.basis.tree.grid points.list cap P these) in
        let list = points.list in
        ap₂ (λ x y. x ++ (y ++ line_bytes end_line)) first-is (sections-bytes c.nodes c.ats c.multipoles c.entries c.locals c.targets
        ∙ ap₂ (λ x y. x ++ y) (nodes-text list cap P f these positive inside solved are)
        (ap₂ (λ x y. x ++ y) (ats-text list cap P f these positive inside solved are)
        (ap₂ (λ x y. x ++ y) (multipoles-text list cap P f these positive inside solved are)
        (ap₂ (λ x y. x ++ y) (entries-text list cap P f these positive inside solved are)
        (ap₂ (λ x y. x ++ y) (locals-text list cap P f these positive inside solved are) (targets-text list cap P f these positive inside solved are))))))
        ∙ sym (whole-pieces (first_text points P f) (texts (node_text f.basis.tree) (size f.basis.tree)) (texts (at_text f.basis.tree) (length list)) (texts (multipole_text P f) (size f.basis.tree))
        (texts (entries_text f.basis.lists) (size f.basis.tree)) (texts (local_text P f) (size f.basis.tree)) (texts (box_text f.values) (length f.values)) (line_bytes end_line))

-- and on the grid of the points' version
pub certificate-is : (points : Points) (cap P : ℕ) (f : FieldParts) (these : TreeLists) → 0 < f.basis.tree.grid → AreInGrid (grid_of points.version) points.list → IsSolved points.list cap P f
    → f.basis.tree.grid ≡ grid_of points.version → AreTreeLists (grid_of points.version) points.list cap these → certificate_text (field_certificate points cap P these) ≡ written_text points P f
certificate-is points cap P f these positive inside solved e are =
    ap (λ g. certificate_text (certificate_of points P (accounting g points.list cap P these))) (sym e)
    ∙ written-is points cap P f these positive (subst (λ g. AreInGrid g points.list) (sym e) inside) solved (subst (λ g. AreTreeLists g points.list cap these) (sym e) are)

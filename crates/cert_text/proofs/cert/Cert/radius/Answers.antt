-- The radius is the first number of the line.
use Rattle.std.proofs.Common.{ℤ, ◌≡◌, List, refl, to_z, of_z, ap, sym, ◌∙◌, subst, arith}
use Rattle.std.proofs.lemmas.Int.{ints}
use Rattle.std.specs.Int.{w128}
use Rattle.cert_text.specs.Certificate.{Certificate, IsCertificate, nth_line, nth_number}
use Rattle.cert_text.specs.Rows.{row_at}
use Rattle.cert_text.specs.Storage.{IsStored}
use Rattle.cert_text.specs.Sections.{IsNumberBelow}
use Rattle.cert_text.proofs.KeptLines.{local_row, local_radius}
use Rattle.cert_text.proofs.cert.Cert.radius.Goals as goal

pub returns-clause-number : goal.returns-clause-number
returns-clause-number c =
    let seen = c.stored.view_is ∙ c.self.view_is in
    let is = subst IsStored seen c.stored.invariant in
    let whole = subst IsCertificate c.self.view_is c.self.invariant in
    let held : to_z w128 (of_z w128 c.radius.result) ≡ c.radius.result = omega (arith, ints) in
    held ∙ c.radius.ensures ∙ sym (ap (λ (zs : List ℤ). nth_number zs 0) (local_row c.args.self.now is whole c.args.n c.stored.inside.locals (row_at c.stored.inside.locals c.args.n) (sym (ap (λ (s : Certificate). s.locals) seen)) c.requires refl))

pub returns-clause-size : goal.returns-clause-size
returns-clause-size c =
    let seen = c.stored.view_is ∙ c.self.view_is in
    let is = subst IsStored seen c.stored.invariant in
    let whole = subst IsCertificate c.self.view_is c.self.invariant in
    let range = local_radius c.args.self.now.head c.args.n (nth_line c.args.self.now.locals c.args.n).numbers (is.locals_are c.args.n (omega (arith, c.requires, whole.locals_are))).1 in
    subst (IsNumberBelow _) (sym (returns-clause-number c)) range

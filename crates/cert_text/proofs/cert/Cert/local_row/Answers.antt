-- The row has the boxes of the line, behind its radius, or is the zero row.
use Rattle.std.proofs.Common.{ℤ, List, drop, ap, refl, sym, ◌∙◌, subst, arith}
use Rattle.exact_math.specs.Ends.{BoxEndsWithin}
use Rattle.limits.specs.Limits.{most_given_local}
use Rattle.cert_text.specs.Certificate.{Certificate, IsCertificate, nth_box, nth_line}
use Rattle.cert_text.specs.Rows.{HasRowLength, row_at}
use Rattle.cert_text.specs.Storage.{IsStored}
use Rattle.cert_text.proofs.BoxRows.{box_within, local_long, row_is}
use Rattle.cert_text.proofs.KeptLines.{local_row, local_ends}
use Rattle.cert_text.proofs.cert.Cert.local_row.Goals as goal

pub unless-requires-clause-len : goal.unless-requires-clause-len
unless-requires-clause-len c =
    let seen = c.stored.view_is ∙ c.self.view_is in
    let is = subst IsStored seen c.stored.invariant in
    let whole = subst IsCertificate c.self.view_is c.self.invariant in
    let same = ap (drop 1) (local_row c.args.self.now is whole c.args.n c.stored.inside.locals (row_at c.stored.inside.locals c.args.n) (sym (ap (λ (s : Certificate). s.locals) seen)) c.requires refl) ∙ sym c.row.ensures in
    let form = (is.locals_are c.args.n (omega (arith, c.requires, whole.locals_are))).0 in
    subst (λ order. HasRowLength order c.row.result.now) (sym (ap (λ (s : Certificate). s.head.order) seen)) (local_long c.args.self.now.head (nth_line c.args.self.now.locals c.args.n) c.row.result.now same form)

pub returns-clause-row : goal.returns-clause-row
returns-clause-row c = λ k lt.
    let seen = c.stored.view_is ∙ c.self.view_is in
    let is = subst IsStored seen c.stored.invariant in
    let whole = subst IsCertificate c.self.view_is c.self.invariant in
    let same = ap (drop 1) (local_row c.args.self.now is whole c.args.n c.stored.inside.locals (row_at c.stored.inside.locals c.args.n) (sym (ap (λ (s : Certificate). s.locals) seen)) c.requires refl) ∙ sym c.row.ensures in
    c.unless.ensures.row k ∙ row_is c.row.result.now k ∙ sym (ap (λ (zs : List ℤ). nth_box zs k) same)

pub returns-clause-size : goal.returns-clause-size
returns-clause-size c = λ k lt.
    let seen = c.stored.view_is ∙ c.self.view_is in
    let is = subst IsStored seen c.stored.invariant in
    let whole = subst IsCertificate c.self.view_is c.self.invariant in
    let numbers = (nth_line c.args.self.now.locals c.args.n).numbers in
    let range = local_ends c.args.self.now.head c.args.n numbers (is.locals_are c.args.n (omega (arith, c.requires, whole.locals_are))).1 in
    subst (BoxEndsWithin most_given_local) (sym (returns-clause-row c k lt)) (box_within most_given_local (drop 1 numbers) k range)

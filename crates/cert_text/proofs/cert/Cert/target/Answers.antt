-- The box is the first of two.
use Rattle.std.proofs.Common.{ℤ, List, ap, sym, ◌∙◌, subst, arith}
use Rattle.std.proofs.lemmas.List.{get_or_read}
use Rattle.exact_math.specs.Ends.{BoxEndsWithin}
use Rattle.limits.specs.Limits.{grid_of, most_given_target}
use Rattle.complex_box.specs.Box.{box_ends}
use Rattle.complex_box.specs.Rows.{zero_cbox}
use Rattle.cert_text.specs.Certificate.{Certificate, IsCertificate, nth_box, nth_line}
use Rattle.cert_text.specs.Rows.{numbers_of}
use Rattle.cert_text.specs.Storage.{IsStored}
use Rattle.cert_text.proofs.BoxRows.{box_within, row_is, two_boxes}
use Rattle.cert_text.proofs.KeptLines.{target_length, target_row}
use Rattle.cert_text.proofs.cert.Cert.target.Goals as goal

pub bounds-row-0 : goal.bounds-row-0
bounds-row-0 c =
    let seen = c.stored.view_is ∙ c.self.view_is in
    let is = subst IsStored seen c.stored.invariant in
    let whole = subst IsCertificate c.self.view_is c.self.invariant in
    omega (arith, two_boxes c.row.result.now (target_length c.args.self.now is whole c.args.k c.stored.inside.targets (numbers_of c.row.result.now) (sym (ap (λ (s : Certificate). s.targets) seen)) c.requires c.row.ensures))

pub returns-clause-ends : goal.returns-clause-ends
returns-clause-ends c =
    let seen = c.stored.view_is ∙ c.self.view_is in
    let is = subst IsStored seen c.stored.invariant in
    let whole = subst IsCertificate c.self.view_is c.self.invariant in
    let two = two_boxes c.row.result.now (target_length c.args.self.now is whole c.args.k c.stored.inside.targets (numbers_of c.row.result.now) (sym (ap (λ (s : Certificate). s.targets) seen)) c.requires c.row.ensures) in
    let same = target_row c.args.self.now is whole c.args.k c.stored.inside.targets (numbers_of c.row.result.now) (sym (ap (λ (s : Certificate). s.targets) seen)) c.requires c.row.ensures in
    ap box_ends (get_or_read c.row.result.now 0 _ (omega (arith, two)) c.index-row-0.is zero_cbox) ∙ row_is c.row.result.now 0 ∙ sym (ap (λ (zs : List ℤ). nth_box zs 0) same)

pub returns-clause-size : goal.returns-clause-size
returns-clause-size c =
    let seen = c.stored.view_is ∙ c.self.view_is in
    let is = subst IsStored seen c.stored.invariant in
    let whole = subst IsCertificate c.self.view_is c.self.invariant in
    let most = most_given_target (grid_of c.args.self.now.head.version) in
    let range = (is.targets_are c.args.k (omega (arith, c.requires, whole.targets_are))).1 in
    subst (BoxEndsWithin most) (sym (returns-clause-ends c)) (box_within most (nth_line c.args.self.now.targets c.args.k).numbers 0 range)

-- The counts are the last four numbers of the line.
use Rattle.std.proofs.Common.{ℤ, ◌^◌, ◌≡◌, ◌∷◌, drop, to_z, of_z, ap, ap₂, refl, sym, ◌∙◌, subst, arith}
use Rattle.std.proofs.lemmas.Int.{ints}
use Rattle.std.specs.Int.{w128}
use Rattle.exact_math.specs.Within.{Within}
use Rattle.limits.specs.Limits.{grid_of, most_given_target}
use Rattle.cert_text.specs.Certificate.{Certificate, IsCertificate, nth_line}
use Rattle.cert_text.specs.Rows.{numbers_of}
use Rattle.cert_text.specs.Storage.{IsStored}
use Rattle.cert_text.specs.Sections.{AreOrderedEnds}
use Rattle.cert_text.proofs.BoxRows.{second_box, two_boxes}
use Rattle.cert_text.proofs.KeptLines.{ends_behind, target_length, target_row}
use Rattle.cert_text.proofs.cert.Cert.counts.Goals as goal

pub bounds-row-1 : goal.bounds-row-1
bounds-row-1 c =
    let seen = c.stored.view_is ∙ c.self.view_is in
    let is = subst IsStored seen c.stored.invariant in
    let whole = subst IsCertificate c.self.view_is c.self.invariant in
    omega (arith, two_boxes c.row.result.now (target_length c.args.self.now is whole c.args.k c.stored.inside.targets (numbers_of c.row.result.now) (sym (ap (λ (s : Certificate). s.targets) seen)) c.requires c.row.ensures))

pub returns-clause-numbers : goal.returns-clause-numbers
returns-clause-numbers c =
    let seen = c.stored.view_is ∙ c.self.view_is in
    let is = subst IsStored seen c.stored.invariant in
    let whole = subst IsCertificate c.self.view_is c.self.invariant in
    let two = two_boxes c.row.result.now (target_length c.args.self.now is whole c.args.k c.stored.inside.targets (numbers_of c.row.result.now) (sym (ap (λ (s : Certificate). s.targets) seen)) c.requires c.row.ensures) in
    let row = target_row c.args.self.now is whole c.args.k c.stored.inside.targets (numbers_of c.row.result.now) (sym (ap (λ (s : Certificate). s.targets) seen)) c.requires c.row.ensures in
    let b = c.index-row-1.result in
    let held : (z : ℤ) → Within (2 ^ 126) z → to_z w128 (of_z w128 z) ≡ z = λ z h. omega (arith, ints, h.above, h.below) in
    ap₂ ◌∷◌ (held b.re.lo b.re.low_end) (ap₂ ◌∷◌ (held b.re.hi b.re.high_end) (ap₂ ◌∷◌ (held b.im.lo b.im.low_end) (ap₂ ◌∷◌ (held b.im.hi b.im.high_end) refl))) ∙ sym (second_box c.row.result.now b two c.index-row-1.is) ∙ sym (ap (drop 4) row)

pub returns-clause-size : goal.returns-clause-size
returns-clause-size c =
    let seen = c.stored.view_is ∙ c.self.view_is in
    let is = subst IsStored seen c.stored.invariant in
    let whole = subst IsCertificate c.self.view_is c.self.invariant in
    let most = most_given_target (grid_of c.args.self.now.head.version) in
    let range = (is.targets_are c.args.k (omega (arith, c.requires, whole.targets_are))).1 in
    subst (AreOrderedEnds most) (sym (returns-clause-numbers c)) (ends_behind most (nth_line c.args.self.now.targets c.args.k).numbers range)

use Rattle.std.proofs.Common.{◌≡◌, true, sym, ◌∙◌, subst}
use Rattle.std.proofs.lemmas.Bool.{false≢true}
use Rattle.certificate_nodes.specs.Presented.{accounting_of}
use Rattle.soundness.specs.Accounts.{has_target_under}
use Rattle.soundness.specs.Rules.{LocalHolds}
use Rattle.certificate_rows.proofs.locals.local_holds.Goals as goal

pub returns-then-not-radius_holds : goal.returns-then-not-radius_holds
returns-then-not-radius_holds g c =
    let A = accounting_of c.args.given.now in
    let has : has_target_under A c.args.n ≡ true = sym c.has_target.ensures ∙ c.if-not-has_target.false in (
      λ t. absurd (false≢true t),
      λ h. let holds : LocalHolds g.row.P A c.args.n = subst (λ order. LocalHolds order A c.args.n) c.requires.order (h has) in absurd (false≢true (sym c.if-not-radius_holds.true ∙ c.radius_holds.ensures.1 holds.radius)),
    )

pub returns : goal.returns
returns g c =
    let A = accounting_of c.args.given.now in
    let has : has_target_under A c.args.n ≡ true = sym c.has_target.ensures ∙ c.if-not-has_target.false in (
      λ t has.
          let holds : LocalHolds g.row.P A c.args.n = record { row = c.row_holds.ensures.0 t; radius = c.radius_holds.ensures.0 c.if-not-radius_holds.false } in
          subst (λ order. LocalHolds order A c.args.n) (sym c.requires.order) holds,
      λ h. let holds : LocalHolds g.row.P A c.args.n = subst (λ order. LocalHolds order A c.args.n) c.requires.order (h has) in c.row_holds.ensures.1 holds.row,
    )

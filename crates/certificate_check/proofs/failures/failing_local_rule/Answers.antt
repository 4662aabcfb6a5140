use Rattle.std.proofs.Common.{◌≡◌, ◌∙◌, inr, refl, sym, true, arith}
use Rattle.std.specs.Prelude.{IsTrue}
use Rattle.std.proofs.lemmas.Bool.{true≢false}
use Rattle.certificate_nodes.specs.Presented.{accounting_of}
use Rattle.soundness.specs.Accounts.{has_target_under, is_leaf}
use Rattle.certificate_check.proofs.failures.failing_local_rule.Goals as goal
use Rattle.certificate_check.proofs.failures.failing_local_rule.Goals.{else-is_leaf-via-then-is_leaf+then-has_target+else-not-tiled-n, else-is_leaf-via-then-is_leaf+else-has_target, else-is_leaf-via-else-is_leaf}

pub returns-then-not-tiled-n-clause-some : goal.returns-then-not-tiled-n-clause-some
returns-then-not-tiled-n-clause-some g c =
    let holds : IsTrue c.local_holds.result = search in
    let leaf : is_leaf (accounting_of c.args.given.now) c.args.n ≡ true = sym c.is_leaf.ensures ∙ c.if-is_leaf.true in
    let target : has_target_under (accounting_of c.args.given.now) c.args.n ≡ true = sym c.has_target.ensures ∙ c.if-has_target.true in
    inr (refl, c.local_holds.ensures.0 holds, λ h. let tiled = (c.requires.tiled.tilings c.args.n c.requires.node leaf).1 (h leaf target) in absurd (grind (arith, tiled, c.if-not-tiled-n.true)))

pub returns-clause-none : goal.returns-clause-none
returns-clause-none g c =
    let holds : IsTrue c.local_holds.result = search in (
      c.local_holds.ensures.0 holds,
      λ leaf target. elim c.else-is_leaf.branch [
        | else-is_leaf-via-then-is_leaf+then-has_target+else-not-tiled-n w ↦ (c.requires.tiled.tilings c.args.n c.requires.node leaf).0 (grind (arith, w.if-not-tiled-n.false))
        | else-is_leaf-via-then-is_leaf+else-has_target w ↦ absurd (true≢false (sym target ∙ sym w.has_target.ensures ∙ w.if-has_target.false))
        | else-is_leaf-via-else-is_leaf w ↦ absurd (true≢false (sym leaf ∙ sym c.is_leaf.ensures ∙ w.if-is_leaf.false))
      ],
    )

-- The level at which the walk stops, and the end of a walk that doesn't.
use Rattle.std.proofs.Common.{◌≡◌, ℕ, ◌+◌, ◌-◌, min, max, subst, sym, arith, ap, ◌∙◌}
use Rattle.std.proofs.lemmas.Bool.{false≢true}
use Rattle.cell_name.specs.Cell.{square}
use Rattle.cell_name.specs.Square.{ancestor}
use Rattle.cell_lists.specs.Cases.{Both}
use Rattle.cell_lists.specs.Walk.{AncestorsTouch}
use Rattle.cell_lists.proofs.OneEntry.{touches_along}
use Rattle.cell_lists.proofs.Descent.{case_at_stop, case_at_end, case_along}
use Rattle.cell_lists.proofs.walk.descend.Goals as goal

pub returns-then-not-touches : goal.returns-then-not-touches
returns-then-not-touches c =
    let b = square c.args.b in
    let d = square c.args.c in
    let m = c.args.b.level in
    let n = c.args.c.level in
    let t = c.loop-above.above + 1 in
    let eb : ancestor b (min t m) ≡ square c.ancestor.result = ap (ancestor b) (sym c.min-first.ensures) ∙ sym c.ancestor.ensures in
    let ed : ancestor d (min t n) ≡ square c.ancestor-in-loop-above.result = ap (ancestor d) (sym c.min-second.ensures) ∙ sym c.ancestor-in-loop-above.ensures in
    let P : ℕ → Type 0 = λ k. Both (AncestorsTouch b d) m n k in
    let back : c.loop-above.above ≡ t - 1 = omega arith in
    case_along (AncestorsTouch b d) m n _ _ _ _ _ _ (sym c.letter_at.ensures) (sym c.min-first.ensures) (sym c.min-second.ensures)
    (case_at_stop (AncestorsTouch b d) m n t (omega arith) (omega arith) (subst P back c.loop-above.invariant)
    (λ h. false≢true (sym c.if-not-touches.true ∙ c.touches.ensures.1 (touches_along _ _ _ _ eb ed h))))

pub returns : goal.returns
returns c =
    let b = square c.args.b in
    let d = square c.args.c in
    let m = c.args.b.level in
    let n = c.args.c.level in
    let P : ℕ → Type 0 = λ k. Both (AncestorsTouch b d) m n k in
    let end : c.loop-above.above ≡ max m n = omega arith in
    case_at_end (AncestorsTouch b d) m n (subst P end c.loop-above.invariant)

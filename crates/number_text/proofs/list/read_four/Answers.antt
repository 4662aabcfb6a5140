use Rattle.std.proofs.Common.{[], ◌∷◌}
use Rattle.number_text.proofs.Rows.{later_ints, kept}
use Rattle.number_text.proofs.list.read_four.Goals as goal

pub returns-in_err-second-clause-none : goal.returns-in_err-second-clause-none
returns-in_err-second-clause-none c =
    let first = c.in_ok-first.ensures.some in
    rw c.from_residual-in_err-second.ensures (λ x y z w ints. c.in_err-second.ensures.none y z w (later_ints _ _ _ x y (z ∷ w ∷ []) first.2 ints))

pub returns-clause-some : goal.returns-clause-some
returns-clause-some c =
    let first = c.in_ok-first.ensures.some in
    let rest = c.in_ok-second.ensures.some in
    (first.1, rest.0, rest.1, rest.2, (first.0, c.in_ok-first.rest.now, first.2, first.3, rest.3), kept _ first.1 first.4, kept _ rest.0 rest.4, kept _ rest.1 rest.5, kept _ rest.2 rest.6)

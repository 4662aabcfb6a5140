use Rattle.std.proofs.Common.{arith, sym, ◌∙◌}
use Rattle.std.proofs.lemmas.Bool.{false≢true}
use Rattle.std.proofs.lemmas.Int.{ints}
use Rattle.limits.proofs.in_grid.Goals as goal

pub returns-then-spans : goal.returns-then-spans
returns-then-spans c =
    let across = c.spans.ensures.0 c.if-spans.true in (
      λ t.
          let up = c.spans-then-spans.ensures.0 t in
          record { west = omega (arith, ints); east = omega (arith, ints); south = omega (arith, ints); north = omega (arith, ints) },
      λ h. c.spans-then-spans.ensures.1 (omega (arith, ints), omega (arith, ints)),
    )

pub returns-else-spans : goal.returns-else-spans
returns-else-spans c =
    (λ t. absurd (false≢true (sym c.if-spans.false ∙ t)), λ h. c.spans.ensures.1 (omega (arith, ints), omega (arith, ints)))

use Rattle.std.proofs.Common.{rules, sym, ◌∙◌}
use Rattle.std.proofs.lemmas.Bool.{false≢true}
use Rattle.limits.specs.Grid.{IsInGrid}
use Rattle.points.proofs.Point.is_in_range.Goals.{then-in_grid, else-in_grid}
use Rattle.points.proofs.Point.is_in_range.Goals as goal

pub returns-then-is_of : goal.returns-then-is_of
returns-then-is_of c =
    elim c.if-in_grid.branch [
      | then-in_grid w ↦
          let place : IsInGrid c.args.grid c.args.self.now.x c.args.self.now.y = search rules in
          let kind = w.is_of.ensures.0 (sym w.value-is ∙ c.if-is_of.true) in
          (λ t. record { place = place; kind = kind; strength = c.has_strength.ensures.0 t }, λ range. c.has_strength.ensures.1 range.strength)
      | else-in_grid w ↦ absurd (false≢true (sym w.if-in_grid.false ∙ sym w.value-is ∙ c.if-is_of.true))
    ]

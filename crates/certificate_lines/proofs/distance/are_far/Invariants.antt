use Rattle.std.specs.Prelude.{All, take}
use Rattle.cell_name.specs.Cell.{square}
use Rattle.points.specs.Points.{place}
use Rattle.soundness.specs.Squares.{IsFarFrom}
use Rattle.certificate_lines.proofs.distance.are_far.Given as goal

abbrev pub invariant-loop-p : goal.invariant-loop-p
invariant-loop-p l = All (λ p. IsFarFrom (square l.cell) (place p)) (take l.p-index l.points)

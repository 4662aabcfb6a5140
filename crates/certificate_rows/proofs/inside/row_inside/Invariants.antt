-- The boxes so far.
use Rattle.row_recursions.specs.Rows.{row_of}
use Rattle.soundness.specs.Rules.{RowInside}
use Rattle.certificate_rows.proofs.inside.row_inside.Given as goal

abbrev pub invariant-loop-k : goal.invariant-loop-k
invariant-loop-k l = RowInside l.k (row_of l.inner) (row_of l.outer)

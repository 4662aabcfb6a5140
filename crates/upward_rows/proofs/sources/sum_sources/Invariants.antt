-- The moments of the sources among the positions so far.
use Rattle.std.proofs.Common.{◌≡◌, ℕ, ◌<◌, take}
use Rattle.cell_name.specs.Cell.{square}
use Rattle.row_recursions.specs.Rows.{row_of}
use Rattle.soundness.specs.Computed.{total_row}
use Rattle.upward_rows.proofs.Points.{sources_at}
use Rattle.row_recursions.specs.Cells.{moments_in}
use Rattle.upward_rows.proofs.sources.sum_sources.Given as goal

abbrev pub invariant-loop-k : goal.invariant-loop-k
invariant-loop-k g l = (k : ℕ) → k < g.row.P → row_of l.row k ≡ total_row (moments_in (square l.cell)) (sources_at l.points (take l.k-index l.members)) k

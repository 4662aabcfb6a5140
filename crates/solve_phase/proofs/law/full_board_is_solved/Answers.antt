use Rattle.solve_phase.proofs.FullBoard.{holds_same}
use Rattle.solve_phase.proofs.law.full_board_is_solved.Goals as goal

pub returns : goal.returns
returns c P b f is full solved grids = holds_same P b f is full solved grids

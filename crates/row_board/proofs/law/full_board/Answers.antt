use Rattle.row_board.proofs.FullBoard.{holds_field}
use Rattle.row_board.proofs.FullWork.{takes_work}
use Rattle.row_board.proofs.law.full_board.Goals as goal

pub returns : goal.returns
returns c = record { field = holds_field; work = takes_work }

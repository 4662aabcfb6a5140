use Rattle.row_board.proofs.Needs.{needs_are_names, needs_come_before}
use Rattle.row_board.proofs.law.needs_are_places.Goals as goal

pub returns : goal.returns
returns c = record { named = needs_are_names; before = needs_come_before }

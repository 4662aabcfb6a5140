-- The empty board.
use Rattle.row_board.specs.Parts.{BoardParts}
use Rattle.row_board.proofs.Empty.{empty_board, none_filled}
use Rattle.row_board.proofs.board.Board.unmarked.Given.{Over}
use Rattle.row_board.proofs.board.Board.unmarked.Goals as goal

abbrev empty : (g : Over) → goal.Start g → BoardParts
empty g c = record {
  basis = c.args.basis;
  up = c.args.rows.up.items;
  local = c.args.rows.local.items;
  values = c.args.rows.values.items;
  has_up = c.args.marks.up.items;
  has_local = c.args.marks.local.items;
  has_value = c.args.marks.value.items;
}

pub invariant_of-result : goal.invariant_of-result
invariant_of-result g c = empty_board (empty g c) c.requires.marks g.row.P c.requires.basis c.requires.rows

pub returns-clause-board : goal.returns-clause-board
returns-clause-board g c = invariant_of-result g c

pub returns-clause-empty : goal.returns-clause-empty
returns-clause-empty g c = none_filled (empty g c) c.requires.marks

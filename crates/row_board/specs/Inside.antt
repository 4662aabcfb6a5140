-- What callers see of the fields of a board.
use Rattle.std.specs.Prelude.{ℕ}
use Rattle.row_board.specs.declared.board.Board.TheInside.{Inside}
use Rattle.row_board.specs.Board.{IsBoard}
use Rattle.row_board.specs.Parts.{BoardParts}

abbrev pub parts : {P : ℕ} → Inside P → BoardParts
parts b = record {
  basis = b.basis;
  up = b.up.items;
  local = b.local.items;
  values = b.values.items;
  has_up = b.has_up.items;
  has_local = b.has_local.items;
  has_value = b.has_value.items;
}

abbrev pub holds_board : {P : ℕ} → Inside P → Type 0
holds_board {P} b = IsBoard P (parts b)

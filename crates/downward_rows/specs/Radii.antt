-- What the entries of a cell can lose by truncation. No public contract cites it.
use Rattle.std.specs.Prelude.{ℕ, sum_by}
use Rattle.cell_lists.specs.ListAt.{list_at}
use Rattle.cell_name.specs.Square.{side}
use Rattle.quadtree.specs.TreeModel.{square_of}
use Rattle.tree_field.specs.Field.{pair_loss_in, single_loss_in}
use Rattle.field_basis.specs.Basis.{BasisModel}

-- a cell c of the V list of cell n, and all of them
abbrev pub v_loss : ℕ → BasisModel → ℕ → ℕ → ℕ
v_loss P b n c = pair_loss_in b.points P (side (square_of b.tree n)) (square_of b.tree c)

abbrev pub v_losses_of : ℕ → BasisModel → ℕ → ℕ
v_losses_of P b n = sum_by (v_loss P b n) (list_at b.lists.v n)

-- a cell c of its X list, and all of them
abbrev pub x_loss : ℕ → BasisModel → ℕ → ℕ → ℕ
x_loss P b n c = single_loss_in b.points P (side (square_of b.tree n)) (square_of b.tree c)

abbrev pub x_losses_of : ℕ → BasisModel → ℕ → ℕ
x_losses_of P b n = sum_by (x_loss P b n) (list_at b.lists.x n)

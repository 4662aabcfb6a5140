-- What the cells of a leaf's lists bring to a place, by their numbers. No public contract cites it.
use Rattle.std.specs.Prelude.{ℕ}
use Rattle.exact_math.specs.Ends.{BoxEnds}
use Rattle.exact_math.specs.Gaussian.{Gaussian}
use Rattle.cell_name.specs.Square.{side}
use Rattle.field_basis.specs.Basis.{BasisModel}
use Rattle.field_basis.specs.Counts.{count_apart, sources_at}
use Rattle.quadtree.specs.TreeModel.{square_of, node_of}
use Rattle.near_field.specs.Pair.{pair_box}
use Rattle.row_recursions.specs.Rows.{multipole_value}
use Rattle.soundness.specs.Squares.{offset}
use Rattle.soundness.specs.Steps.{total_box}
use Rattle.tree_field.specs.Field.{sources_in, multipole_row, single_loss_in}

module _ (P : ℕ) (b : BasisModel) where
  -- the value of the multipole row of a W cell, and what its entry can lose
  abbrev pub value_of_cell : Gaussian → ℕ → BoxEnds
  value_of_cell z c = multipole_value P (multipole_row b.points b.cap (square_of b.tree c)) (side (square_of b.tree c)) (offset (square_of b.tree c) z)

  abbrev pub loss_of_cell : ℕ → ℕ
  loss_of_cell c = single_loss_in b.points P (side (square_of b.tree c)) (square_of b.tree c)

-- the pairs with the sources of a U cell, and how many they are
abbrev pub pairs_of_cell : BasisModel → Gaussian → ℕ → BoxEnds
pairs_of_cell b z c = total_box (pair_box z) (sources_in b.points (square_of b.tree c))

abbrev pub count_of_cell : BasisModel → Gaussian → ℕ → ℕ
count_of_cell b z c = count_apart z (sources_at b.points (node_of b.tree c).members)

-- The points of a far cell, as they are read.
use Rattle.std.proofs.Common.{ℕ, ◌≡◌, ◌≤◌, ◌<◌, List, length, ap, ap₂, ◌∙◌, sym, subst, arith}
use Rattle.std.specs.Prelude.{All}
use Rattle.cell_name.specs.Square.{Square}
use Rattle.limits.specs.Limits.{most_points, widest_grid}
use Rattle.points.specs.declared.Point.{Point}
use Rattle.quadtree.specs.TreeModel.{size, square_of, node_of}
use Rattle.soundness.specs.Computed.{total_row}
use Rattle.field_basis.specs.Basis.{BasisModel, IsBasis}
use Rattle.downward_rows.specs.Entries.{IsFarCell, IsFarPosition, far_row_at, x_entry}
use Rattle.downward_rows.proofs.FieldRows.{far_cell_is}

module _ (P : ℕ) (b : BasisModel) (is : IsBasis P b) (n : ℕ) (lt : n < size b.tree) (c : ℕ) (far : IsFarCell b.tree b.points (square_of b.tree n) c) (points : List Point) (points_are : points ≡ b.points) (cell : Square) (cell_is : cell ≡ square_of b.tree n) (members : List ℕ) (members_are : members ≡ (node_of b.tree c).members) where
  pub positions_far : All (IsFarPosition points cell) members
  positions_far =
      let Q : List ℕ → Type 0 = λ l. All (IsFarPosition b.points (square_of b.tree n)) l in
      let R : Square → Type 0 = λ q. All (IsFarPosition b.points q) members in
      let S : List Point → Type 0 = λ l. All (IsFarPosition l cell) members in
      subst S (sym points_are) (subst R (sym cell_is) (subst Q (sym members_are) far.each))

  pub few_positions : length members ≤ most_points widest_grid
  few_positions = omega (arith, far.few, ap (λ l. length l) members_are)

  pub positions_read : (k : ℕ) → total_row (far_row_at points cell) members k ≡ x_entry b n c k
  positions_read k =
      ap (λ l. total_row (far_row_at l cell) members k) points_are
      ∙ ap₂ (λ q l. total_row (far_row_at b.points q) l k) cell_is members_are
      ∙ far_cell_is P b is n lt c far k

-- What the entries of a cell add, by numbers, is what those of the field add.
use Rattle.std.proofs.Common.{ℕ, ◌+◌, ◌-◌, ◌*◌, ◌<◌, ◌≡◌, List, [], ◌∷◌, map, filter, true, false, refl, sym, ap, ap₂, ◌∙◌, subst}
use Rattle.std.specs.Prelude.{All, Contains, sum_by}
use Rattle.std.proofs.lemmas.Bool.{false≢true}
use Rattle.std.proofs.lemmas.List.Elements.{All-contains}
use Rattle.exact_math.specs.Ends.{BoxEnds, zero_box, add_box}
use Rattle.exact_math.specs.Gaussian.{Gaussian}
use Rattle.exact_math.specs.Within.{GaussianBeyond}
use Rattle.cell_name.specs.Square.{Square, side, parent}
use Rattle.cell_lists.specs.ListAt.{list_at}
use Rattle.letters.specs.declared.Letter.TheVariants.{V, X}
use Rattle.kernel_table.specs.Kernel.{kernel_entry}
use Rattle.local_expansion.proofs.FarSources.{no_coefficients}
use Rattle.points.specs.Points.{is_source, place, strength}
use Rattle.points.specs.declared.Strength.{Strength}
use Rattle.points.specs.declared.Strength.TheVariants.{Pole, Dipole, Nothing}
use Rattle.points.specs.Strength.{pole_part, dipole_part, acts}
use Rattle.points.specs.declared.Point.{Point}
use Rattle.quadtree.proofs.Limits.{in_grid}
use Rattle.exact_math.proofs.Lists.{image_of}
use Rattle.quadtree.specs.TreeModel.{size, square_of, node_of}
use Rattle.row_recursions.proofs.RowSizes.{power_positive}
use Rattle.row_recursions.specs.Rows.{converted, far_source, AreSameRows}
use Rattle.soundness.specs.Computed.{total_row, total_box}
use Rattle.soundness.specs.Squares.{IsFarFrom, offset, quadrant}
use Rattle.tree_field.proofs.LocalRows.{local_row-below, local_radius-below}
use Rattle.tree_field.proofs.Program.{nodes_of_tree}
use Rattle.soundness.proofs.Sums.{total_box-map, total_box-fewer, sum_by-map}
use Rattle.tree_field.specs.Field.{sources_in, multipole_row, local_row, local_radius, pair_loss_in, single_loss_in}
use Rattle.tree_field.specs.Lists.{TreeLists, AreTreeLists}
use Rattle.field_basis.specs.Basis.{BasisModel, IsBasis}
use Rattle.field_basis.specs.Targets.{no_point, point_at}
use Rattle.downward_rows.specs.Entries.{far_row_at, v_rows_of, x_entry, x_rows_of, row_below, IsFarCell, IsFarPosition}
use Rattle.downward_rows.specs.Radii.{v_losses_of, x_losses_of}
use Rattle.downward_rows.proofs.Lists.{entries_by_number}
use Rattle.downward_rows.proofs.SameRows.{shifted_down_same}
use Rattle.row_recursions.specs.Cells.{far_coefficients_in}
use Rattle.soundness.specs.Steps.{v_rows, x_rows}
use Rattle.cell_name.specs.Apart.{sides_between}

-- ---- the points of a far cell
-- a target far from a cell adds nothing
nothing_of_target : (a : Strength) (b : Square) (z : Gaussian) → acts a ≡ false → GaussianBeyond (3 * side b) (offset b z) → (l : ℕ) → far_source (side b) (pole_part a) (dipole_part a) (offset b z) l ≡ zero_box
nothing_of_target (Pole re im) b z e far l = absurd (false≢true (sym e))
nothing_of_target (Dipole re im) b z e far l = absurd (false≢true (sym e))
nothing_of_target Nothing b z e far l = sym (no_coefficients (side b) (b.grid - b.level) (offset b z) (offset b z) (power_positive (b.grid - b.level)) refl refl far l)

all_kept : {X : Type 0} (xs : List X) → filter (λ x. true) xs ≡ xs
all_kept [] = refl
all_kept (x ∷ xs) = ap (λ l. x ∷ l) (all_kept xs)

-- of some points far from a cell, those that are sources add what all do
sources_add : (points : List Point) (b : Square) (members : List ℕ) → All (IsFarPosition points b) members → (l : ℕ)
    → total_row (far_row_at points b) members l ≡ total_row (far_coefficients_in b) (filter (λ p. is_source p.kind) (map (point_at points) members)) l
sources_add points b members far l =
    let here : List Point = map (point_at points) members in
    let f : Point → BoxEnds = λ p. far_coefficients_in b p l in
    sym (total_box-map f (point_at points) members)
    ∙ ap (total_box f) (sym (all_kept here))
    ∙ total_box-fewer f (λ p. true) (λ p. is_source p.kind) here (λ p h t. refl)
    (λ p h t out. nothing_of_target (strength p.kind) b (place p) out (far_at p h) l)
  where
    far_at : (p : Point) → Contains (map (point_at points) members) p → GaussianBeyond (3 * side b) (offset b (place p))
    far_at p h =
        let i = image_of (point_at points) members p h in
        let Q : Point → Type 0 = λ q. IsFarFrom b (place q) in
        subst Q i.gives (All-contains (IsFarPosition points b) members i.source far i.listed).far

-- ---- by numbers
module _ (P : ℕ) (b : BasisModel) (is : IsBasis P b) (n : ℕ) (lt : n < size b.tree) where
  pub far_cell_is : (c : ℕ) → IsFarCell b.tree b.points (square_of b.tree n) c → (k : ℕ) → total_row (far_row_at b.points (square_of b.tree n)) (node_of b.tree c).members k ≡ x_entry b n c k
  far_cell_is c far k =
      sources_add b.points (square_of b.tree n) (node_of b.tree c).members far.each k
      ∙ ap (λ l. total_row (far_coefficients_in (square_of b.tree n)) l k) ((nodes_of_tree b.tree b.points b.cap (in_grid b.tree.grid b.points is.within.range) is.is_tree c far.in_range).members no_point)

  module _ (lists : TreeLists) (are : AreTreeLists b.tree.grid b.points b.cap lists) where
    v_rows_are : (k : ℕ) → v_rows_of P b n k ≡ v_rows (λ c. c) (multipole_row b.points b.cap) P (square_of b.tree n) (lists.entries V (square_of b.tree n)) k
    v_rows_are k =
        sym (total_box-map (λ c. converted P (kernel_entry (sides_between (square_of b.tree n) c)) (multipole_row b.points b.cap c) k) (square_of b.tree) (list_at b.lists.v n))
        ∙ ap (λ l. total_box (λ c. converted P (kernel_entry (sides_between (square_of b.tree n) c)) (multipole_row b.points b.cap c) k) l) (sym (entries_by_number P b is V n lt lists are))

    x_rows_are : (k : ℕ) → x_rows_of b n k ≡ x_rows (λ p. p) (sources_in b.points) (square_of b.tree n) (lists.entries X (square_of b.tree n)) k
    x_rows_are k =
        sym (total_box-map (λ c. total_row (far_coefficients_in (square_of b.tree n)) (sources_in b.points c) k) (square_of b.tree) (list_at b.lists.x n))
        ∙ ap (λ l. total_box (λ c. total_row (far_coefficients_in (square_of b.tree n)) (sources_in b.points c) k) l) (sym (entries_by_number P b is X n lt lists are))

    pub row_is : (m : ℕ → BoxEnds) → 0 < (square_of b.tree n).level → AreSameRows P m (local_row b.points b.cap P lists (parent (square_of b.tree n))) → (k : ℕ) → row_below P b n m k ≡ local_row b.points b.cap P lists (square_of b.tree n) k
    row_is m lo same k =
        ap₂ add_box (shifted_down_same P m (local_row b.points b.cap P lists (parent (square_of b.tree n))) (quadrant (square_of b.tree n)) same k) (ap₂ add_box (v_rows_are k) (x_rows_are k))
        ∙ sym (local_row-below b.points b.cap P lists (square_of b.tree n) lo k)

    pub v_losses_are : v_losses_of P b n ≡ sum_by (pair_loss_in b.points P (side (square_of b.tree n))) (lists.entries V (square_of b.tree n))
    v_losses_are =
        sym (sum_by-map (pair_loss_in b.points P (side (square_of b.tree n))) (square_of b.tree) (list_at b.lists.v n))
        ∙ ap (λ l. sum_by (pair_loss_in b.points P (side (square_of b.tree n))) l) (sym (entries_by_number P b is V n lt lists are))

    pub x_losses_are : x_losses_of P b n ≡ sum_by (single_loss_in b.points P (side (square_of b.tree n))) (lists.entries X (square_of b.tree n))
    x_losses_are =
        sym (sum_by-map (single_loss_in b.points P (side (square_of b.tree n))) (square_of b.tree) (list_at b.lists.x n))
        ∙ ap (λ l. sum_by (single_loss_in b.points P (side (square_of b.tree n))) l) (sym (entries_by_number P b is X n lt lists are))

    pub radius_is : 0 < (square_of b.tree n).level → local_radius b.points b.cap P lists (parent (square_of b.tree n)) + (v_losses_of P b n + x_losses_of P b n) ≡ local_radius b.points b.cap P lists (square_of b.tree n)
    radius_is lo =
        ap (λ r. local_radius b.points b.cap P lists (parent (square_of b.tree n)) + r) (ap₂ (λ x y. x + y) v_losses_are x_losses_are)
        ∙ sym (local_radius-below b.points b.cap P lists (square_of b.tree n) lo)

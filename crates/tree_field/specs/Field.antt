-- The field of the method: rows and radii of the cells of the tree, and the box of each target.
-- Rows and boxes count units of 2^-40; a row is a function of its index.
use Rattle.std.specs.Prelude.{ℕ, zero, suc, ◌+◌, ◌-◌, pos, not, cond, List, map, filter, sum_by}
use Rattle.exact_math.specs.Ends.{BoxEnds, zero_box, add_box, widen_box}
use Rattle.exact_math.specs.Gaussian.{Gaussian}
use Rattle.cell_name.specs.Square.{Square, side, parent, square_at}
use Rattle.letters.specs.declared.Letter.TheVariants.{U, V, W, X}
use Rattle.points.specs.Points.{is_source, place}
use Rattle.points.specs.declared.Point.{Point}
use Rattle.cell_name.specs.Quarters.{quarters}
use Rattle.quadtree.specs.Tree.{is_over, is_source_in, has_source}
use Rattle.row_recursions.specs.Rows.{shifted_down, local_value}
use Rattle.truncation.specs.Tails.{pair_loss, single_loss}
use Rattle.soundness.specs.Squares.{offset, quadrant}
use Rattle.soundness.specs.Steps.{moments_of, weight_of, child_rows, v_rows, x_rows, w_values, u_pairs, radius_of}
use Rattle.tree_field.specs.Lists.{TreeLists}

-- ---- points and cells
module _ (points : List Point) where
  -- the sources in a cell, in the order of the list
  abbrev pub sources_in : Square → List Point
  sources_in c = filter (is_source_in c) points

  -- the targets, in the order of the list
  abbrev pub targets : List Point
  targets = filter (λ p. not (is_source p.kind)) points

  -- ---- multipole rows
  -- the sum of the moments of the sources
  abbrev pub leaf_row : Square → ℕ → BoxEnds
  leaf_row c = moments_of (λ p. p) c (sources_in c)

  -- ---- what an entry can lose
  module _ (P : ℕ) where
    abbrev pub weight_in : Square → ℕ
    weight_in c = weight_of (λ p. p) P (sources_in c)

    -- what an entry of two cells of the side s can lose. No public contract cites it.
    abbrev pub pair_loss_in : ℕ → Square → ℕ
    pair_loss_in s c = pair_loss P (weight_in c) s

    -- and one of a cell of the side s and of points. No public contract cites it.
    abbrev pub single_loss_in : ℕ → Square → ℕ
    single_loss_in s c = single_loss P (weight_in c) s

  module _ (cap : ℕ) where
    -- of a cell with that many levels below its own: the sum of the rows of its quarters with a source, shifted up, and of a leaf that of its sources
    unfoldable pub multipole_above : ℕ → Square → ℕ → BoxEnds
    multipole_above zero c = leaf_row c
    multipole_above (suc n) c = cond (is_over points cap c) (child_rows (λ q. q) (multipole_above n) (filter (has_source points) (quarters c))) (leaf_row c)

    abbrev pub multipole_row : Square → ℕ → BoxEnds
    multipole_row c = multipole_above (c.grid - c.level) c

    -- the first cell of a place with no more points than a leaf may have, from the cell with that many levels below it on, or the one of the last level
    unfoldable pub leaf_below : ℕ → ℕ → Gaussian → Square
    leaf_below zero grid z = square_at grid grid z.re z.im
    leaf_below (suc levels) grid z = let c = square_at grid (grid - suc levels) z.re z.im in cond (is_over points cap c) (leaf_below levels grid z) c

    abbrev pub leaf_at : ℕ → Gaussian → Square
    leaf_at grid z = leaf_below grid grid z

    -- ---- what the entries bring
    module _ (P : ℕ) (lists : TreeLists) where
      -- the local row of a cell of a level: nothing at the root, and below it the parent's brought down,
      -- the rows of the V entries converted, and the sources of the X entries
      unfoldable pub local_at_level : ℕ → Square → ℕ → BoxEnds
      local_at_level zero b k = zero_box
      local_at_level (suc level) b k =
          let entries = add_box (v_rows (λ c. c) multipole_row P b (lists.entries V b) k) (x_rows (λ p. p) sources_in b (lists.entries X b) k) in
          add_box (shifted_down P (local_at_level level (parent b)) (quadrant b) k) entries

      abbrev pub local_row : Square → ℕ → BoxEnds
      local_row b = local_at_level b.level b

      -- its radius
      unfoldable pub radius_at_level : ℕ → Square → ℕ
      radius_at_level zero b = 0
      radius_at_level (suc level) b = radius_of P (weight_in P) (side b) (radius_at_level level (parent b)) (lists.entries V b) (lists.entries X b)

      abbrev pub local_radius : Square → ℕ
      local_radius b = radius_at_level b.level b

      -- the box of a place in the leaf b: the value of its local row, the values of the rows of its W entries and the pairs of its U entries,
      -- widened by what all entries can lose
      abbrev pub box_in : Square → Gaussian → BoxEnds
      box_in b z =
          let value = local_value P (local_row b) (side b) (offset b z) in
          let far = w_values (λ c. c) multipole_row P z (lists.entries W b) in
          let near = u_pairs (λ p. p) sources_in z (lists.entries U b) in
          let lost = local_radius b + sum_by (λ c. single_loss P (weight_in P c) (side c)) (lists.entries W b) in
          widen_box (add_box value (add_box far near)) (pos lost)

      abbrev pub target_box : Gaussian → BoxEnds
      target_box z = box_in (leaf_at lists.grid z) z

      -- the boxes of the targets, in the order of the list
      abbrev pub target_boxes : List BoxEnds
      target_boxes = map (λ p. target_box (place p)) targets

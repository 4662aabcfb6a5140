-- The field of a list as an accounting, as its certificate has it:
-- its cells by their numbers in the list of cells, its sources and targets with their leaves, its entries, rows, radii
-- and boxes.
use Rattle.std.specs.Prelude.{ℕ, suc, Bool, cond, ◌&&◌, ◌==◌, nat_lt, List, [], ◌∷◌, ◌++◌, length, map, filter, slice_index_or}
use Rattle.std.specs.List.{flat_map}
use Rattle.exact_math.specs.Ends.{BoxEnds, zero_box}
use Rattle.cell_name.specs.Square.{Square, no_square, parent}
use Rattle.letters.specs.declared.Entry.{Entry}
use Rattle.letters.specs.declared.Letter.{Letter}
use Rattle.letters.specs.declared.Letter.TheVariants.{U, V, W, X}
use Rattle.points.specs.Points.{is_source, place}
use Rattle.points.specs.declared.Point.{Point}
use Rattle.soundness.specs.Accounts.{LeafSource, LeafTarget, Accounting}
use Rattle.tree_field.specs.Field.{targets, multipole_row, leaf_at, local_row, local_radius, target_box}
use Rattle.tree_field.specs.Lists.{TreeLists}
use Rattle.quadtree.specs.Tree.{has_target}

-- ---- cells by numbers
abbrev pub same_cell : Square → Square → Bool
same_cell c d = (c.grid == d.grid) && (c.level == d.level) && (c.i == d.i) && (c.j == d.j)

-- exactly where a cell stands in a list; the list's length where it doesn't
unfoldable pub number_among : List Square → Square → ℕ
number_among [] c = 0
number_among (d ∷ ds) c = cond (same_cell d c) 0 (suc (number_among ds c))

-- the cell of a number
abbrev pub cell_at : List Square → ℕ → Square
cell_at cells n = slice_index_or cells n no_square

-- the number of the parent
abbrev pub above : List Square → ℕ → ℕ
above cells n = cond (nat_lt n (length cells)) (number_among cells (parent (cell_at cells n))) 0

-- the points that are sources
abbrev pub sources : List Point → List Point
sources points = filter (λ p. is_source p.kind) points

-- ---- entries
module _ (lists : TreeLists) where
  abbrev pub entry : Letter → Square → Square → Entry
  entry letter b c = record { letter = letter; b = number_among lists.cells b; c = number_among lists.cells c }

  abbrev pub entries_from : Letter → Square → List Entry
  entries_from letter b = map (entry letter b) (lists.entries letter b)

  -- the entries of a cell, one letter after the other
  abbrev pub of_cell : Square → List Entry
  of_cell b = entries_from U b ++ (entries_from V b ++ (entries_from W b ++ entries_from X b))

module _ (grid : ℕ) (points : List Point) (cap : ℕ) where
  -- ---- sources in their leaves
  module _ (lists : TreeLists) where
    abbrev pub leaf_number : Point → ℕ
    leaf_number p = number_among lists.cells (leaf_at points cap grid (place p))

    abbrev pub leaf_source : Point → LeafSource
    leaf_source p = record { point = p; leaf = leaf_number p }

  -- ---- the accounting
  module _ (P : ℕ) (lists : TreeLists) where
    abbrev pub leaf_target : Point → LeafTarget
    leaf_target t = record { place = place t; leaf = leaf_number lists t; box = target_box points cap P lists (place t) }

    -- the local row and the radius of a cell with a target; a cell without one has the zero row and the radius 0
    abbrev pub row_for_targets : Square → ℕ → BoxEnds
    row_for_targets b = cond (has_target points b) (local_row points cap P lists b) (λ k. zero_box)

    abbrev pub radius_for_targets : Square → ℕ
    radius_for_targets b = cond (has_target points b) (local_radius points cap P lists b) 0

    -- what the field presents of itself
    abbrev pub accounting : Accounting
    accounting = record {
      nodes = length lists.cells;
      parent = above lists.cells;
      cell = cell_at lists.cells;
      sources = map (leaf_source lists) (sources points);
      targets = map leaf_target (targets points);
      entries = flat_map (of_cell lists) lists.cells;
      multipole = λ n. multipole_row points cap (cell_at lists.cells n);
      local = λ n. row_for_targets (cell_at lists.cells n);
      radius = λ n. radius_for_targets (cell_at lists.cells n);
    }

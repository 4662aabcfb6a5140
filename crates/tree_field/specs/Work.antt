-- How many translations and pairs the method makes.
use Rattle.std.specs.Prelude.{ℕ, ◌+◌, ◌&&◌, not, nat_lt, List, filter, length, sum_by}
use Rattle.std.specs.List.{count_by}
use Rattle.cell_name.specs.Square.{Square}
use Rattle.letters.specs.declared.Letter.TheVariants.{U, V}
use Rattle.points.specs.Points.{place}
use Rattle.near_field.specs.Pair.{is_at}
use Rattle.points.specs.declared.Point.{Point}
use Rattle.tree_field.specs.Field.{sources_in}
use Rattle.tree_field.specs.Lists.{TreeLists}
use Rattle.quadtree.specs.Tree.{has_source, has_target, is_target_in}

module _ (points : List Point) where
  -- the pairs of a target of b and a source of c at different places
  abbrev pub pairs_between : Square → Square → ℕ
  pairs_between b c = sum_by (λ t. count_by (λ p. not (is_at (place t) p)) (sources_in points c)) (filter (is_target_in b) points)

  module _ (lists : TreeLists) where
    -- the cells below the root with a source, the V entries, and the cells below the root with a target
    abbrev pub translations : ℕ
    translations =
        count_by (λ c. nat_lt 0 c.level && has_source points c) lists.cells
        + (sum_by (λ b. length (lists.entries V b)) lists.cells + count_by (λ c. nat_lt 0 c.level && has_target points c) lists.cells)

    -- the pairs of all U entries
    abbrev pub pairs : ℕ
    pairs = sum_by (λ b. sum_by (pairs_between b) (lists.entries U b)) lists.cells

-- What is summed over the sources of the entries that reach a leaf: the V and X entries of the leaf and of all cells above it, and the leaf's U and W entries.
use Rattle.std.specs.Prelude.{ℕ, zero, suc, ◌≡◌, ◌+◌, ◌<◌, true, List, sum_by}
use Rattle.cell_name.specs.Square.{Square, parent}
use Rattle.letters.specs.declared.Letter.{Letter}
use Rattle.letters.specs.declared.Letter.TheVariants.{U, V, W, X}
use Rattle.points.specs.declared.Point.{Point}
use Rattle.quadtree.specs.Tree.{AreInGrid, IsLeaf, has_target}
use Rattle.tree_field.specs.Accounting.{sources}
use Rattle.tree_field.specs.Field.{sources_in}
use Rattle.tree_field.specs.Lists.{TreeLists, AreTreeLists}

module _ (points : List Point) (lists : TreeLists) (f : Point → ℕ) where
  -- over the sources of the entries of one letter and cell
  abbrev pub over_entries : Letter → Square → ℕ
  over_entries letter b = sum_by (λ c. sum_by f (sources_in points c)) (lists.entries letter b)

  -- over those of the V and X entries of a cell of a level and of all cells above it
  unfoldable pub over_path_at : ℕ → Square → ℕ
  over_path_at zero b = over_entries V b + over_entries X b
  over_path_at (suc level) b = over_path_at level (parent b) + (over_entries V b + over_entries X b)

  abbrev pub over_path : Square → ℕ
  over_path b = over_path_at b.level b

  -- over those of all entries that reach a leaf
  abbrev pub over_reaching : Square → ℕ
  over_reaching leaf = over_path leaf + (over_entries U leaf + over_entries W leaf)

-- each source once: where a leaf has a target, what is summed over the sources of the entries that reach the leaf is the sum over all sources
abbrev pub EachSourceOnce : Type 0
EachSourceOnce =
    (grid : ℕ) (points : List Point) (cap : ℕ) (lists : TreeLists) → 0 < grid → AreInGrid grid points → AreTreeLists grid points cap lists
    → (leaf : Square) → IsLeaf grid points cap leaf → has_target points leaf ≡ true → (f : Point → ℕ)
    → over_reaching points lists f leaf ≡ sum_by f (sources points)

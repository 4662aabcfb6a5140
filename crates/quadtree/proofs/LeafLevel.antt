-- The cells of the tree that hold one point: those from level 0 down to one level, where the leaf is.
use Rattle.std.proofs.Common.{ℕ, ◌≡◌, ◌+◌, ◌<◌, ◌≤◌, suc, zero, ◌⊎◌, inl, inr, arith, refl, sym, ap, subst, List, add-one}
use Rattle.std.specs.Prelude.{Contains}
use Rattle.std.proofs.lemmas.Bool.{cases_lt}
use Rattle.points.specs.declared.Point.{Point}
use Rattle.cell_name.proofs.Levels.{first_stop, above_le}
use Rattle.cell_name.specs.Square.{Square, parent, square_at, IsInGrid, holds_test}
use Rattle.cell_name.proofs.Cells.{Holds-square_at, parent-square_at, square_at-root}
use Rattle.quadtree.specs.Tree.{count_in, IsTreeCell, IsLeaf}
use Rattle.cell_name.proofs.HoldsTest.{test-from_Holds}
use Rattle.quadtree.proofs.Counts.{count_by-listed, count_in-parent}

-- the cell of the point at a level
abbrev pub cell_of : ℕ → Point → ℕ → Square
cell_of grid p level = square_at grid level p.x p.y

-- what is given of the point
pub record IsListed (grid : ℕ) (points : List Point) (p : Point) : Type 0 where
  pub listed : Contains points p
  pub in_grid : IsInGrid grid p.x p.y

pub occupied : (grid : ℕ) (points : List Point) (p : Point) → IsListed grid points p → (level : ℕ) → 1 ≤ count_in points (cell_of grid p level)
occupied grid points p given level =
    count_by-listed (λ q. holds_test (cell_of grid p level) q.x q.y) points p given.listed
    (test-from_Holds (cell_of grid p level) p.x p.y (Holds-square_at grid level p.x p.y given.in_grid))

-- the cells of the point have fewer points the deeper they are
pub fewer-below : (grid : ℕ) (points : List Point) (p : Point) (level : ℕ) → level < grid → count_in points (cell_of grid p (level + 1)) ≤ count_in points (cell_of grid p level)
fewer-below grid points p level lt =
    let e = parent-square_at grid level p.x p.y lt in
    let h : count_in points (cell_of grid p (level + 1)) ≤ count_in points (parent (cell_of grid p (level + 1))) = count_in-parent points (cell_of grid p (level + 1)) (omega arith) (omega arith) in
    let P : Square → Type 0 = λ c. count_in points (cell_of grid p (level + 1)) ≤ count_in points c in
    subst P e h

-- where the point's cell of a level stands in the tree
pub tree_at_next : (grid : ℕ) (points : List Point) (cap : ℕ) (p : Point) → IsListed grid points p → (level : ℕ) → level < grid → cap < count_in points (cell_of grid p level) → IsTreeCell grid points cap (cell_of grid p (suc level))
tree_at_next grid points cap p given level lt crowded =
    let e : parent (cell_of grid p (suc level)) ≡ cell_of grid p level = rw add-one at (parent-square_at grid level p.x p.y lt) in
    record {
      of_grid = refl;
      level_in_grid = omega arith;
      occupied = occupied grid points p given (suc level);
      reached = inr (omega arith, let P : Square → Type 0 = λ c. cap < count_in points c in subst P (sym e) crowded);
    }

pub crowded_above : (grid : ℕ) (points : List Point) (cap : ℕ) (p : Point) (level : ℕ) → IsTreeCell grid points cap (cell_of grid p (suc level)) → cap < count_in points (cell_of grid p level)
crowded_above grid points cap p level h =
    let e : parent (cell_of grid p (suc level)) ≡ cell_of grid p level = rw add-one at (parent-square_at grid level p.x p.y (omega (arith, h.level_in_grid))) in
    elim h.reached [
      | inl is_root ↦ absurd (let z : suc level ≡ 0 = ap (λ (c : Square). c.level) is_root in omega arith)
      | inr below ↦ let P : Square → Type 0 = λ c. cap < count_in points c in subst P e below.1
    ]

-- the tree's cells of a point: down to a level `last`, and the leaf there
pub record IsLeafLevel (grid : ℕ) (points : List Point) (cap : ℕ) (p : Point) (last : ℕ) : Type 0 where
  pub in_grid : last ≤ grid
  pub in_tree : (k : ℕ) → k ≤ last → IsTreeCell grid points cap (cell_of grid p k)
  pub no_deeper : (k : ℕ) → IsTreeCell grid points cap (cell_of grid p k) → k ≤ last
  pub leaf : IsLeaf grid points cap (cell_of grid p last)
  pub no_other : (k : ℕ) → IsLeaf grid points cap (cell_of grid p k) → k ≡ last

-- the point's cell of a level stands in the tree
abbrev pub InTreeAt : ℕ → List Point → ℕ → Point → ℕ → Type 0
InTreeAt grid points cap p k = IsTreeCell grid points cap (cell_of grid p k)

tree_at_root : (grid : ℕ) (points : List Point) (cap : ℕ) (p : Point) → 0 < grid → IsListed grid points p → InTreeAt grid points cap p 0
tree_at_root grid points cap p positive given =
    record {
      of_grid = refl;
      level_in_grid = omega arith;
      occupied = occupied grid points p given 0;
      reached = inl (square_at-root grid p.x p.y positive given.in_grid);
    }

pub tree_above : (grid : ℕ) (points : List Point) (cap : ℕ) (p : Point) → 0 < grid → IsListed grid points p → (k : ℕ) → InTreeAt grid points cap p (suc k) → InTreeAt grid points cap p k
tree_above grid points cap p positive given zero h = tree_at_root grid points cap p positive given
tree_above grid points cap p positive given (suc k) h =
    let lt : suc k < grid = omega (arith, h.level_in_grid) in
    let crowded : cap < count_in points (cell_of grid p (suc k)) = crowded_above grid points cap p (suc k) h in
    let fewer : count_in points (cell_of grid p (suc k)) ≤ count_in points (cell_of grid p k) = rw add-one at (fewer-below grid points p k (omega arith)) in
    tree_at_next grid points cap p given k (omega arith) (omega (arith, crowded, fewer))

decide_tree : (grid : ℕ) (points : List Point) (cap : ℕ) (p : Point) → 0 < grid → IsListed grid points p → (k : ℕ) → InTreeAt grid points cap p k ⊎ (InTreeAt grid points cap p k → ⊥)
decide_tree grid points cap p positive given zero = inl (tree_at_root grid points cap p positive given)
decide_tree grid points cap p positive given (suc k) =
    elim (cases_lt k grid) [
      | inr deep ↦ inr (λ h. absurd (omega (arith, h.level_in_grid)))
      | inl lt ↦
          elim (cases_lt cap (count_in points (cell_of grid p k))) [
            | inl crowded ↦ inl (tree_at_next grid points cap p given k lt crowded)
            | inr few ↦ inr (λ h. absurd (omega (arith, few, crowded_above grid points cap p k h)))
          ]
    ]

-- the level after which the tree's cells of the point stop
leaf_at_stop : (grid : ℕ) (points : List Point) (cap : ℕ) (p : Point) → 0 < grid → IsListed grid points p → (last : ℕ) → last ≤ grid → InTreeAt grid points cap p last → (InTreeAt grid points cap p (suc last) → ⊥) → IsLeafLevel grid points cap p last
leaf_at_stop grid points cap p positive given last le here stop =
    record {
      in_grid = le;
      in_tree = λ k k_last. above_le (InTreeAt grid points cap p) (tree_above grid points cap p positive given) k last k_last here;
      no_deeper = no_deeper;
      leaf = record { in_tree = here; ends = ends };
      no_other = λ k leaf. only_leaf k leaf (no_deeper k leaf.in_tree);
    }
  where
    no_deeper : (k : ℕ) → InTreeAt grid points cap p k → k ≤ last
    no_deeper k h =
        elim (cases_lt last k) [
          | inl deep ↦ absurd (stop (above_le (InTreeAt grid points cap p) (tree_above grid points cap p positive given) (suc last) k deep h))
          | inr k_last ↦ k_last
        ]

    ends : (count_in points (cell_of grid p last) ≤ cap) ⊎ (last ≡ grid)
    ends =
        elim (cases_lt last grid) [
          | inr end ↦ inr (omega arith)
          | inl lt ↦
              elim (cases_lt cap (count_in points (cell_of grid p last))) [
                | inl crowded ↦ absurd (stop (tree_at_next grid points cap p given last lt crowded))
                | inr few ↦ inl few
              ]
        ]

    only_leaf : (k : ℕ) → IsLeaf grid points cap (cell_of grid p k) → k ≤ last → k ≡ last
    only_leaf k leaf k_last =
        elim (cases_lt k last) [
          | inr ge ↦ omega arith
          | inl lt ↦
              let crowded : cap < count_in points (cell_of grid p k) = crowded_above grid points cap p k (above_le (InTreeAt grid points cap p) (tree_above grid points cap p positive given) (suc k) last lt here) in
              elim leaf.ends [ inl few ↦ absurd (omega (arith, few, crowded)) | inr end ↦ absurd (omega (arith, end)) ]
        ]

pub leaf_level_exists : (grid : ℕ) (points : List Point) (cap : ℕ) (p : Point) → 0 < grid → IsListed grid points p → (last : ℕ) × IsLeafLevel grid points cap p last
leaf_level_exists grid points cap p positive given =
    elim (first_stop (InTreeAt grid points cap p) (tree_at_root grid points cap p positive given) (decide_tree grid points cap p positive given) grid) [
      | inl all ↦ (grid, leaf_at_stop grid points cap p positive given grid (omega arith) all (λ h. absurd (omega (arith, h.level_in_grid))))
      | inr found ↦ (found.0, leaf_at_stop grid points cap p positive given found.0 (omega (arith, found.1)) found.2 found.3)
    ]

-- The cells of the levels are the cells of the tree, each once.
use Rattle.std.proofs.Common.{ℕ, ◌≡◌, ◌≢◌, ◌<◌, ◌≤◌, zero, suc, inl, inr, List, [], ◌∷◌, get_or, true, ltb, sym, ap, ◌∙◌, subst, arith}
use Rattle.std.specs.Prelude.{All, AllPairs, Contains}
use Rattle.std.specs.List.{flat_map}
use Rattle.std.proofs.lemmas.Bool.{cases_lt, ltb-true, lt-ltb}
use Rattle.std.proofs.lemmas.List.Elements.{All-contains, Contains-get_or}
use Rattle.std.proofs.lemmas.List.Kept.{AllPairs-filter}
use Rattle.points.specs.declared.Point.{Point}
use Rattle.cell_name.specs.Square.{Square, root, parent}
use Rattle.cell_name.proofs.Quarters.{IsQuarter, quarters_are, quarters_contain, quarters_differ}
use Rattle.cell_name.specs.Quarters.{quarters}
use Rattle.quadtree.specs.Splitting.{below, cells_of_level, IsCellOfLevel, AreCellsOfLevel}
use Rattle.quadtree.specs.Tree.{AreInGrid, count_in}
use Rattle.quadtree.proofs.Distinct.{Contains-filter, Contains-into_filter, Contains-flat_map, All-flat_map, different-flat_map}
use Rattle.quadtree.proofs.Levels.{below-split, below-whole}
use Rattle.quadtree.proofs.Parents.{IsTreeCell-parent}

-- ---- the cells below a cell

has_point : (points : List Point) (c : Square) → ltb 0 (count_in points c) ≡ true → 1 ≤ count_in points c
has_point points c e = ltb-true 0 (count_in points c) e

test-has_point : (points : List Point) (c : Square) → 1 ≤ count_in points c → ltb 0 (count_in points c) ≡ true
test-has_point points c h = lt-ltb 0 (count_in points c) h

-- a cell that splitting another makes
pub record IsBelow (points : List Point) (cap : ℕ) (c a : Square) : Type 0 where
  pub split : cap < count_in points c
  pub quarter : IsQuarter c a
  pub occupied : 1 ≤ count_in points a

pub below_is : (points : List Point) (cap : ℕ) (c a : Square) → Contains (below points cap c) a → IsBelow points cap c a
below_is points cap c a h =
    elim (cases_lt cap (count_in points c)) [
      | inl over ↦
          let P : List Square → Type 0 = λ l. Contains l a in
          let kept = Contains-filter (λ q. ltb 0 (count_in points q)) (quarters c) a (subst P (below-split points cap c over) h) in
          record { split = over; quarter = All-contains (IsQuarter c) (quarters c) a (quarters_are c) kept.0; occupied = has_point points a kept.1 }
      | inr few ↦
          let P : List Square → Type 0 = λ l. Contains l a in
          let none : Contains [] a = subst P (below-whole points cap c few) h in
          absurd (omega (arith, none.1))
    ]

pub below_has : (points : List Point) (cap : ℕ) (c : Square) → 0 < c.level → (cap < count_in points (parent c)) → 1 ≤ count_in points c → Contains (below points cap (parent c)) c
below_has points cap c lo split occupied =
    let P : List Square → Type 0 = λ l. Contains l c in
    subst P (sym (below-split points cap (parent c) split)) (Contains-into_filter (λ q. ltb 0 (count_in points q)) (quarters (parent c)) c (quarters_contain c lo) (test-has_point points c occupied))

below_differ : (points : List Point) (cap : ℕ) (c : Square) → AllPairs (λ a b. a ≢ b) (below points cap c)
below_differ points cap c =
    elim (cases_lt cap (count_in points c)) [
      | inl over ↦ let P : List Square → Type 0 = λ l. AllPairs (λ a b. a ≢ b) l in subst P (sym (below-split points cap c over)) (AllPairs-filter (λ a b. a ≢ b) (λ q. ltb 0 (count_in points q)) (quarters c) (quarters_differ c))
      | inr few ↦ let P : List Square → Type 0 = λ l. AllPairs (λ a b. a ≢ b) l in subst P (sym (below-whole points cap c few)) (λ i j d lt inside. absurd (omega arith))
    ]

-- ---- the cells of a level

cell_below : (grid : ℕ) (points : List Point) (cap level : ℕ) (c a : Square) → suc level ≤ grid → IsCellOfLevel grid points cap level c → IsBelow points cap c a → IsCellOfLevel grid points cap (suc level) a
cell_below grid points cap level c a le h b =
    let P : Square → Type 0 = λ v. cap < count_in points v in
    record {
      in_tree =
          record {
            of_grid = b.quarter.of_grid ∙ h.in_tree.of_grid;
            level_in_grid = omega (arith, b.quarter.level, h.level_is);
            occupied = b.occupied;
            reached = inr (omega (arith, b.quarter.level), subst P (sym b.quarter.parent_is) b.split);
          };
      level_is = omega (arith, b.quarter.level, h.level_is);
    }

-- the cells below those of a level
are_below : (grid : ℕ) (points : List Point) (cap level : ℕ) (cells : List Square) → suc level ≤ grid → All (IsCellOfLevel grid points cap level) cells → All (IsCellOfLevel grid points cap (suc level)) (flat_map (below points cap) cells)
are_below grid points cap level cells le above =
    All-flat_map (IsCellOfLevel grid points cap (suc level)) (below points cap) cells
    (λ c h k d lt. cell_below grid points cap level c (get_or (below points cap c) k d) le (All-contains (IsCellOfLevel grid points cap level) cells c above h) (below_is points cap c (get_or (below points cap c) k d) (Contains-get_or (below points cap c) k d lt)))

whole_below : (grid : ℕ) (points : List Point) (cap level : ℕ) (cells : List Square) → 0 < grid → AreInGrid grid points → ((c : Square) → IsCellOfLevel grid points cap level c → Contains cells c) → (c : Square) → IsCellOfLevel grid points cap (suc level) c → Contains (flat_map (below points cap) cells) c
whole_below grid points cap level cells positive inside above c h =
    let lo : 0 < c.level = omega (arith, h.level_is) in
    let up : IsCellOfLevel grid points cap level (parent c) = record { in_tree = IsTreeCell-parent grid points cap c positive inside h.in_tree lo; level_is = omega (arith, h.level_is) } in
    elim h.in_tree.reached [
      | inl is_root ↦ absurd (let z : c.level ≡ 0 = ap (λ (v : Square). v.level) is_root in omega arith)
      | inr reached ↦ Contains-flat_map (below points cap) cells (parent c) c (above (parent c) up) (below_has points cap c lo reached.1 h.in_tree.occupied)
    ]

differ_below : (points : List Point) (cap : ℕ) (cells : List Square) → AllPairs (λ a b. a ≢ b) cells → AllPairs (λ a b. a ≢ b) (flat_map (below points cap) cells)
differ_below points cap cells above = different-flat_map (below points cap) parent cells above (λ c h. below_differ points cap c) (λ c a listed h. (below_is points cap c a h).quarter.parent_is)

pub cells_below : (grid : ℕ) (points : List Point) (cap level : ℕ) (cells : List Square) → 0 < grid → AreInGrid grid points → suc level ≤ grid → AreCellsOfLevel grid points cap level cells → AreCellsOfLevel grid points cap (suc level) (flat_map (below points cap) cells)
cells_below grid points cap level cells positive inside le h =
    record {
      each = are_below grid points cap level cells le h.each;
      whole = whole_below grid points cap level cells positive inside h.whole;
      different = differ_below points cap cells h.different;
    }

pub cells_of_level_are : (grid : ℕ) (points : List Point) (cap level : ℕ) → level ≤ grid → All (IsCellOfLevel grid points cap level) (cells_of_level grid points cap level)
cells_of_level_are grid points cap zero le = λ k d lt. first (get_or (cells_of_level grid points cap zero) k d) (Contains-get_or (cells_of_level grid points cap zero) k d lt)
  where
    only : (a : Square) → Contains (root grid ∷ []) a → a ≡ root grid
    only a (zero, lt, e) = sym e
    only a (suc n, lt, e) = absurd (omega arith)

    first : (c : Square) → Contains (cells_of_level grid points cap zero) c → IsCellOfLevel grid points cap zero c
    first c h =
        let kept = Contains-filter (λ q. ltb 0 (count_in points q)) (root grid ∷ []) c h in
        let e : c ≡ root grid = only c kept.0 in
        let level : c.level ≡ 0 = ap (λ (v : Square). v.level) e in
        record {
          in_tree = record { of_grid = ap (λ (v : Square). v.grid) e; level_in_grid = omega arith; occupied = has_point points c kept.1; reached = inl e };
          level_is = level;
        }
cells_of_level_are grid points cap (suc level) le = are_below grid points cap level (cells_of_level grid points cap level) le (cells_of_level_are grid points cap level (omega arith))

pub cells_of_level_whole : (grid : ℕ) (points : List Point) (cap level : ℕ) → 0 < grid → AreInGrid grid points → (c : Square) → IsCellOfLevel grid points cap level c → Contains (cells_of_level grid points cap level) c
cells_of_level_whole grid points cap zero positive inside c h =
    elim h.in_tree.reached [
      | inl is_root ↦ Contains-into_filter (λ q. ltb 0 (count_in points q)) (root grid ∷ []) c (0, omega arith, sym is_root) (test-has_point points c h.in_tree.occupied)
      | inr below ↦ absurd (omega (arith, below.0, h.level_is))
    ]
cells_of_level_whole grid points cap (suc level) positive inside c h = whole_below grid points cap level (cells_of_level grid points cap level) positive inside (cells_of_level_whole grid points cap level positive inside) c h

pub cells_of_level_differ : (grid : ℕ) (points : List Point) (cap level : ℕ) → AllPairs (λ a b. a ≢ b) (cells_of_level grid points cap level)
cells_of_level_differ grid points cap zero = AllPairs-filter (λ a b. a ≢ b) (λ q. ltb 0 (count_in points q)) (root grid ∷ []) (λ i j d lt inside. absurd (omega arith))
cells_of_level_differ grid points cap (suc level) = differ_below points cap (cells_of_level grid points cap level) (cells_of_level_differ grid points cap level)

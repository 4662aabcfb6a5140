-- The cells of all levels down to one.
use Rattle.std.proofs.Common.{ℕ, ◌≡◌, ◌≢◌, ◌+◌, ◌<◌, ◌≤◌, zero, suc, inl, inr, List, [], ◌∷◌, ◌++◌, length, get_or, drop, ltb, refl, sym, ap, ◌∙◌, subst, arith, add-one, length-append}
use Rattle.std.specs.Prelude.{All, AllPairs, Contains}
use Rattle.std.specs.List.{flat_map}
use Rattle.std.specs.List.Sorted.{IsPermutation, IsSortedBy}
use Rattle.std.specs.Ordering.{is_lt}
use Rattle.std.proofs.lemmas.Bool.{cases_lt}
use Rattle.std.proofs.lemmas.List.{drop_at, get_or_append_left, length-map, map-append}
use Rattle.std.proofs.lemmas.List.Elements.{All-append, All-contains, All-weaker, Contains-append_left, Contains-append_right, Contains-get_or}
use Rattle.std.proofs.lemmas.List.Kept.{AllPairs-filter}
use Rattle.std.proofs.lemmas.List.Sorted.{IsPermutation-map, All-permutation}
use Rattle.points.specs.declared.Point.{Point}
use Rattle.cell_name.specs.Cell.{square}
use Rattle.cell_name.specs.Order.{IsBefore}
use Rattle.cell_name.specs.Square.{Square, root, no_square}
use Rattle.quadtree.specs.declared.split.Run.{Run}
use Rattle.quadtree.specs.Splitting.{squares_of, occupied, below, cells_of_level, cells_to_level, IsRun, AreRuns, IsParentNumber, HaveParents, AreBelow, IsCellOfLevel, AreCellsOfLevel, IsCellToLevel, IsBuiltTo}
use Rattle.quadtree.specs.Tree.{AreInGrid, count_in, IsTreeCell, AreExactly}
use Rattle.quadtree.proofs.Distinct.{AllPairs-append}
use Rattle.quadtree.proofs.Sorted.{run_cmp, cells_moved, ascending_from_sort}
use Rattle.quadtree.proofs.TreeCells.{cells_below, cells_of_level_are, cells_of_level_whole, cells_of_level_differ}

pub cells_to_level_are : (grid : ℕ) (points : List Point) (cap level : ℕ) → level ≤ grid → All (IsCellToLevel grid points cap level) (cells_to_level grid points cap level)
cells_to_level_are grid points cap zero le = All-weaker (IsCellOfLevel grid points cap 0) (IsCellToLevel grid points cap 0) (λ c h. record { in_tree = h.in_tree; level_at_most = omega (arith, h.level_is) }) (cells_of_level grid points cap 0) (cells_of_level_are grid points cap 0 le)
cells_to_level_are grid points cap (suc level) le =
    All-append (IsCellToLevel grid points cap (suc level)) (cells_to_level grid points cap level) (cells_of_level grid points cap (suc level))
    (All-weaker (IsCellToLevel grid points cap level) (IsCellToLevel grid points cap (suc level)) (λ c h. record { in_tree = h.in_tree; level_at_most = omega (arith, h.level_at_most) }) (cells_to_level grid points cap level) (cells_to_level_are grid points cap level (omega arith)))
    (All-weaker (IsCellOfLevel grid points cap (suc level)) (IsCellToLevel grid points cap (suc level)) (λ c h. record { in_tree = h.in_tree; level_at_most = omega (arith, h.level_is) }) (cells_of_level grid points cap (suc level)) (cells_of_level_are grid points cap (suc level) le))

pub cells_to_level_whole : (grid : ℕ) (points : List Point) (cap level : ℕ) → 0 < grid → AreInGrid grid points → (c : Square) → IsTreeCell grid points cap c → c.level ≤ level → Contains (cells_to_level grid points cap level) c
cells_to_level_whole grid points cap zero positive inside c h le = cells_of_level_whole grid points cap 0 positive inside c (record { in_tree = h; level_is = omega arith })
cells_to_level_whole grid points cap (suc level) positive inside c h le =
    elim (cases_lt level c.level) [
      | inl deep ↦ Contains-append_right (cells_to_level grid points cap level) (cells_of_level grid points cap (suc level)) c (cells_of_level_whole grid points cap (suc level) positive inside c (record { in_tree = h; level_is = omega arith }))
      | inr high ↦ Contains-append_left (cells_to_level grid points cap level) (cells_of_level grid points cap (suc level)) c (cells_to_level_whole grid points cap level positive inside c h high)
    ]

pub cells_to_level_differ : (grid : ℕ) (points : List Point) (cap level : ℕ) → level ≤ grid → AllPairs (λ a b. a ≢ b) (cells_to_level grid points cap level)
cells_to_level_differ grid points cap zero le = cells_of_level_differ grid points cap 0
cells_to_level_differ grid points cap (suc level) le =
    AllPairs-append (λ a b. a ≢ b) (cells_to_level grid points cap level) (cells_of_level grid points cap (suc level)) (cells_to_level_differ grid points cap level (omega arith)) (cells_of_level_differ grid points cap (suc level))
    (λ a h k d lt e.
    let b : Square = get_or (cells_of_level grid points cap (suc level)) k d in
    let above = All-contains (IsCellToLevel grid points cap level) (cells_to_level grid points cap level) a (cells_to_level_are grid points cap level (omega arith)) h in
    let here = All-contains (IsCellOfLevel grid points cap (suc level)) (cells_of_level grid points cap (suc level)) b (cells_of_level_are grid points cap (suc level) le) (Contains-get_or (cells_of_level grid points cap (suc level)) k d lt) in
    let same : a.level ≡ b.level = ap (λ (c : Square). c.level) e in
    omega (arith, above.level_at_most, here.level_is))

-- ---- what is built, level by level
-- one cell alone is in order
ascending_one : (grid : ℕ) (points : List Point) → AllPairs IsBefore (occupied points (root grid ∷ []))
ascending_one grid points = AllPairs-filter IsBefore (λ c. ltb 0 (count_in points c)) (root grid ∷ []) (λ i j d lt inside. absurd (omega arith))

pub built_root : (grid : ℕ) (points : List Point) (cap : ℕ) (xs : List ℕ) (runs : List Run) → 0 < grid → AreInGrid grid points → squares_of runs ≡ occupied points (root grid ∷ []) → AreRuns points xs runs → HaveParents (squares_of runs) runs → IsBuiltTo grid points cap 0 0 xs runs
built_root grid points cap xs runs positive inside e are parents =
    let P : List Square → Type 0 = λ l. AreExactly (IsCellToLevel grid points cap 0) l in
    let Q : List Square → Type 0 = λ l. AreCellsOfLevel grid points cap 0 l in
    record {
      cells =
          subst P (sym e) (record {
            each = cells_to_level_are grid points cap 0 (omega arith);
            whole = λ c h. cells_to_level_whole grid points cap 0 positive inside c h.in_tree h.level_at_most;
            ascending = ascending_one grid points;
          });
      start_inside = omega arith;
      last =
          subst Q (sym e) (record {
            each = cells_of_level_are grid points cap 0 (omega arith);
            whole = cells_of_level_whole grid points cap 0 positive inside;
            different = cells_of_level_differ grid points cap 0;
          });
      runs_are = are;
      parents = parents;
    }

-- the cells of one more level
one_level_more : (grid : ℕ) (points : List Point) (cap level : ℕ) (cells next : List Square) → AreExactly (IsCellToLevel grid points cap level) cells → AreCellsOfLevel grid points cap (suc level) next → AllPairs IsBefore next → AreExactly (IsCellToLevel grid points cap (suc level)) (cells ++ next)
one_level_more grid points cap level cells next h n up =
    record {
      each =
          All-append (IsCellToLevel grid points cap (suc level)) cells next (All-weaker (IsCellToLevel grid points cap level) (IsCellToLevel grid points cap (suc level)) (λ c k. record { in_tree = k.in_tree; level_at_most = omega (arith, k.level_at_most) }) cells h.each)
          (All-weaker (IsCellOfLevel grid points cap (suc level)) (IsCellToLevel grid points cap (suc level)) (λ c k. record { in_tree = k.in_tree; level_at_most = omega (arith, k.level_is) }) next n.each);
      whole = λ c k.
          elim (cases_lt level c.level) [
            | inl deep ↦ Contains-append_right cells next c (n.whole c (record { in_tree = k.in_tree; level_is = omega (arith, k.level_at_most) }))
            | inr high ↦ Contains-append_left cells next c (h.whole c (record { in_tree = k.in_tree; level_at_most = high }))
          ];
      ascending = AllPairs-append IsBefore cells next h.ascending up across;
    }
  where
    across : (a : Square) → Contains cells a → All (IsBefore a) next
    across a listed k d lt = record { before = inl (omega (arith, (All-contains (IsCellToLevel grid points cap level) cells a h.each listed).level_at_most, (n.each k d lt).level_is)) }

-- a parent's number stays right where cells are appended
parents_stay : (cells more : List Square) (runs : List Run) → HaveParents cells runs → HaveParents (cells ++ more) runs
parents_stay cells more runs h = All-weaker (λ (r : Run). IsParentNumber cells (square r.cell) r.parent) (λ (r : Run). IsParentNumber (cells ++ more) (square r.cell) r.parent) (λ r k. record {
  in_range = omega (arith, k.in_range, length-append cells more);
  of_root = k.of_root;
  of_others = λ lo. get_or_append_left cells more no_square r.parent k.in_range ∙ k.of_others lo;
}) runs h

-- the runs of a level, found and sorted, are appended
pub built_more : (grid : ℕ) (points : List Point) (cap level start : ℕ) (xs ys : List ℕ) (runs found next now : List Run) → 0 < grid → AreInGrid grid points → level < grid → IsBuiltTo grid points cap level start xs runs → squares_of found ≡ flat_map (below points cap) (drop start (squares_of runs)) → AreBelow points runs ys found → IsPermutation found next → IsSortedBy (λ a b. is_lt (run_cmp a b)) next → now ≡ runs ++ next → IsBuiltTo grid points cap (level + 1) (length runs) ys now
built_more grid points cap level start xs ys runs found next now positive inside lt h found_are below_are moved up appended =
    let cells : List Square = squares_of runs in
    let fresh : List Square = squares_of next in
    let both : squares_of (runs ++ next) ≡ cells ++ fresh = map-append (λ (r : Run). square r.cell) runs next in
    let Q : List Square → Type 0 = λ l. AreCellsOfLevel grid points cap (suc level) l in
    let made : AreCellsOfLevel grid points cap (suc level) (squares_of found) = subst Q (sym found_are) (cells_below grid points cap level (drop start cells) positive inside (omega arith) h.last) in
    let level_is : AreCellsOfLevel grid points cap (suc level) fresh = cells_moved grid points cap (suc level) (squares_of found) fresh (IsPermutation-map (λ (r : Run). square r.cell) found next moved) made in
    let S : List Square → Type 0 = λ l. AreExactly (IsCellToLevel grid points cap (suc level)) l in
    let D : List Square → Type 0 = λ l. AreCellsOfLevel grid points cap (suc level) (drop (length runs) l) in
    let H : List Square → Type 0 = λ l. HaveParents l (runs ++ next) in
    let long : length runs ≡ length cells = sym (length-map runs (λ (r : Run). square r.cell)) in
    let T : List Run → Type 0 = λ l. IsBuiltTo grid points cap (suc level) (length runs) ys l in
    let parents_below : HaveParents cells next = All-permutation (λ (r : Run). IsParentNumber cells (square r.cell) r.parent) found next moved below_are.parents in
    let built : IsBuiltTo grid points cap (suc level) (length runs) ys (runs ++ next) =
    record {
      cells = subst S (sym both) (one_level_more grid points cap level cells fresh h.cells level_is (ascending_from_sort grid points cap (suc level) next level_is up));
      start_inside = omega (arith, length-append runs next);
      last = subst D (sym both) (subst Q (sym (ap (λ n. drop n (cells ++ fresh)) long ∙ drop_at cells fresh (length cells) refl)) level_is);
      runs_are =
          record {
            positions_below = below_are.above_are.positions_below;
            each = All-append (IsRun points ys) runs next below_are.above_are.each (All-permutation (IsRun points ys) found next moved below_are.below_are.each);
          };
      parents =
          subst H (sym both) (All-append (λ (r : Run). IsParentNumber (cells ++ fresh) (square r.cell) r.parent) runs next (parents_stay cells fresh runs h.parents) (parents_stay cells fresh next parents_below));
    } in
    rw add-one (subst T (sym appended) built)

-- the whole tree
pub tree_built : (grid : ℕ) (points : List Point) (cap start : ℕ) (xs : List ℕ) (runs : List Run) → IsBuiltTo grid points cap grid start xs runs → AreExactly (IsTreeCell grid points cap) (squares_of runs)
tree_built grid points cap start xs runs h =
    record {
      each = All-weaker (IsCellToLevel grid points cap grid) (IsTreeCell grid points cap) (λ c k. k.in_tree) (squares_of runs) h.cells.each;
      whole = λ c k. h.cells.whole c (record { in_tree = k; level_at_most = k.level_in_grid });
      ascending = h.cells.ascending;
    }

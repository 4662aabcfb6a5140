-- The whole grid holds each point.
use Rattle.std.proofs.Common.{ℕ, ◌≡◌, ◌+◌, ◌-◌, ◌<◌, ◌≤◌, List, [], ◌∷◌, ◌++◌, length, get_or, true, sym, ap, ◌∙◌, subst, arith}
use Rattle.std.specs.Prelude.{ℤ, All, slice_range}
use Rattle.std.specs.List.{range_with_len}
use Rattle.std.proofs.lemmas.List.{take_all}
use Rattle.std.proofs.lemmas.List.Elements.{All-weaker, All-from_recursion, All-nil}
use Rattle.std.proofs.lemmas.List.FromFn.{length-range_with_len}
use Rattle.std.proofs.lemmas.Option.{slice_get-get_or}
use Rattle.points.specs.declared.Point.{Point}
use Rattle.cell_name.specs.Cell.{square}
use Rattle.cell_name.specs.Square.{Square, root, IsInGrid, Holds}
use Rattle.cell_name.proofs.Cells.{Holds-square_at, square_at-root}
use Rattle.quadtree.specs.declared.split.Run.{Run}
use Rattle.quadtree.specs.Members.{holds_point, holds_position, members_of}
use Rattle.quadtree.specs.Splitting.{squares_of, occupied, IsRun, AreRuns, IsParentNumber, HaveParents}
use Rattle.quadtree.specs.Tree.{AreInGrid, count_in}
use Rattle.cell_name.proofs.HoldsTest.{test-from_Holds}
use Rattle.exact_math.proofs.Lists.{filter_whole}
use Rattle.quadtree.proofs.Positions.{length-members}
use Rattle.quadtree.proofs.Runs.{range_below, occupied-one, occupied-none}

pub Holds-root : (grid : ℕ) (x y : ℤ) → 0 < grid → IsInGrid grid x y → Holds (root grid) x y
Holds-root grid x y positive g = let P : Square → Type 0 = λ c. Holds c x y in subst P (square_at-root grid x y positive g) (Holds-square_at grid 0 x y g)

root_holds : (grid : ℕ) (points : List Point) (k : ℕ) → 0 < grid → AreInGrid grid points → k < length points → holds_position (root grid) points k ≡ true
root_holds grid [] k positive inside lt = absurd (omega arith)
root_holds grid (p ∷ ps) k positive inside lt =
    let q : Point = get_or (p ∷ ps) k p in
    ap (holds_point (root grid)) (slice_get-get_or (p ∷ ps) k p lt) ∙ test-from_Holds (root grid) q.x q.y (Holds-root grid q.x q.y positive (inside k p lt))

members_of-root : (grid : ℕ) (points : List Point) → 0 < grid → AreInGrid grid points → members_of points (root grid) ≡ range_with_len 0 (length points)
members_of-root grid points positive inside =
    let below : All (λ k. k < 0 + length points) (range_with_len 0 (length points)) = range_below 0 (length points) in
    filter_whole (λ k. holds_position (root grid) points k) (range_with_len 0 (length points))
    (All-weaker (λ k. k < 0 + length points) (λ k. holds_position (root grid) points k ≡ true) (λ k lt. root_holds grid points k positive inside (omega arith)) (range_with_len 0 (length points)) below)

count_in-root : (grid : ℕ) (points : List Point) → 0 < grid → AreInGrid grid points → count_in points (root grid) ≡ length points
count_in-root grid points positive inside = sym (length-members points (root grid)) ∙ ap length (members_of-root grid points positive inside) ∙ length-range_with_len 0 (length points)

-- what the tree begins with
pub record IsBegun (grid : ℕ) (points : List Point) (xs : List ℕ) (runs : List Run) : Type 0 where
  pub cells : squares_of runs ≡ occupied points (root grid ∷ [])
  pub runs_are : AreRuns points xs runs
  pub parents : HaveParents (squares_of runs) runs

pub begun_with : (grid : ℕ) (points : List Point) (xs : List ℕ) (run : Run) → 0 < grid → AreInGrid grid points → xs ≡ range_with_len 0 (length points) → square run.cell ≡ root grid → run.parent ≡ 0 → run.from ≡ 0 → run.to ≡ length points → 0 < length points → IsBegun grid points xs (run ∷ [])
begun_with grid points xs run positive inside e cell parent from to some =
    let size : length xs ≡ length points = ap length e ∙ length-range_with_len 0 (length points) in
    let below : All (λ k. k < 0 + length points) (range_with_len 0 (length points)) = range_below 0 (length points) in
    let P : List ℕ → Type 0 = λ l. All (λ k. k < length points) l in
    let whole : slice_range xs run.from run.to ≡ xs = ap (λ n. slice_range xs n run.to) from ∙ take_all (run.to - 0) xs (omega arith) in
    let count = count_in-root grid points positive inside in
    record {
      cells = ap (λ c. c ∷ []) cell ∙ sym (occupied-one points (root grid) (omega arith));
      runs_are =
          record {
            positions_below = subst P (sym e) (All-weaker (λ k. k < 0 + length points) (λ k. k < length points) (λ k lt. omega arith) (range_with_len 0 (length points)) below);
            each = All-from_recursion (IsRun points xs) (run ∷ []) (record { ordered = omega arith; in_range = omega arith; members_are = whole ∙ e ∙ sym (members_of-root grid points positive inside) ∙ ap (members_of points) (sym cell) }, tt);
          };
      parents =
          All-from_recursion (λ (r : Run). IsParentNumber (squares_of (run ∷ [])) (square r.cell) r.parent) (run ∷ [])
          (record { in_range = omega arith; of_root = λ e. parent; of_others = λ lo. absurd (let e : run.cell.level ≡ 0 = ap (λ (c : Square). c.level) cell in omega arith) }, tt);
    }

pub begun_empty : (grid : ℕ) (points : List Point) (xs : List ℕ) → 0 < grid → AreInGrid grid points → xs ≡ range_with_len 0 (length points) → length points ≤ 0 → IsBegun grid points xs []
begun_empty grid points xs positive inside e none =
    let below : All (λ k. k < 0 + length points) (range_with_len 0 (length points)) = range_below 0 (length points) in
    let P : List ℕ → Type 0 = λ l. All (λ k. k < length points) l in
    let count = count_in-root grid points positive inside in
    record {
      cells = sym (occupied-none points (root grid) (omega arith));
      runs_are =
          record {
            positions_below = subst P (sym e) (All-weaker (λ k. k < 0 + length points) (λ k. k < length points) (λ k lt. omega arith) (range_with_len 0 (length points)) below);
            each = All-nil (IsRun points xs);
          };
      parents = All-nil (λ (r : Run). IsParentNumber [] (square r.cell) r.parent);
    }

-- the same, for lists that the code made
pub begun_pushed : (grid : ℕ) (run : Run) (points : List Point) (xs : List ℕ) (was runs : List Run) → runs ≡ was ++ run ∷ [] → was ≡ [] → 0 < grid → AreInGrid grid points → xs ≡ range_with_len 0 (length points) → square run.cell ≡ root grid → run.parent ≡ 0 → run.from ≡ 0 → run.to ≡ length points → 0 < length points → IsBegun grid points xs runs
begun_pushed grid run points xs was runs e empty positive inside positions cell parent from to some =
    let P : List Run → Type 0 = λ l. IsBegun grid points xs l in
    subst P (sym (e ∙ ap (λ l. l ++ run ∷ []) empty)) (begun_with grid points xs run positive inside positions cell parent from to some)

pub begun_not : (grid : ℕ) (points : List Point) (xs : List ℕ) (runs : List Run) → runs ≡ [] → 0 < grid → AreInGrid grid points → xs ≡ range_with_len 0 (length points) → length points ≤ 0 → IsBegun grid points xs runs
begun_not grid points xs runs e positive inside positions none = let P : List Run → Type 0 = λ l. IsBegun grid points xs l in subst P (sym e) (begun_empty grid points xs positive inside positions none)

-- Runs of the positions, and what splitting a cell adds to them.
use Rattle.std.proofs.Common.{ℕ, ◌≡◌, ◌+◌, ◌-◌, ◌<◌, ◌≤◌, List, [], ◌∷◌, ◌++◌, length, take, drop, cond, ltb, Bool, true, false, refl, sym, ap, ◌∙◌, arith, length-append}
use Rattle.std.specs.Prelude.{slice_range, All}
use Rattle.std.specs.List.{range_with_len}
use Rattle.std.proofs.lemmas.List.{take-append-le, drop-append-le, drop_at, take_all, length-drop, map-append}
use Rattle.std.proofs.lemmas.List.Elements.{All-append, All-filter, All-from_get_or, All-weaker}
use Rattle.std.proofs.lemmas.List.FromFn.{get_or-range_with_len, length-range_with_len}
use Rattle.std.proofs.lemmas.Bool.Decides.{nat_tests}
use Rattle.points.specs.declared.Point.{Point}
use Rattle.cell_name.specs.Cell.{square}
use Rattle.cell_name.specs.Square.{Square, child}
use Rattle.cell_name.proofs.Quarters.{parent-child}
use Rattle.quadtree.specs.declared.split.Run.{Run}
use Rattle.quadtree.specs.Members.{holds_position, members_among, members_of}
use Rattle.quadtree.specs.Splitting.{occupied, squares_of, IsRun, AreRuns}
use Rattle.quadtree.specs.Tree.{count_in}
use Rattle.quadtree.proofs.Positions.{members-parent}

-- a range of a list that goes on
pub slice_range-grown : (xs more : List ℕ) (from to : ℕ) → from ≤ to → to ≤ length xs → slice_range (xs ++ more) from to ≡ slice_range xs from to
slice_range-grown xs more from to le hi =
    ap (take (to - from)) (drop-append-le from xs more (omega arith)) ∙ take-append-le (to - from) (drop from xs) more (omega (arith, length-drop from xs))

-- the range of what was added
pub slice_range-added : (xs more : List ℕ) (to : ℕ) → to ≡ length (xs ++ more) → slice_range (xs ++ more) (length xs) to ≡ more
slice_range-added xs more to e =
    ap (take (to - length xs)) (drop_at xs more (length xs) refl) ∙ take_all (to - length xs) more (omega (arith, length-append xs more))

pub grown_run : (points : List Point) (xs more : List ℕ) (run : Run) → IsRun points xs run → IsRun points (xs ++ more) run
grown_run points xs more run r =
    record {
      ordered = r.ordered;
      in_range = omega (arith, r.in_range, length-append xs more);
      members_are = slice_range-grown xs more run.from run.to r.ordered r.in_range ∙ r.members_are;
    }

-- the positions of points
pub range_below : (from n : ℕ) → All (λ k. k < from + n) (range_with_len from n)
range_below from n = All-from_get_or (λ k. k < from + n) (range_with_len from n) 0 (λ i lt. let e = get_or-range_with_len from n i 0 (omega (arith, lt, length-range_with_len from n)) in omega (arith, e, lt, length-range_with_len from n))

pub members_below : (points : List Point) (c : Square) → All (λ k. k < length points) (members_of points c)
members_below points c = All-filter (λ k. holds_position c points k) (λ k. k < length points) (range_with_len 0 (length points)) (let h : All (λ k. k < 0 + length points) (range_with_len 0 (length points)) = range_below 0 (length points) in All-weaker (λ k. k < 0 + length points) (λ k. k < length points) (λ k lt. omega arith) (range_with_len 0 (length points)) h)

-- a quarter's members among those of its cell
pub members_of_quarter : (points : List Point) (xs : List ℕ) (run : Run) (right top : ℕ) → IsRun points xs run → right ≤ 1 → top ≤ 1 → run.cell.level < run.cell.grid → members_among points (child (square run.cell) right top) (slice_range xs run.from run.to) ≡ members_of points (child (square run.cell) right top)
members_of_quarter points xs run right top r p q room =
    let c : Square = child (square run.cell) right top in
    ap (members_among points c) (r.members_are ∙ ap (members_of points) (sym (parent-child (square run.cell) right top p q))) ∙ members-parent points c (range_with_len 0 (length points)) (omega arith) (omega arith)

pub occupied-one : (points : List Point) (c : Square) → 0 < count_in points c → occupied points (c ∷ []) ≡ c ∷ []
occupied-one points c h = let e : ltb 0 (count_in points c) ≡ true = grind (arith, nat_tests) in ap (λ (b : Bool). cond b (c ∷ []) []) e

pub occupied-none : (points : List Point) (c : Square) → count_in points c ≤ 0 → occupied points (c ∷ []) ≡ []
occupied-none points c h = let e : ltb 0 (count_in points c) ≡ false = grind (arith, nat_tests) in ap (λ (b : Bool). cond b (c ∷ []) []) e

-- runs stay where positions of points are appended
pub grown_runs : (points : List Point) (xs more : List ℕ) (runs : List Run) → All (λ k. k < length points) more → AreRuns points xs runs → AreRuns points (xs ++ more) runs
grown_runs points xs more runs low a =
    record {
      positions_below = All-append (λ k. k < length points) xs more a.positions_below low;
      each = All-weaker (IsRun points xs) (IsRun points (xs ++ more)) (λ r s. grown_run points xs more r s) runs a.each;
    }

pub squares_of-push : (runs : List Run) (run : Run) → squares_of (runs ++ run ∷ []) ≡ squares_of runs ++ square run.cell ∷ []
squares_of-push runs run = map-append (λ (r : Run). square r.cell) runs (run ∷ [])

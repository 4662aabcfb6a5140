-- Each turn builds one more level.
use Rattle.std.proofs.Common.{ℕ, ◌≡◌, ◌+◌, ◌++◌, List, length, drop, ap, ◌∙◌, subst, arith}
use Rattle.std.specs.List.{flat_map}
use Rattle.std.specs.List.Sorted.{IsSortedBy}
use Rattle.std.specs.Ordering.{is_lt}
use Rattle.limits.proofs.Grids.{grid_positive}
use Rattle.quadtree.specs.declared.split.Run.{Run}
use Rattle.quadtree.specs.Splitting.{squares_of, below, AreBelow, IsBuiltTo}
use Rattle.quadtree.proofs.Sorted.{run_cmp}
use Rattle.quadtree.proofs.TreeLevels.{built_root, built_more, tree_built}
use Rattle.quadtree.proofs.split.Splits.of.Goals as goal

pub loop-level-init : goal.loop-level-init
loop-level-init c =
    let at = c.in_ok-positions in
    record {
      built = built_root c.args.grid c.args.points.now c.args.cap at.field-0.positions.items at.field-0.runs.items (grid_positive c.args.grid c.requires.known_grid) c.requires.in_grid at.ensures.cells at.ensures.runs at.ensures.parents;
      empty = c.new.ensures.items;
      parts = c.in_ok-parts.ensures;
    }

pub loop-level-preserved : goal.loop-level-preserved
loop-level-preserved c =
    let points = c.args.points.now in
    let runs : List Run = c.loop-level.runs.items in
    let found : List Run = c.split_level.new.self.runs.items in
    let next : List Run = c.sort_unstable.new.self.items in
    let ys : List ℕ = c.split_level.new.self.positions.items in
    let B : List Run → Type 0 = λ l. AreBelow points l ys found in
    let S : ℕ → Type 0 = λ n. IsBuiltTo c.args.grid points c.args.cap (c.loop-level._level + 1) n ys c.extend_from_slice.new.self.items in
    let up : IsSortedBy (λ a b. is_lt (run_cmp a b)) next = c.sort_unstable.ensures.sorted in
    let found_are : squares_of found ≡ flat_map (below points c.args.cap) (drop c.loop-level.start (squares_of runs)) =
    c.in_ok-split_level.ensures.cells ∙ ap (λ l. squares_of l ++ flat_map (below points c.args.cap) (drop c.loop-level.start (squares_of c.deref.result.now))) c.loop-level.invariant.empty ∙
    ap (λ l. flat_map (below points c.args.cap) (drop c.loop-level.start (squares_of l))) c.deref.ensures.value in
    let built = built_more c.args.grid points c.args.cap c.loop-level._level c.loop-level.start c.loop-level.found.positions.items ys runs found next c.extend_from_slice.new.self.items (grid_positive c.args.grid c.requires.known_grid) c.requires.in_grid (omega arith) c.loop-level.invariant.built found_are
    (subst B c.deref.ensures.value c.in_ok-split_level.ensures.below) c.sort_unstable.ensures.permutation up (c.in_ok-extend_from_slice.ensures.items ∙ ap (λ l. runs ++ l) c.deref-in-loop-level.ensures.value) in
    let here : length runs ≡ c.len-start.result = omega arith in
    record {
      built = subst S here built;
      empty = c.clear.ensures.items;
      parts = c.in_ok-split_level.ensures.parts;
    }

pub returns-clause-cells : goal.returns-clause-cells
returns-clause-cells c =
    let level : c.loop-level._level ≡ c.args.grid = omega arith in
    let P : ℕ → Type 0 = λ n. IsBuiltTo c.args.grid c.args.points.now c.args.cap n c.loop-level.start c.loop-level.found.positions.items c.loop-level.runs.items in
    tree_built c.args.grid c.args.points.now c.args.cap c.loop-level.start c.loop-level.found.positions.items c.loop-level.runs.items (subst P level c.loop-level.invariant.built)

-- The accounting of the field meets the rules, and its boxes contain the direct sum.
use Rattle.std.specs.Prelude.{ℕ, ◌<◌, ◌≤◌, List, All}
use Rattle.exact_math.specs.Ends.{BoxEndsContain}
use Rattle.exact_math.specs.Units.{unit}
use Rattle.near_field.specs.DirectSum.{direct_sum}
use Rattle.points.specs.Points.{place}
use Rattle.points.specs.declared.Point.{Point}
use Rattle.quadtree.specs.Tree.{AreInGrid}
use Rattle.soundness.specs.Rules.{Rules}
use Rattle.tree_field.specs.Accounting.{accounting}
use Rattle.tree_field.specs.Field.{targets, target_box}
use Rattle.tree_field.specs.Lists.{TreeLists, AreTreeLists}

-- for each list within a grid, each capacity of the leaves and each order from 2 on, at each target
abbrev pub FieldContains : Type 0
FieldContains = (grid : ℕ) (points : List Point) (cap P : ℕ) (lists : TreeLists) → 0 < grid → 2 ≤ P → AreInGrid grid points → AreTreeLists grid points cap lists
    → All (λ t. BoxEndsContain unit (target_box points cap P lists (place t)) (direct_sum (place t) points)) (targets points)

-- the field's accounting meets the rules, at each order
abbrev pub FieldMeetsRules : Type 0
FieldMeetsRules =
    (grid : ℕ) (points : List Point) (cap P : ℕ) (lists : TreeLists) → 0 < grid → AreInGrid grid points
    → AreTreeLists grid points cap lists → Rules P (accounting grid points cap P lists)

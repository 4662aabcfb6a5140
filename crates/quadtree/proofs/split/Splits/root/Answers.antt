-- The root's run has all positions.
use Rattle.std.proofs.Common.{◌≡◌, refl, ◌∙◌, arith}
use Rattle.limits.proofs.Grids.{grid_positive}
use Rattle.quadtree.proofs.Roots.{IsBegun, begun_pushed, begun_not}
use Rattle.quadtree.proofs.split.Splits.root.Goals as goal
use Rattle.quadtree.proofs.split.Splits.root.Goals.{then-count-gt0+in_ok-push, else-count-gt0}

begun : (c : goal.Joined-count-gt0) → IsBegun c.args.grid c.args.points.now c.in_ok-positions.positions.items c.if-count-gt0.runs.items
begun c =
    let points = c.args.points.now in
    let xs = c.in_ok-positions.positions.items in
    elim c.if-count-gt0.branch [
      | then-count-gt0+in_ok-push w ↦
          let e : c.if-count-gt0.runs.items ≡ w.push.new.self.items = rw w.runs-is refl in
          begun_pushed c.args.grid _ points xs c.new-runs.result.items c.if-count-gt0.runs.items (e ∙ w.in_ok-push.ensures.items) c.new-runs.ensures.items (grid_positive c.args.grid c.requires.known_grid) c.requires.in_grid c.in_ok-positions.ensures w.root.ensures refl refl refl (omega (arith, w.if-count-gt0.true))
      | else-count-gt0 w ↦
          let e : c.if-count-gt0.runs.items ≡ c.new-runs.result.items = rw w.runs-is refl in
          begun_not c.args.grid points xs c.if-count-gt0.runs.items (e ∙ c.new-runs.ensures.items) (grid_positive c.args.grid c.requires.known_grid) c.requires.in_grid c.in_ok-positions.ensures (omega (arith, w.if-count-gt0.false))
    ]

pub returns-clause-cells : goal.returns-clause-cells
returns-clause-cells c = (begun c).cells

pub returns-clause-runs : goal.returns-clause-runs
returns-clause-runs c = (begun c).runs_are

pub returns-clause-parents : goal.returns-clause-parents
returns-clause-parents c = (begun c).parents

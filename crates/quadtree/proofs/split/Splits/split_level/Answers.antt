-- One more cell of the level is split where it has more points than the capacity.
use Rattle.std.proofs.Common.{◌<◌, ◌++◌, [], length, sym, ap, ◌∙◌, subst, arith, append-nil}
use Rattle.std.proofs.lemmas.List.{length-map}
use Rattle.cell_name.specs.Cell.{square}
use Rattle.cell_name.specs.Quarters.{quarters}
use Rattle.quadtree.specs.declared.divide.Parts.{Parts}
use Rattle.quadtree.specs.declared.split.Run.{Run}
use Rattle.quadtree.specs.declared.split.Splits.{Splits}
use Rattle.quadtree.specs.Divided.{HasRoom}
use Rattle.quadtree.specs.Splitting.{squares_of, occupied, AreBelow}
use Rattle.quadtree.proofs.Levels.{length-run, cell_at, below-split, below-whole, below_more, run_at}
use Rattle.quadtree.proofs.split.Splits.split_level.Goals as goal
use Rattle.quadtree.proofs.split.Splits.split_level.Goals.{then-run-cap+in_ok-push_quarters, else-run-cap}

pub loop-number-preserved : goal.loop-number-preserved
loop-number-preserved c =
    let points = c.args.points.now in
    let above = c.args.above.now in
    let run : Run = c.index-above-number.result in
    let was = squares_of c.loop-number.self.runs.items in
    let lt : c.loop-number.number < length above = omega arith in
    let here = cell_at above c.loop-number.number run lt c.index-above-number.is in
    let count = length-run points c.loop-number.self.positions.items run (run_at points c.loop-number.self.positions.items above c.loop-number.number run c.loop-number.invariant.below.above_are lt c.index-above-number.is) in
    let inside : c.loop-number.number < length (squares_of above) = omega (arith, length-map above (λ (r : Run). square r.cell)) in
    let more = below_more points c.args.cap (squares_of above) (squares_of c.args.self.now.runs.items) c.args.start c.loop-number.number was in
    let B : Splits → Type 0 = λ s. AreBelow points above s.positions.items s.runs.items in
    let R : Parts → Type 0 = λ p. HasRoom p (length points) in
    elim c.if-run-cap.branch [
      | then-run-cap+in_ok-push_quarters w ↦ record {
        cells = ap (λ (s : Splits). squares_of s.runs.items) w.self-is ∙ more _ _ (square run.cell) (omega arith) inside here c.loop-number.invariant.cells (w.in_ok-push_quarters.ensures.cells ∙ ap (λ q. was ++ occupied points (quarters q)) here) (below-split points c.args.cap (square run.cell) (omega (arith, w.if-run-cap.true)));
        below = subst B (sym w.self-is) w.in_ok-push_quarters.ensures.below;
        parts = subst R (sym w.parts-is) w.in_ok-push_quarters.ensures.parts;
      }
      | else-run-cap w ↦ record {
        cells = ap (λ (s : Splits). squares_of s.runs.items) w.self-is ∙ more was [] (square run.cell) (omega arith) inside here c.loop-number.invariant.cells (sym (append-nil was)) (below-whole points c.args.cap (square run.cell) (omega (arith, w.if-run-cap.false)));
        below = subst B (sym w.self-is) c.loop-number.invariant.below;
        parts = subst R (sym w.parts-is) c.loop-number.invariant.parts;
      }
    ]

-- The four quarters are added.
use Rattle.std.proofs.Common.{ℕ, ◌≡◌, ◌<◌, List, length, get_or, take, true, sym, ap, ◌∙◌, subst, arith}
use Rattle.std.specs.Prelude.{All, slice_range}
use Rattle.std.proofs.lemmas.List.{length-map}
use Rattle.std.proofs.lemmas.List.Elements.{All-get_or}
use Rattle.cell_name.specs.Cell.{square}
use Rattle.cell_name.specs.Square.{Square, no_square, child}
use Rattle.quadtree.specs.declared.split.Run.{Run}
use Rattle.quadtree.specs.Divided.{HasRoom, IsFront}
use Rattle.quadtree.specs.Members.{holds_position}
use Rattle.quadtree.specs.Splitting.{squares_of}
use Rattle.quadtree.proofs.Levels.{cell_at, run_at}
use Rattle.quadtree.proofs.Pushed.{IsPushed, quarter_pushed, four_pushed, has_room, members_held}
use Rattle.quadtree.proofs.split.Splits.push_quarters.Goals as goal

room_here : (above : List Run) (number : ℕ) (run : Run) → number < length above → run ≡ get_or above number run → All (λ c. c.level < c.grid) (squares_of above) → run.cell.level < run.cell.grid
room_here above number run lt e room =
    let P : Square → Type 0 = λ c. c.level < c.grid in
    subst P (cell_at above number run lt e) (All-get_or P (squares_of above) number no_square (omega (arith, length-map above (λ (r : Run). square r.cell))) room)

pub divide-counts-requires-clause-room : goal.divide-counts-requires-clause-room
divide-counts-requires-clause-room c =
    let run : Run = c.index-above-number.result in
    let r = run_at c.args.points.now c.args.self.now.positions.items c.args.above.now c.args.number run c.requires.below.above_are c.requires.number c.index-above-number.is in
    let P : List ℕ → Type 0 = λ l. HasRoom c.args.parts.now (length (slice_range l run.from run.to)) in
    subst P (sym c.deref.ensures.value) (has_room c.args.points.now c.args.self.now.positions.items run c.args.parts.now r c.requires.parts)

pub divide-counts-requires-clause-level : goal.divide-counts-requires-clause-level
divide-counts-requires-clause-level c = room_here c.args.above.now c.args.number c.index-above-number.result c.requires.number c.index-above-number.is c.requires.levels

pub divide-counts-requires-clause-held : goal.divide-counts-requires-clause-held
divide-counts-requires-clause-held c =
    let points = c.args.points.now in
    let run : Run = c.index-above-number.result in
    let r = run_at points c.args.self.now.positions.items c.args.above.now c.args.number run c.requires.below.above_are c.requires.number c.index-above-number.is in
    let P : List ℕ → Type 0 = λ l. All (λ k. holds_position (square run.cell) points k ≡ true) l in
    subst P (sym (ap (λ l. slice_range l run.from run.to) c.deref.ensures.value ∙ r.members_are)) (members_held points (square run.cell))

pub quarter-requires : goal.quarter-requires
quarter-requires c = room_here c.args.above.now c.args.number c.index-above-number.result c.requires.number c.index-above-number.is c.requires.levels

southwest : (c : goal.In_ok-push-4) → IsPushed c.args.points.now c.args.above.now c.push.new.self.positions.items c.args.self.now.runs.items c.push.new.self.runs.items (child (get_or (squares_of c.args.above.now) c.args.number no_square) 0 0)
southwest c =
    let run : Run = c.index-above-number.result in
    let first = c.args.self.now.positions.items in
    let lt : c.args.number < length (squares_of c.args.above.now) = omega (arith, c.requires.number, length-map c.args.above.now (λ (r : Run). square r.cell)) in
    let read = cell_at c.args.above.now c.args.number run c.requires.number c.index-above-number.is in
    let r = run_at c.args.points.now first c.args.above.now c.args.number run c.requires.below.above_are c.requires.number c.index-above-number.is in
    let room = room_here c.args.above.now c.args.number run c.requires.number c.index-above-number.is c.requires.levels in
    let P : List ℕ → Type 0 = λ l. IsFront c.args.points.now (child (square run.cell) 0 0) (slice_range l run.from run.to) c.divide-counts.new.self.southwest.items c.divide-counts.result.southwest in
    quarter_pushed c.args.points.now c.args.above.now c.args.self.now.runs.items c.push.new.self.runs.items first c.args.self.now.positions.items c.push.new.self.positions.items c.divide-counts.new.self.southwest.items _ c.quarter.result run c.args.number 0 0 c.divide-counts.result.southwest c.requires.below lt read r room (omega arith) (omega arith) c.quarter.ensures
    (subst P c.deref.ensures.value c.divide-counts.ensures.divided.southwest) (ap (take c.divide-counts.result.southwest) c.deref-2.ensures.value) c.in_ok-push.ensures.positions c.in_ok-push.ensures.runs

northwest : (c : goal.In_ok-push-4) → IsPushed c.args.points.now c.args.above.now c.push-2.new.self.positions.items c.push.new.self.runs.items c.push-2.new.self.runs.items (child (get_or (squares_of c.args.above.now) c.args.number no_square) 0 1)
northwest c =
    let run : Run = c.index-above-number.result in
    let first = c.args.self.now.positions.items in
    let lt : c.args.number < length (squares_of c.args.above.now) = omega (arith, c.requires.number, length-map c.args.above.now (λ (r : Run). square r.cell)) in
    let read = cell_at c.args.above.now c.args.number run c.requires.number c.index-above-number.is in
    let r = run_at c.args.points.now first c.args.above.now c.args.number run c.requires.below.above_are c.requires.number c.index-above-number.is in
    let room = room_here c.args.above.now c.args.number run c.requires.number c.index-above-number.is c.requires.levels in
    let P : List ℕ → Type 0 = λ l. IsFront c.args.points.now (child (square run.cell) 0 1) (slice_range l run.from run.to) c.divide-counts.new.self.northwest.items c.divide-counts.result.northwest in
    quarter_pushed c.args.points.now c.args.above.now c.push.new.self.runs.items c.push-2.new.self.runs.items first c.push.new.self.positions.items c.push-2.new.self.positions.items c.divide-counts.new.self.northwest.items _ c.quarter-2.result run c.args.number 0 1 c.divide-counts.result.northwest (southwest c).below lt read r room (omega arith) (omega arith) c.quarter-2.ensures
    (subst P c.deref.ensures.value c.divide-counts.ensures.divided.northwest) (ap (take c.divide-counts.result.northwest) c.deref-3.ensures.value) c.in_ok-push-2.ensures.positions c.in_ok-push-2.ensures.runs

southeast : (c : goal.In_ok-push-4) → IsPushed c.args.points.now c.args.above.now c.push-3.new.self.positions.items c.push-2.new.self.runs.items c.push-3.new.self.runs.items (child (get_or (squares_of c.args.above.now) c.args.number no_square) 1 0)
southeast c =
    let run : Run = c.index-above-number.result in
    let first = c.args.self.now.positions.items in
    let lt : c.args.number < length (squares_of c.args.above.now) = omega (arith, c.requires.number, length-map c.args.above.now (λ (r : Run). square r.cell)) in
    let read = cell_at c.args.above.now c.args.number run c.requires.number c.index-above-number.is in
    let r = run_at c.args.points.now first c.args.above.now c.args.number run c.requires.below.above_are c.requires.number c.index-above-number.is in
    let room = room_here c.args.above.now c.args.number run c.requires.number c.index-above-number.is c.requires.levels in
    let P : List ℕ → Type 0 = λ l. IsFront c.args.points.now (child (square run.cell) 1 0) (slice_range l run.from run.to) c.divide-counts.new.self.southeast.items c.divide-counts.result.southeast in
    quarter_pushed c.args.points.now c.args.above.now c.push-2.new.self.runs.items c.push-3.new.self.runs.items first c.push-2.new.self.positions.items c.push-3.new.self.positions.items c.divide-counts.new.self.southeast.items _ c.quarter-3.result run c.args.number 1 0 c.divide-counts.result.southeast (northwest c).below lt read r room (omega arith) (omega arith) c.quarter-3.ensures
    (subst P c.deref.ensures.value c.divide-counts.ensures.divided.southeast) (ap (take c.divide-counts.result.southeast) c.deref-4.ensures.value) c.in_ok-push-3.ensures.positions c.in_ok-push-3.ensures.runs

northeast : (c : goal.In_ok-push-4) → IsPushed c.args.points.now c.args.above.now c.push-4.new.self.positions.items c.push-3.new.self.runs.items c.push-4.new.self.runs.items (child (get_or (squares_of c.args.above.now) c.args.number no_square) 1 1)
northeast c =
    let run : Run = c.index-above-number.result in
    let first = c.args.self.now.positions.items in
    let lt : c.args.number < length (squares_of c.args.above.now) = omega (arith, c.requires.number, length-map c.args.above.now (λ (r : Run). square r.cell)) in
    let read = cell_at c.args.above.now c.args.number run c.requires.number c.index-above-number.is in
    let r = run_at c.args.points.now first c.args.above.now c.args.number run c.requires.below.above_are c.requires.number c.index-above-number.is in
    let room = room_here c.args.above.now c.args.number run c.requires.number c.index-above-number.is c.requires.levels in
    let P : List ℕ → Type 0 = λ l. IsFront c.args.points.now (child (square run.cell) 1 1) (slice_range l run.from run.to) c.divide-counts.new.self.northeast.items c.divide-counts.result.northeast in
    quarter_pushed c.args.points.now c.args.above.now c.push-3.new.self.runs.items c.push-4.new.self.runs.items first c.push-3.new.self.positions.items c.push-4.new.self.positions.items c.divide-counts.new.self.northeast.items _ c.quarter-4.result run c.args.number 1 1 c.divide-counts.result.northeast (southeast c).below lt read r room (omega arith) (omega arith) c.quarter-4.ensures
    (subst P c.deref.ensures.value c.divide-counts.ensures.divided.northeast) (ap (take c.divide-counts.result.northeast) c.deref-5.ensures.value) c.in_ok-push-4.ensures.positions c.in_ok-push-4.ensures.runs

pub returns-clause-below : goal.returns-clause-below
returns-clause-below c = (northeast c).below

pub returns-clause-cells : goal.returns-clause-cells
returns-clause-cells c =
    four_pushed c.args.points.now (squares_of c.args.self.now.runs.items) _ _ _ (squares_of c.push-4.new.self.runs.items) (get_or (squares_of c.args.above.now) c.args.number no_square) (southwest c).cells (northwest c).cells (southeast c).cells (northeast c).cells

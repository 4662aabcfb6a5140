-- Crowded places and too many cells, from the runs.
use Rattle.std.proofs.Common.{ℕ, ◌≡◌, ◌-◌, ◌<◌, ◌≤◌, inl, inr, List, [], ◌∷◌, length, get_or, sym, ap, ◌∙◌, subst, arith}
use Rattle.std.specs.Prelude.{All, Contains}
use Rattle.std.proofs.lemmas.Bool.{cases_lt}
use Rattle.std.proofs.lemmas.List.{get_or-map, get_or_default, length-map}
use Rattle.limits.specs.Limits.{most_at_a_place, most_cells}
use Rattle.points.specs.declared.Point.{Point}
use Rattle.cell_name.specs.Cell.{square}
use Rattle.cell_name.specs.Order.{IsBefore}
use Rattle.cell_name.specs.Square.{Square, parent}
use Rattle.cell_name.proofs.Order.{IsBefore-irrefl, IsBefore-asym}
use Rattle.quadtree.specs.declared.split.Run.{Run}
use Rattle.quadtree.specs.Faults.{IsCrowded, IsFirstCrowded, NoneIsCrowded, HasMoreCells}
use Rattle.quadtree.specs.Splitting.{squares_of, IsRun, AreRuns, IsCrowdedRun, IsFirstCrowdedRun}
use Rattle.quadtree.specs.Tree.{count_in, IsTreeCell, AreExactly}
use Rattle.quadtree.proofs.Counts.{count_in-parent}
use Rattle.quadtree.proofs.Levels.{length-run}

-- a crowded place is a cell of the tree
pub crowded_in_tree : (grid : ℕ) (points : List Point) (cap : ℕ) (c : Square) → 0 < grid → cap ≤ most_at_a_place → IsCrowded grid points c → IsTreeCell grid points cap c
crowded_in_tree grid points cap c positive le h =
    let more : count_in points c ≤ count_in points (parent c) = count_in-parent points c (omega (arith, h.last_level)) (omega (arith, h.last_level, h.of_grid)) in
    record { of_grid = h.of_grid; level_in_grid = omega (arith, h.last_level); occupied = omega (arith, h.over); reached = inr (omega (arith, h.last_level), omega (arith, h.over)) }

-- the run of a listed cell
pub record IsRunOf (runs : List Run) (c : Square) : Type 0 where
  pub at : ℕ
  pub run : Run
  pub inside : at < length runs
  pub here : get_or runs at run ≡ run
  pub cell_is : square run.cell ≡ c

pub run_of : (runs : List Run) (c : Square) → Contains (squares_of runs) c → IsRunOf runs c
run_of [] c h = absurd (omega (arith, h.1))
run_of (r ∷ rs) c h =
    let runs : List Run = r ∷ rs in
    let k : ℕ = h.0 in
    let lt : k < length runs = omega (arith, h.1, length-map runs (λ (q : Run). square q.cell)) in
    record {
      at = k;
      run = get_or runs k r;
      inside = lt;
      here = get_or_default runs k (get_or runs k r) r lt;
      cell_is = sym (get_or-map (λ (q : Run). square q.cell) runs k r c lt) ∙ h.2;
    }

-- a run is crowded where its cell is
crowded_run : (grid : ℕ) (points : List Point) (xs : List ℕ) (run : Run) (c : Square) → IsRun points xs run → square run.cell ≡ c → IsCrowded grid points c → IsCrowdedRun run
crowded_run grid points xs run c r e h =
    let P : Square → Type 0 = λ v. IsCrowded grid points v in
    let here : IsCrowded grid points (square run.cell) = subst P (sym e) h in
    record { last_level = here.last_level ∙ sym here.of_grid; over = omega (arith, here.over, length-run points xs run r) }

pub none_crowded_is : (grid : ℕ) (points : List Point) (cap : ℕ) (xs : List ℕ) (runs : List Run) → 0 < grid → cap ≤ most_at_a_place → AreExactly (IsTreeCell grid points cap) (squares_of runs) → AreRuns points xs runs → All (λ r. IsCrowdedRun r → ⊥) runs → NoneIsCrowded grid points
none_crowded_is grid points cap xs runs positive le cells are none c h =
    let o = run_of runs c (cells.whole c (crowded_in_tree grid points cap c positive le h)) in
    let P : Run → Type 0 = λ r. IsRun points xs r in
    let r : IsRun points xs o.run = subst P o.here (are.each o.at o.run o.inside) in
    let Q : Run → Type 0 = λ r. IsCrowdedRun r → ⊥ in
    let calm : IsCrowdedRun o.run → ⊥ = subst Q o.here (none o.at o.run o.inside) in
    calm (crowded_run grid points xs o.run c r o.cell_is h)

-- the grid of a run's cell
grid_of_run : (grid : ℕ) (points : List Point) (cap : ℕ) (runs : List Run) (at : ℕ) (run : Run) → at < length runs → AreExactly (IsTreeCell grid points cap) (squares_of runs) → (get_or runs at run).cell.grid ≡ grid
grid_of_run grid points cap runs at run inside cells =
    let P : Square → Type 0 = λ c. c.grid ≡ grid in
    subst P (get_or-map (λ (q : Run). square q.cell) runs at run (square run.cell) inside) (cells.each at (square run.cell) (omega (arith, inside, length-map runs (λ (q : Run). square q.cell)))).of_grid

pub first_crowded_is : (grid : ℕ) (points : List Point) (cap : ℕ) (xs : List ℕ) (runs : List Run) (run : Run) → 0 < grid → cap ≤ most_at_a_place → AreExactly (IsTreeCell grid points cap) (squares_of runs) → AreRuns points xs runs → IsFirstCrowdedRun runs run → IsFirstCrowded grid points (square run.cell) (run.to - run.from)
first_crowded_is grid points cap xs runs run positive le cells are f =
    let P : Run → Type 0 = λ r. IsRun points xs r in
    let r : IsRun points xs run = subst P f.here (are.each f.at run f.inside) in
    let count = length-run points xs run r in
    let C : Run → Type 0 = λ r. r.cell.grid ≡ grid in
    let of_grid : run.cell.grid ≡ grid = subst C f.here (grid_of_run grid points cap runs f.at run f.inside cells) in
    record {
      crowded = record { of_grid = of_grid; last_level = f.crowded.last_level ∙ of_grid; over = omega (arith, f.crowded.over) };
      count_is = count;
      first = λ d h before.
          let o = run_of runs d (cells.whole d (crowded_in_tree grid points cap d positive le h)) in
          let s : IsRun points xs o.run = subst P o.here (are.each o.at o.run o.inside) in
          elim (cases_lt o.at f.at) [
            | inl earlier ↦ let Q : Run → Type 0 = λ v. IsCrowdedRun v → ⊥ in subst Q o.here (f.none_before o.at o.run earlier) (crowded_run grid points xs o.run d s o.cell_is h)
            | inr later ↦ not_later d o before later
          ];
    }
  where
    not_later : (d : Square) → (o : IsRunOf runs d) → IsBefore d (square run.cell) → f.at ≤ o.at → ⊥
    not_later d o before later =
        let n = length-map runs (λ (q : Run). square q.cell) in
        let mine : get_or (squares_of runs) f.at d ≡ square run.cell = get_or-map (λ (q : Run). square q.cell) runs f.at run d f.inside ∙ ap (λ (q : Run). square q.cell) f.here in
        let other : get_or (squares_of runs) o.at d ≡ d = get_or-map (λ (q : Run). square q.cell) runs o.at o.run d o.inside ∙ ap (λ (q : Run). square q.cell) o.here ∙ o.cell_is in
        elim (cases_lt f.at o.at) [
          | inl lt ↦
              let up : IsBefore (get_or (squares_of runs) f.at d) (get_or (squares_of runs) o.at d) = cells.ascending f.at o.at d lt (omega (arith, o.inside)) in
              IsBefore-asym d (square run.cell) before (let R : Square → Square → Type 0 = λ a b. IsBefore a b in subst (λ (a : Square). R a d) mine (subst (λ (b : Square). R (get_or (squares_of runs) f.at d) b) other up))
          | inr ge ↦
              let e : o.at ≡ f.at = omega arith in
              IsBefore-irrefl d (square run.cell) (sym other ∙ ap (λ n. get_or (squares_of runs) n d) e ∙ mine) before
        ]

pub has_more_cells : (grid : ℕ) (points : List Point) (cap : ℕ) (runs : List Run) → AreExactly (IsTreeCell grid points cap) (squares_of runs) → most_cells grid < length runs → HasMoreCells grid points cap (most_cells grid)
has_more_cells grid points cap runs cells lt =
    record {
      cells = squares_of runs;
      in_tree = cells.each;
      different = λ i j d below inside e. IsBefore-irrefl (get_or (squares_of runs) i d) (get_or (squares_of runs) j d) e (cells.ascending i j d below inside);
      more = omega (arith, lt, length-map runs (λ (q : Run). square q.cell));
    }

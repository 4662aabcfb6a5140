-- What splitting a cell adds to the runs.
use Rattle.std.proofs.Common.{ℕ, ◌≡◌, ◌+◌, ◌<◌, ◌≤◌, List, [], ◌∷◌, ◌++◌, length, get_or, take, cond, ltb, inl, inr, true, false, Bool, refl, sym, ap, ◌∙◌, subst, arith, length-append, append-nil, append_assoc}
use Rattle.std.specs.Prelude.{slice_range}
use Rattle.std.proofs.lemmas.Bool.{cases_lt}
use Rattle.std.proofs.lemmas.Bool.Decides.{nat_tests}
use Rattle.std.proofs.lemmas.List.Elements.{All-push, filter-append, filter_passes}
use Rattle.std.proofs.lemmas.List.Sums.{count_by-le-length}
use Rattle.points.specs.declared.Point.{Point}
use Rattle.cell_name.specs.declared.cell.Cell.{Cell}
use Rattle.cell_name.specs.Cell.{square}
use Rattle.cell_name.specs.Quarters.{quarters}
use Rattle.cell_name.specs.Square.{Square, no_square, child, holds_test}
use Rattle.cell_name.proofs.Quarters.{parent-child}
use Rattle.quadtree.specs.declared.divide.Parts.{Parts}
use Rattle.quadtree.specs.declared.split.Run.{Run}
use Rattle.quadtree.specs.Divided.{HasRoom, IsFront}
use Rattle.quadtree.specs.Members.{holds_position, members_of}
use Rattle.quadtree.specs.Splitting.{occupied, squares_of, added_run, IsRun, IsParentNumber, AreBelow}
use Rattle.quadtree.specs.Tree.{count_in}
use Rattle.quadtree.proofs.Positions.{length-members}
use Rattle.quadtree.proofs.Runs.{grown_runs, members_below, members_of_quarter, occupied-none, occupied-one, slice_range-added, squares_of-push}

-- what a cell with its members adds
pub record IsPushed (points : List Point) (above : List Run) (ys : List ℕ) (was now : List Run) (c : Square) : Type 0 where
  pub below : AreBelow points above ys now
  pub cells : squares_of now ≡ squares_of was ++ occupied points (c ∷ [])

-- with a point
pushed_some : (points : List Point) (above : List Run) (xs : List ℕ) (was : List Run) (run : Run) → AreBelow points above xs was → IsParentNumber (squares_of above) (square run.cell) run.parent → run.from ≡ length xs → run.to ≡ length xs + length (members_of points (square run.cell)) → 0 < length (members_of points (square run.cell)) → IsPushed points above (xs ++ members_of points (square run.cell)) was (was ++ run ∷ []) (square run.cell)
pushed_some points above xs was run h parent from to some =
    let m : List ℕ = members_of points (square run.cell) in
    let low = members_below points (square run.cell) in
    let below = grown_runs points xs m was low h.below_are in
    let here : slice_range (xs ++ m) run.from run.to ≡ m = ap (λ n. slice_range (xs ++ m) n run.to) from ∙ slice_range-added xs m run.to (omega (arith, length-append xs m)) in
    record {
      below =
          record {
            above_are = grown_runs points xs m above low h.above_are;
            below_are =
                record {
                  positions_below = below.positions_below;
                  each = All-push (IsRun points (xs ++ m)) was run below.each (record { ordered = omega arith; in_range = omega (arith, length-append xs m); members_are = here });
                };
            parents = All-push (λ (r : Run). IsParentNumber (squares_of above) (square r.cell) r.parent) was run h.parents parent;
          };
      cells = squares_of-push was run ∙ ap (λ l. squares_of was ++ l) (sym (occupied-one points (square run.cell) (omega (arith, length-members points (square run.cell)))));
    }

-- without one
pushed_none : (points : List Point) (above : List Run) (xs : List ℕ) (was : List Run) (c : Square) → AreBelow points above xs was → length (members_of points c) ≤ 0 → IsPushed points above (xs ++ members_of points c) was (was ++ []) c
pushed_none points above xs was c h none =
    let P : List Run → Type 0 = λ l. IsPushed points above (xs ++ members_of points c) was l c in
    let low = members_below points c in
    subst P (sym (append-nil was)) (record {
      below = record { above_are = grown_runs points xs (members_of points c) above low h.above_are; below_are = grown_runs points xs (members_of points c) was low h.below_are; parents = h.parents };
      cells = sym (append-nil (squares_of was)) ∙ ap (λ l. squares_of was ++ l) (sym (occupied-none points c (omega (arith, length-members points c))));
    })

pub pushed : (points : List Point) (above : List Run) (xs ys m : List ℕ) (was now : List Run) (cell : Cell) (parent : ℕ) → AreBelow points above xs was → m ≡ members_of points (square cell) → IsParentNumber (squares_of above) (square cell) parent → ys ≡ xs ++ m → now ≡ was ++ added_run cell parent (length xs) m → IsPushed points above ys was now (square cell)
pushed points above xs ys m was now cell parent h members of added grown =
    let n : ℕ = length xs in
    let k : List ℕ = members_of points (square cell) in
    let run : Run = record { cell = cell; parent = parent; from = n; to = n + length k } in
    let P : List ℕ → Type 0 = λ l. IsPushed points above l was now (square cell) in
    let Q : List Run → Type 0 = λ l. IsPushed points above (xs ++ k) was l (square cell) in
    let e : now ≡ was ++ added_run cell parent n k = grown ∙ ap (λ l. was ++ added_run cell parent n l) members in
    subst P (sym (added ∙ ap (λ l. xs ++ l) members)) (subst Q (sym e) (
    elim (cases_lt 0 (length k)) [
      | inl some ↦
          let t : ltb 0 (length k) ≡ true = grind (arith, nat_tests) in
          subst Q (sym (ap (λ (b : Bool). was ++ cond b (run ∷ []) []) t)) (pushed_some points above xs was run h of refl refl some)
      | inr none ↦
          let t : ltb 0 (length k) ≡ false = grind (arith, nat_tests) in
          subst Q (sym (ap (λ (b : Bool). was ++ cond b (run ∷ []) []) t)) (pushed_none points above xs was (square cell) h none)
    ]))

-- the number of a cell's quarters' parent is the cell's
pub parent_of_quarter : (cells : List Square) (number right top : ℕ) → number < length cells → right ≤ 1 → top ≤ 1 → IsParentNumber cells (child (get_or cells number no_square) right top) number
parent_of_quarter cells number right top lt p q =
    let c : Square = get_or cells number no_square in
    record { in_range = lt; of_root = λ e. absurd (omega arith); of_others = λ lo. sym (parent-child c right top p q) }

-- a cell has no more members than there are points, so the buffers have room for them
pub has_room : (points : List Point) (xs : List ℕ) (run : Run) (parts : Parts) → IsRun points xs run → HasRoom parts (length points) → HasRoom parts (length (slice_range xs run.from run.to))
has_room points xs run parts r h =
    let c : Square = square run.cell in
    let few : length (slice_range xs run.from run.to) ≤ length points = omega (arith, ap length r.members_are, length-members points c, count_by-le-length (λ (p : Point). holds_test c p.x p.y) points) in
    record {
      southwest = omega (arith, few, h.southwest);
      northwest = omega (arith, few, h.northwest);
      southeast = omega (arith, few, h.southeast);
      northeast = omega (arith, few, h.northeast);
    }

-- what a quarter adds, whose members stand in front of a buffer
pub quarter_pushed : (points : List Point) (above : List Run) (was now : List Run) (first xs ys buffer taken : List ℕ) (cell : Cell) (run : Run) (number right top n : ℕ) → AreBelow points above xs was → number < length (squares_of above) → get_or (squares_of above) number no_square ≡ square run.cell → IsRun points first run → run.cell.level < run.cell.grid → right ≤ 1 → top ≤ 1 → square cell ≡ child (square run.cell) right top → IsFront points (child (square run.cell) right top) (slice_range first run.from run.to) buffer n → taken ≡ take n buffer → ys ≡ xs ++ taken → now ≡ was ++ added_run cell number (length xs) taken → IsPushed points above ys was now (child (get_or (squares_of above) number no_square) right top)
quarter_pushed points above was now first xs ys buffer taken cell run number right top n h lt here r room le_right le_top named front is_taken added grown =
    let c : Square = square run.cell in
    let q : Square = child (get_or (squares_of above) number no_square) right top in
    let e : square cell ≡ q = named ∙ ap (λ s. child s right top) (sym here) in
    let P : Square → Type 0 = λ s. IsPushed points above ys was now s in
    let N : Square → Type 0 = λ s. IsParentNumber (squares_of above) s number in
    let members : taken ≡ members_of points (square cell) = is_taken ∙ front.front ∙ members_of_quarter points first run right top r le_right le_top room ∙ ap (members_of points) (sym named) in
    subst P e (pushed points above xs ys taken was now cell number h members (subst N (sym e) (parent_of_quarter (squares_of above) number right top lt le_right le_top)) added grown)

-- the four quarters of a cell, one after the other
pub four_pushed : (points : List Point) (cells one two three four : List Square) (c : Square) → one ≡ cells ++ occupied points (child c 0 0 ∷ []) → two ≡ one ++ occupied points (child c 0 1 ∷ []) → three ≡ two ++ occupied points (child c 1 0 ∷ []) → four ≡ three ++ occupied points (child c 1 1 ∷ []) → four ≡ cells ++ occupied points (quarters c)
four_pushed points cells one two three four c e f g h =
    let test : Square → Bool = λ s. ltb 0 (count_in points s) in
    let sw : List Square = child c 0 0 ∷ [] in
    let nw : List Square = child c 0 1 ∷ [] in
    let se : List Square = child c 1 0 ∷ [] in
    let ne : List Square = child c 1 1 ∷ [] in
    let last : occupied points (se ++ ne) ≡ occupied points se ++ occupied points ne = filter-append test se ne in
    let rest : occupied points (nw ++ (se ++ ne)) ≡ occupied points nw ++ (occupied points se ++ occupied points ne) = filter-append test nw (se ++ ne) ∙ ap (λ l. occupied points nw ++ l) last in
    let all : occupied points (sw ++ (nw ++ (se ++ ne))) ≡ occupied points sw ++ (occupied points nw ++ (occupied points se ++ occupied points ne)) = filter-append test sw (nw ++ (se ++ ne)) ∙ ap (λ l. occupied points sw ++ l) rest in
    h ∙ ap (λ l. l ++ occupied points ne) (g ∙ ap (λ l. l ++ occupied points se) (f ∙ ap (λ l. l ++ occupied points nw) e)) ∙
    append_assoc ((cells ++ occupied points sw) ++ occupied points nw) (occupied points se) (occupied points ne) ∙
    append_assoc (cells ++ occupied points sw) (occupied points nw) (occupied points se ++ occupied points ne) ∙
    append_assoc cells (occupied points sw) (occupied points nw ++ (occupied points se ++ occupied points ne)) ∙
    ap (λ l. cells ++ l) (sym all)

-- a cell holds its members
pub members_held : (points : List Point) (c : Square) (k : ℕ) (d : ℕ) → k < length (members_of points c) → holds_position c points (get_or (members_of points c) k d) ≡ true
members_held points c k d lt = filter_passes (λ j. holds_position c points j) _ k d lt

-- The cells below those of a level, one cell more at a time.
use Rattle.std.proofs.Common.{ℕ, ◌≡◌, ◌+◌, ◌-◌, ◌<◌, ◌≤◌, List, [], ◌∷◌, ◌++◌, length, get_or, cond, ltb, Bool, true, false, sym, ap, ◌∙◌, subst, arith, append-nil, append_assoc}
use Rattle.std.specs.Prelude.{slice_range}
use Rattle.std.specs.List.{flat_map}
use Rattle.std.proofs.lemmas.Bool.Decides.{nat_tests}
use Rattle.std.proofs.lemmas.List.{get_or-map}
use Rattle.std.proofs.lemmas.List.Concat.{flat_map-append}
use Rattle.std.proofs.lemmas.List.Edits.{between_more, length-between}
use Rattle.std.proofs.lemmas.List.Elements.{All-get_or}
use Rattle.points.specs.declared.Point.{Point}
use Rattle.cell_name.specs.Cell.{square}
use Rattle.cell_name.specs.Square.{Square, no_square}
use Rattle.quadtree.specs.declared.split.Run.{Run}
use Rattle.cell_name.specs.Quarters.{quarters}
use Rattle.quadtree.specs.Splitting.{squares_of, parents_of, occupied, below, IsRun, AreRuns, IsParentNumber, HaveParents}
use Rattle.quadtree.specs.Tree.{count_in}
use Rattle.quadtree.proofs.Positions.{length-members}

-- as many positions in a run as points in its cell
pub length-run : (points : List Point) (xs : List ℕ) (run : Run) → IsRun points xs run → run.to - run.from ≡ count_in points (square run.cell)
length-run points xs run r = sym (length-between xs run.from run.to r.in_range) ∙ ap length r.members_are ∙ length-members points (square run.cell)

-- the cell of a run that was read
pub cell_at : (runs : List Run) (n : ℕ) (run : Run) → n < length runs → run ≡ get_or runs n run → get_or (squares_of runs) n no_square ≡ square run.cell
cell_at runs n run lt e = get_or-map (λ (r : Run). square r.cell) runs n run no_square lt ∙ ap (λ (r : Run). square r.cell) (sym e)

pub below-split : (points : List Point) (cap : ℕ) (c : Square) → cap < count_in points c → below points cap c ≡ occupied points (quarters c)
below-split points cap c h = let e : ltb cap (count_in points c) ≡ true = grind (arith, nat_tests) in ap (λ (b : Bool). cond b (occupied points (quarters c)) []) e

pub below-whole : (points : List Point) (cap : ℕ) (c : Square) → count_in points c ≤ cap → below points cap c ≡ []
below-whole points cap c h = let e : ltb cap (count_in points c) ≡ false = grind (arith, nat_tests) in ap (λ (b : Bool). cond b (occupied points (quarters c)) []) e

-- one more cell of a level
pub below_more : (points : List Point) (cap : ℕ) (cells start_cells : List Square) (start at : ℕ) (was now ks : List Square) (c : Square) → start ≤ at → at < length cells → get_or cells at no_square ≡ c → was ≡ start_cells ++ flat_map (below points cap) (slice_range cells start at) → now ≡ was ++ ks → below points cap c ≡ ks → now ≡ start_cells ++ flat_map (below points cap) (slice_range cells start (at + 1))
below_more points cap cells start_cells start at was now ks c le lt here e f g =
    let next : flat_map (below points cap) (slice_range cells start (at + 1)) ≡ flat_map (below points cap) (slice_range cells start at) ++ ks =
    ap (flat_map (below points cap)) (between_more cells start at no_square le lt) ∙
    flat_map-append (below points cap) (slice_range cells start at) (get_or cells at no_square ∷ []) ∙
    ap (λ v. flat_map (below points cap) (slice_range cells start at) ++ (below points cap v ++ [])) here ∙
    ap (λ l. flat_map (below points cap) (slice_range cells start at) ++ (l ++ [])) g ∙
    ap (λ l. flat_map (below points cap) (slice_range cells start at) ++ l) (append-nil ks) in
    f ∙ ap (λ l. l ++ ks) e ∙ append_assoc start_cells (flat_map (below points cap) (slice_range cells start at)) ks ∙ ap (λ l. start_cells ++ l) (sym next)

-- and its run
pub run_at : (points : List Point) (xs : List ℕ) (runs : List Run) (at : ℕ) (run : Run) → AreRuns points xs runs → at < length runs → run ≡ get_or runs at run → IsRun points xs run
run_at points xs runs at run a lt read =
    let P : Run → Type 0 = λ r. IsRun points xs r in
    subst P (sym read) (All-get_or P runs at run lt a.each)

-- the number of the parent of the cell of a number
pub parent_at : (cells : List Square) (runs : List Run) → HaveParents cells runs → (n : ℕ) → n < length runs → IsParentNumber cells (get_or (squares_of runs) n no_square) (get_or (parents_of runs) n 0)
parent_at cells [] h n lt = absurd (omega arith)
parent_at cells (r ∷ rs) h n lt =
    let runs : List Run = r ∷ rs in
    let run : Run = get_or runs n r in
    let P : Square → Type 0 = λ c. IsParentNumber cells c (get_or (parents_of runs) n 0) in
    let Q : ℕ → Type 0 = λ m. IsParentNumber cells (square run.cell) m in
    subst P (sym (get_or-map (λ (q : Run). square q.cell) runs n r no_square lt)) (subst Q (sym (get_or-map (λ (q : Run). q.parent) runs n r 0 lt)) (h n r lt))

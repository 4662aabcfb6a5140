-- The quarters of a cell tile it, and ancestors.
use Rattle.std.proofs.Common.{ℕ, ◌≡◌, ◌≢◌, ◌+◌, ◌-◌, ◌*◌, ◌/◌, ◌%◌, ◌^◌, ◌<◌, ◌≤◌, zero, suc, Bool, true, false, [], ◌∷◌, refl, sym, subst, ◌∙◌, ap, ap₂, arith, unsigned_abs}
use Rattle.std.specs.Prelude.{ℤ, pos, ◌+ℤ◌, ◌-ℤ◌, ◌≤ℤ◌, ◌<ℤ◌, int_le, int_lt, ◌&&◌, not, All, AllPairs, Contains}
use Rattle.std.proofs.lemmas.List.Elements.{All-from_recursion, All-nil}
use Rattle.std.proofs.lemmas.List.Kept.{AllPairs-cons}
use Rattle.std.proofs.lemmas.Int.{ints, by_lt_z}
use Rattle.std.proofs.Math.Nat.{lt_of_mul-lt-mul_right, div-div-eq-div-mul, mul_comm}
use Rattle.cell_name.specs.Square.{Square, side, half, corner_x, corner_y, Holds, holds_test, Touches, square_at, parent, child, ancestor}
use Rattle.cell_name.specs.declared.cell.Quadrant.{Quadrant}
use Rattle.cell_name.specs.Cell.{half_number}
use Rattle.cell_name.specs.Quarters.{quarter, quarters, LiesInOneChild}
use Rattle.cell_name.proofs.Axis.{side-halves}
use Rattle.cell_name.proofs.Comparisons.{test-from_le, test-from_lt}
use Rattle.cell_name.proofs.Cells.{same_square, Touches-parent}
use Rattle.cell_name.proofs.Distances.{side-above}

-- two pieces of one side that share a place are one
same_piece : (i k s : ℕ) → i * s < k * s + s → k * s < i * s + s → i ≡ k
same_piece i k s p q =
    let a : i < k + 1 = lt_of_mul-lt-mul_right s (let e : i * s < (k + 1) * s = omega arith in e) in
    let b : k < i + 1 = lt_of_mul-lt-mul_right s (let e : k * s < (i + 1) * s = omega arith in e) in
    omega arith

-- a piece of twice the side
begins : (a x : ℤ) (i k s : ℕ) → k ≡ 2 * s → (pos (i * k) -ℤ a) ≤ℤ x → (pos (i * (2 * s)) -ℤ a) ≤ℤ x
begins a x i k s e h = let P : ℕ → Type 0 = λ n. (pos (i * n) -ℤ a) ≤ℤ x in subst P e h

ends : (a x : ℤ) (i k s : ℕ) → k ≡ 2 * s → x <ℤ ((pos (i * k) -ℤ a) +ℤ pos k) → x <ℤ ((pos (i * (2 * s)) -ℤ a) +ℤ pos (2 * s))
ends a x i k s e h = let P : ℕ → Type 0 = λ n. x <ℤ ((pos (i * n) -ℤ a) +ℤ pos n) in subst P e h

-- the half of a piece that has a place
half_with : (a x : ℤ) (i s : ℕ) → (pos (i * (2 * s)) -ℤ a) ≤ℤ x → x <ℤ ((pos (i * (2 * s)) -ℤ a) +ℤ pos (2 * s)) → (r : ℕ) × (r ≤ 1) × ((pos ((2 * i + r) * s) -ℤ a) ≤ℤ x) × (x <ℤ ((pos ((2 * i + r) * s) -ℤ a) +ℤ pos s))
half_with a x i s p q =
    by_lt_z x (pos ((2 * i + 1) * s) -ℤ a)
    (λ lt. (0, omega arith, omega (arith, ints), omega (arith, ints)))
    (λ le. (1, omega arith, le, omega (arith, ints)))

-- of pieces of one side, one alone has a place
only_half : (a x : ℤ) (i r t s : ℕ) → (pos ((2 * i + r) * s) -ℤ a) ≤ℤ x → x <ℤ ((pos ((2 * i + r) * s) -ℤ a) +ℤ pos s) → (pos ((2 * i + t) * s) -ℤ a) ≤ℤ x → x <ℤ ((pos ((2 * i + t) * s) -ℤ a) +ℤ pos s) → r ≡ t
only_half a x i r t s west east west' east' =
    let e : 2 * i + r ≡ 2 * i + t = same_piece (2 * i + r) (2 * i + t) s (before ((2 * i + r) * s) ((2 * i + t) * s) west east') (before ((2 * i + t) * s) ((2 * i + r) * s) west' east) in
    omega (arith, e)
  where
    before : (m n : ℕ) → (pos m -ℤ a) ≤ℤ x → x <ℤ ((pos n -ℤ a) +ℤ pos s) → m < n + s
    before m n begins ends = omega (arith, ints, begins, ends)

pub lies_in_one_child : (c : Square) (x y : ℤ) → c.level < c.grid → Holds c x y → LiesInOneChild c x y
lies_in_one_child c x y lt h =
    let s : ℕ = 2 ^ (c.grid - (c.level + 1)) in
    let a : ℤ = pos (half c.grid) in
    let e : side c ≡ 2 * s = side-halves c.grid c.level lt in
    let across = half_with a x c.i s (begins a x c.i (side c) s e h.west) (ends a x c.i (side c) s e h.east) in
    let up = half_with a y c.j s (begins a y c.j (side c) s e h.south) (ends a y c.j (side c) s e h.north) in
    record {
      right = across.0;
      top = up.0;
      right_at_most = across.1;
      top_at_most = up.1;
      held = record { west = across.2; east = across.3; south = up.2; north = up.3 };
      no_other = λ r t other. (only_half a x c.i r across.0 s other.west other.east across.2 across.3, only_half a y c.j t up.0 s other.south other.north up.2 up.3);
    }

pub parent-child : (c : Square) (right top : ℕ) → right ≤ 1 → top ≤ 1 → parent (child c right top) ≡ c
parent-child c right top p q = same_square (parent (child c right top)) c refl (omega arith) (omega arith) (omega arith)

-- what a quarter of a cell is
pub record IsQuarter (c q : Square) : Type 0 where
  pub of_grid : q.grid ≡ c.grid
  pub level : q.level ≡ c.level + 1
  pub parent_is : parent q ≡ c

quarter_is : (c : Square) (right top : ℕ) → right ≤ 1 → top ≤ 1 → IsQuarter c (child c right top)
quarter_is c right top p q = record { of_grid = refl; level = refl; parent_is = parent-child c right top p q }

pub quarters_are : (c : Square) → All (IsQuarter c) (quarters c)
quarters_are c = All-from_recursion (IsQuarter c) (quarters c) (quarter_is c 0 0 (omega arith) (omega arith), (quarter_is c 0 1 (omega arith) (omega arith), (quarter_is c 1 0 (omega arith) (omega arith), (quarter_is c 1 1 (omega arith) (omega arith), tt))))

-- a cell below the root is a quarter of its parent
pub quarters_contain : (c : Square) → 0 < c.level → Contains (quarters (parent c)) c
quarters_contain c lo = by_rest (c.i % 2) (c.j % 2) (omega arith) (omega arith) (omega arith) (omega arith)
  where
    named : (right top : ℕ) → c.i ≡ 2 * (c.i / 2) + right → c.j ≡ 2 * (c.j / 2) + top → child (parent c) right top ≡ c
    named right top ei ej = same_square (child (parent c) right top) c refl (omega arith) (sym ei) (sym ej)

    by_rest : (right top : ℕ) → right < 2 → top < 2 → c.i ≡ 2 * (c.i / 2) + right → c.j ≡ 2 * (c.j / 2) + top → Contains (quarters (parent c)) c
    by_rest zero zero p q ei ej = (0, omega arith, named 0 0 ei ej)
    by_rest zero (suc zero) p q ei ej = (1, omega arith, named 0 1 ei ej)
    by_rest (suc zero) zero p q ei ej = (2, omega arith, named 1 0 ei ej)
    by_rest (suc zero) (suc zero) p q ei ej = (3, omega arith, named 1 1 ei ej)
    by_rest zero (suc (suc n)) p q ei ej = absurd (omega arith)
    by_rest (suc zero) (suc (suc n)) p q ei ej = absurd (omega arith)
    by_rest (suc (suc n)) top p q ei ej = absurd (omega arith)

abbrev Differ : Square → Square → Type 0
Differ a b = a ≢ b

-- the four quarters differ
pub quarters_differ : (c : Square) → AllPairs (λ a b. a ≢ b) (quarters c)
quarters_differ c =
    let sw : Square = child c 0 0 in
    let nw : Square = child c 0 1 in
    let se : Square = child c 1 0 in
    let ne : Square = child c 1 1 in
    AllPairs-cons Differ sw (nw ∷ se ∷ ne ∷ []) (All-from_recursion (Differ sw) (nw ∷ se ∷ ne ∷ []) (rows 0, (columns 0 0, (columns 0 1, tt))))
    (AllPairs-cons Differ nw (se ∷ ne ∷ []) (All-from_recursion (Differ nw) (se ∷ ne ∷ []) (columns 1 0, (columns 1 1, tt))) (AllPairs-cons Differ se (ne ∷ []) (All-from_recursion (Differ se) (ne ∷ []) (rows 1, tt)) (AllPairs-cons Differ ne [] (All-nil (Differ ne)) none)))
  where
    none : AllPairs Differ []
    none i j d lt inside = absurd (omega arith)

    rows : (right : ℕ) → child c right 0 ≢ child c right 1
    rows right e = let n : 2 * c.j + 0 ≡ 2 * c.j + 1 = ap (λ (s : Square). s.j) e in omega arith

    columns : (top top' : ℕ) → child c 0 top ≢ child c 1 top'
    columns top top' e = let n : 2 * c.i + 0 ≡ 2 * c.i + 1 = ap (λ (s : Square). s.i) e in omega arith

half_number-at_most : (b : Bool) → half_number b ≤ 1
half_number-at_most true = omega arith
half_number-at_most false = omega arith

-- the column's and the row's parity tell which quarter of its parent a cell is
pub right_of_parent : (c : Square) (q : Quadrant) → quarter (parent c) q ≡ c → half_number q.right ≡ c.i % 2
right_of_parent c q e = let i : 2 * (c.i / 2) + half_number q.right ≡ c.i = ap (λ (s : Square). s.i) e in omega (arith, half_number-at_most q.right)

pub top_of_parent : (c : Square) (q : Quadrant) → quarter (parent c) q ≡ c → half_number q.top ≡ c.j % 2
top_of_parent c q e = let j : 2 * (c.j / 2) + half_number q.top ≡ c.j = ap (λ (s : Square). s.j) e in omega (arith, half_number-at_most q.top)

-- of a piece of the side 2 s, the half before the middle and the one behind it, as tests
first_half : (a x : ℤ) (i s : ℕ) → (pos (i * (2 * s)) -ℤ a) ≤ℤ x → (int_le (pos ((2 * i + 0) * s) -ℤ a) x && int_lt x ((pos ((2 * i + 0) * s) -ℤ a) +ℤ pos s)) ≡ not (int_le (pos ((2 * i + 1) * s) -ℤ a) x)
first_half a x i s h =
    let west : ℤ = pos ((2 * i + 0) * s) -ℤ a in
    let middle : ℤ = pos ((2 * i + 1) * s) -ℤ a in
    let le_west : west ≤ℤ x = omega (arith, ints) in
    let begins : int_le west x ≡ true = test-from_le west x le_west in
    by_lt_z x middle
    (λ lt.
    let before : x <ℤ (west +ℤ pos s) = omega (arith, ints) in
    ap₂ (λ p q. p && q) begins (test-from_lt x (west +ℤ pos s) before) ∙ sym (ap not (false_from_lt x middle lt)))
    (λ le.
    let behind : (west +ℤ pos s) ≤ℤ x = omega (arith, ints) in
    ap₂ (λ p q. p && q) begins (false_from_le (west +ℤ pos s) x behind) ∙ sym (ap not (test-from_le middle x le)))
  where
    false_from_lt : (x m : ℤ) → x <ℤ m → int_le m x ≡ false
    false_from_lt x m h = grind (arith, ints)

    false_from_le : (m x : ℤ) → m ≤ℤ x → int_lt x m ≡ false
    false_from_le m x h = grind (arith, ints)

second_half : (a x : ℤ) (i s : ℕ) → x <ℤ ((pos (i * (2 * s)) -ℤ a) +ℤ pos (2 * s)) → (int_le (pos ((2 * i + 1) * s) -ℤ a) x && int_lt x ((pos ((2 * i + 1) * s) -ℤ a) +ℤ pos s)) ≡ int_le (pos ((2 * i + 1) * s) -ℤ a) x
second_half a x i s h =
    let middle : ℤ = pos ((2 * i + 1) * s) -ℤ a in
    let before : x <ℤ (middle +ℤ pos s) = omega (arith, ints) in
    and_true (int_le middle x) (int_lt x (middle +ℤ pos s)) (test-from_lt x (middle +ℤ pos s) before)
  where
    and_true : (p q : Bool) → q ≡ true → (p && q) ≡ p
    and_true true q e = e
    and_true false q e = refl

-- the test of a cell, from that of its columns and that of its rows
by_columns_and_rows : (q : Square) (x y : ℤ) (column row : Bool) → (int_le (corner_x q) x && int_lt x (corner_x q +ℤ pos (side q))) ≡ column → (int_le (corner_y q) y && int_lt y (corner_y q +ℤ pos (side q))) ≡ row → holds_test q x y ≡ (column && row)
by_columns_and_rows q x y column row e f =
    regroup (int_le (corner_x q) x && int_lt x (corner_x q +ℤ pos (side q))) (int_le (corner_y q) y) (int_lt y (corner_y q +ℤ pos (side q))) ∙ ap₂ (λ p r. p && r) e f
  where
    regroup : (p r s : Bool) → (p && r && s) ≡ (p && (r && s))
    regroup true r s = refl
    regroup false r s = refl

-- which quarters hold a place of the cell, where `right` and `top` say whether it is east and north of the middle
pub record IsByMiddle (c : Square) (x y : ℤ) (right top : Bool) : Type 0 where
  pub southwest : holds_test (child c 0 0) x y ≡ (not right && not top)
  pub northwest : holds_test (child c 0 1) x y ≡ (not right && top)
  pub southeast : holds_test (child c 1 0) x y ≡ (right && not top)
  pub northeast : holds_test (child c 1 1) x y ≡ (right && top)

-- the middle is the corner of the quarter in the northeast
pub quarters_by_middle : (c : Square) (x y : ℤ) → c.level < c.grid → Holds c x y → IsByMiddle c x y (int_le (corner_x (child c 1 1)) x) (int_le (corner_y (child c 1 1)) y)
quarters_by_middle c x y lt h =
    let s : ℕ = 2 ^ (c.grid - (c.level + 1)) in
    let a : ℤ = pos (half c.grid) in
    let e : side c ≡ 2 * s = side-halves c.grid c.level lt in
    let west = first_half a x c.i s (begins a x c.i (side c) s e h.west) in
    let east = second_half a x c.i s (ends a x c.i (side c) s e h.east) in
    let south = first_half a y c.j s (begins a y c.j (side c) s e h.south) in
    let north = second_half a y c.j s (ends a y c.j (side c) s e h.north) in
    record {
      southwest = by_columns_and_rows (child c 0 0) x y _ _ west south;
      northwest = by_columns_and_rows (child c 0 1) x y _ _ west north;
      southeast = by_columns_and_rows (child c 1 0) x y _ _ east south;
      northeast = by_columns_and_rows (child c 1 1) x y _ _ east north;
    }

-- the ancestor of a place's cell is the place's cell of the ancestor's level
pub ancestor-square_at : (grid level above : ℕ) (x y : ℤ) → above ≤ level → level ≤ grid → ancestor (square_at grid level x y) above ≡ square_at grid above x y
ancestor-square_at grid level above x y p q =
    same_square (ancestor (square_at grid level x y) above) (square_at grid above x y) refl refl (both (unsigned_abs (x +ℤ pos (half grid)))) (both (unsigned_abs (y +ℤ pos (half grid))))
  where
    both : (u : ℕ) → u / 2 ^ (grid - level) / 2 ^ (level - above) ≡ u / 2 ^ (grid - above)
    both u =
        div-div-eq-div-mul u (2 ^ (grid - level)) (2 ^ (level - above)) ∙
        ap (λ n. u / n) (mul_comm (2 ^ (grid - level)) (2 ^ (level - above)) ∙ sym (side-above grid above level p q))

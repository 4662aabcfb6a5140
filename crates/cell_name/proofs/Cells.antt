-- The laws of cells.
use Rattle.std.proofs.Common.{ℕ, ◌≡◌, ◌+◌, ◌-◌, ◌*◌, ◌/◌, ◌^◌, ◌<◌, ◌≤◌, suc, ◌⊎◌, inl, inr, refl, sym, ◌∙◌, ap, subst, arith, add-one}
use Rattle.std.specs.Prelude.{ℤ, pos, negsuc, ◌+ℤ◌, ◌≤ℤ◌, ◌<ℤ◌, neg_ℤ, unsigned_abs}
use Rattle.std.proofs.lemmas.Int.{ints, by_lt_z}
use Rattle.std.proofs.lemmas.Nat.{pow_pos, pow-add, shr_below}
use Rattle.std.proofs.Math.Pow.{pow_mono}
use Rattle.std.proofs.lemmas.Bool.{cases_lt}
use Rattle.std.proofs.Math.Nat.{div-div-eq-div-mul, div-eq_of_lt, pow-succ', mul-le-mul_right}
use Rattle.limits.proofs.Grids.{grid_positive, within_widest}
use Rattle.limits.specs.Limits.{IsGrid}
use Rattle.cell_name.specs.declared.cell.Cell.{Cell}
use Rattle.cell_name.specs.Cell.{square}
use Rattle.cell_name.specs.Square.{Square, root, ClosedHolds, side, half, corner_x, corner_y, IsInGrid, Holds, Touches, square_at, parent}
use Rattle.cell_name.proofs.Axis.{piece_begins, piece_ends, only_piece, side-halves, half-begins, half-ends}

-- the name of a cell of the grid
pub record IsCellName (c : Square) : Type 0 where
  pub level_in_grid : c.level ≤ c.grid
  pub column : c.i < 2 ^ c.level
  pub row : c.j < 2 ^ c.level

-- the closed square of a cell lies in that of the grid
pub record IsInsideGrid (c : Square) : Type 0 where
  pub west : neg_ℤ (pos (half c.grid)) ≤ℤ corner_x c
  pub east : (corner_x c +ℤ pos (side c)) ≤ℤ pos (half c.grid)
  pub south : neg_ℤ (pos (half c.grid)) ≤ℤ corner_y c
  pub north : (corner_y c +ℤ pos (side c)) ≤ℤ pos (half c.grid)

abs-of_nonnegative : (z : ℤ) → pos 0 ≤ℤ z → pos (unsigned_abs z) ≡ z
abs-of_nonnegative (pos n) h = refl
abs-of_nonnegative (negsuc n) h = absurd (omega (arith, ints))

-- the distance from the border, for a place that is not before it
pub border_distance_is : (grid : ℕ) (x : ℤ) → neg_ℤ (pos (half grid)) ≤ℤ x → pos (unsigned_abs (x +ℤ pos (half grid))) ≡ x +ℤ pos (half grid)
border_distance_is grid x h = abs-of_nonnegative (x +ℤ pos (half grid)) (omega (arith, ints))

pub Holds-square_at : (grid level : ℕ) (x y : ℤ) → IsInGrid grid x y → Holds (square_at grid level x y) x y
Holds-square_at grid level x y g =
    let s = 2 ^ (grid - level) in
    let p : 0 < s = pow_pos (grid - level) in
    let u = unsigned_abs (x +ℤ pos (half grid)) in
    let v = unsigned_abs (y +ℤ pos (half grid)) in
    let eu = border_distance_is grid x g.west in
    let ev = border_distance_is grid y g.south in
    let bu = piece_begins u s in
    let au = piece_ends u s p in
    let bv = piece_begins v s in
    let av = piece_ends v s p in
    record {
      west = omega (arith, ints);
      east = omega (arith, ints);
      south = omega (arith, ints);
      north = omega (arith, ints);
    }

pub same_square : (c d : Square) → c.grid ≡ d.grid → c.level ≡ d.level → c.i ≡ d.i → c.j ≡ d.j → c ≡ d
same_square c d g p q r = λ t. record { grid = g t; level = p t; i = q t; j = r t }

pub square_at-unique : (c : Square) (x y : ℤ) → IsInGrid c.grid x y → Holds c x y → c ≡ square_at c.grid c.level x y
square_at-unique c x y g h =
    let s = 2 ^ (c.grid - c.level) in
    let u = unsigned_abs (x +ℤ pos (half c.grid)) in
    let v = unsigned_abs (y +ℤ pos (half c.grid)) in
    let eu = border_distance_is c.grid x g.west in
    let ev = border_distance_is c.grid y g.south in
    same_square c (square_at c.grid c.level x y) refl refl (only_piece u s c.i (omega (arith, ints)) (omega (arith, ints))) (only_piece v s c.j (omega (arith, ints)) (omega (arith, ints)))

pub Touches-refl : (c : Square) → Touches c c
Touches-refl c =
    record {
      west = omega (arith, ints);
      east = omega (arith, ints);
      south = omega (arith, ints);
      north = omega (arith, ints);
    }

pub Touches-sym : (b c : Square) → Touches b c → Touches c b
Touches-sym b c t = record { west = t.east; east = t.west; south = t.north; north = t.south }

-- the closed square of `c` lies in that of `d`
pub record IsPart (c d : Square) : Type 0 where
  pub same_grid : c.grid ≡ d.grid
  pub west : d.i * side d ≤ c.i * side c
  pub east : c.i * side c + side c ≤ d.i * side d + side d
  pub south : d.j * side d ≤ c.j * side c
  pub north : c.j * side c + side c ≤ d.j * side d + side d

pub Touches-part : (b c d : Square) → IsPart c d → Touches c b → Touches d b
Touches-part b c d w t =
    let e = ap half w.same_grid in
    record {
      west = omega (arith, ints);
      east = omega (arith, ints);
      south = omega (arith, ints);
      north = omega (arith, ints);
    }

part_refl : (c d : Square) → c ≡ d → IsPart c d
part_refl c d e = let P : Square → Type 0 = λ q. IsPart c q in subst P e (record { same_grid = refl; west = omega arith; east = omega arith; south = omega arith; north = omega arith })

-- a cell of at least level 1 lies in its parent
pub IsPart-parent : (c : Square) → 0 < c.level → c.level ≤ c.grid → IsPart c (parent c)
IsPart-parent c lo hi =
    let s = side c in
    let d : 2 ^ (c.grid - (c.level - 1)) ≡ 2 * s = side_above c.grid c.level lo hi in
    record {
      same_grid = refl;
      west = rw d (half-begins c.i s);
      east = rw d (half-ends c.i s);
      south = rw d (half-begins c.j s);
      north = rw d (half-ends c.j s);
    }
  where
    side_above : (grid level : ℕ) → 0 < level → level ≤ grid → 2 ^ (grid - (level - 1)) ≡ 2 * 2 ^ (grid - level)
    side_above grid level lo hi =
        let e : level - 1 + 1 ≡ level = omega arith in
        let h : 2 ^ (grid - (level - 1)) ≡ 2 * 2 ^ (grid - (level - 1 + 1)) = side-halves grid (level - 1) (omega arith) in
        rw e at h

-- touching is inherited by the parent
pub Touches-parent : (b c : Square) → 0 < c.level → c.level ≤ c.grid → Touches c b → Touches (parent c) b
Touches-parent b c lo hi t = Touches-part b c (parent c) (IsPart-parent c lo hi) t

pub Touches-parents : (b c : Square) → 0 < b.level → b.level ≤ b.grid → 0 < c.level → c.level ≤ c.grid → Touches b c → Touches (parent b) (parent c)
Touches-parents b c lo hi lo' hi' t = Touches-sym (parent c) (parent b) (Touches-parent (parent b) c lo' hi' (Touches-sym (parent b) c (Touches-parent c b lo hi t)))

Holds-part : (c d : Square) (x y : ℤ) → IsPart c d → Holds c x y → Holds d x y
Holds-part c d x y w h =
    let e = ap half w.same_grid in
    record {
      west = omega (arith, ints);
      east = omega (arith, ints);
      south = omega (arith, ints);
      north = omega (arith, ints);
    }

-- a parent holds what its child holds
pub Holds-parent : (c : Square) (x y : ℤ) → 0 < c.level → c.level ≤ c.grid → Holds c x y → Holds (parent c) x y
Holds-parent c x y lo hi h = Holds-part c (parent c) x y (IsPart-parent c lo hi) h

-- the cell of a place at a level is the parent of the one at the next
pub parent-square_at : (grid level : ℕ) (x y : ℤ) → level < grid → parent (square_at grid (level + 1) x y) ≡ square_at grid level x y
parent-square_at grid level x y h =
    same_square (parent (square_at grid (level + 1) x y)) (square_at grid level x y) refl (omega arith) (halved (unsigned_abs (x +ℤ pos (half grid)))) (halved (unsigned_abs (y +ℤ pos (half grid))))
  where
    halved : (u : ℕ) → u / 2 ^ (grid - (level + 1)) / 2 ≡ u / 2 ^ (grid - level)
    halved u =
        let e : 2 ^ (grid - level) ≡ 2 ^ (grid - (level + 1)) * 2 = omega (arith, side-halves grid level h) in
        div-div-eq-div-mul u (2 ^ (grid - (level + 1))) 2 ∙ ap (λ s. u / s) (sym e)

-- whether two cells touch is decided
pub decide_touches : (b c : Square) → Touches b c ⊎ (Touches b c → ⊥)
decide_touches b c =
    by_lt_z (corner_x c +ℤ pos (side c)) (corner_x b) (λ lt. inr (λ t. omega (arith, ints))) (λ west.
    by_lt_z (corner_x b +ℤ pos (side b)) (corner_x c) (λ lt. inr (λ t. omega (arith, ints))) (λ east.
    by_lt_z (corner_y c +ℤ pos (side c)) (corner_y b) (λ lt. inr (λ t. omega (arith, ints))) (λ south.
    by_lt_z (corner_y b +ℤ pos (side b)) (corner_y c) (λ lt. inr (λ t. omega (arith, ints))) (λ north.
    inl (record { west = west; east = east; south = south; north = north })))))

-- two closed pieces of a line, neither of which ends before the other begins, have a place in common
common : (a a' b b' : ℤ) → a ≤ℤ a' → b ≤ℤ b' → a ≤ℤ b' → b ≤ℤ a' → (x : ℤ) × (a ≤ℤ x) × (x ≤ℤ a') × (b ≤ℤ x) × (x ≤ℤ b')
common a a' b b' p q r s = by_lt_z a b (λ lt. (b, omega (arith, ints), s, omega (arith, ints), q)) (λ le. (a, omega (arith, ints), p, le, r))

-- `Touches` says that the closed squares have a place in common
pub place_from_Touches : (b c : Square) → Touches b c → (x : ℤ) × (y : ℤ) × ClosedHolds b x y × ClosedHolds c x y
place_from_Touches b c t =
    let h = common (corner_x b) (corner_x b +ℤ pos (side b)) (corner_x c) (corner_x c +ℤ pos (side c)) (omega (arith, ints)) (omega (arith, ints)) t.west t.east in
    let v = common (corner_y b) (corner_y b +ℤ pos (side b)) (corner_y c) (corner_y c +ℤ pos (side c)) (omega (arith, ints)) (omega (arith, ints)) t.south t.north in
    (h.0, v.0, record { west = h.1; east = h.2; south = v.1; north = v.2 }, record { west = h.3; east = h.4; south = v.3; north = v.4 })

pub Touches-from_place : (b c : Square) (x y : ℤ) → ClosedHolds b x y → ClosedHolds c x y → Touches b c
Touches-from_place b c x y p q =
    record {
      west = omega (arith, ints);
      east = omega (arith, ints);
      south = omega (arith, ints);
      north = omega (arith, ints);
    }

-- the cell of level 0 that holds a place of the grid is the root
pub square_at-root : (grid : ℕ) (x y : ℤ) → 0 < grid → IsInGrid grid x y → square_at grid 0 x y ≡ root grid
square_at-root grid x y positive g =
    same_square (square_at grid 0 x y) (root grid) refl refl (first x g.west g.east) (first y g.south g.north)
  where
    whole : (grid : ℕ) → 0 < grid → 2 ^ grid ≡ 2 * 2 ^ (grid - 1)
    whole grid h = let e : grid ≡ suc (grid - 1) = omega arith in ap (λ n. 2 ^ n) e ∙ pow-succ' 2 (grid - 1)

    first : (z : ℤ) → neg_ℤ (pos (half grid)) ≤ℤ z → z <ℤ pos (half grid) → unsigned_abs (z +ℤ pos (half grid)) / 2 ^ (grid - 0) ≡ 0
    first z lo hi =
        let e : pos (unsigned_abs (z +ℤ pos (half grid))) ≡ z +ℤ pos (half grid) = border_distance_is grid z lo in
        let twice : 2 ^ grid ≡ 2 * half grid = whole grid positive in
        let lt : unsigned_abs (z +ℤ pos (half grid)) < 2 ^ grid = omega (arith, ints) in
        let s : 2 ^ (grid - 0) ≡ 2 ^ grid = ap (λ n. 2 ^ n) (omega arith) in
        rw s (div-eq_of_lt lt)

part_from_equal : (c d : Square) → c.grid ≡ d.grid → c.i ≡ d.i → c.j ≡ d.j → side c ≡ side d → IsPart c d
part_from_equal c d eg ei ej es =
    let ex : c.i * side c ≡ d.i * side d = ap (λ n. n * side c) ei ∙ ap (λ s. d.i * s) es in
    let ey : c.j * side c ≡ d.j * side d = ap (λ n. n * side c) ej ∙ ap (λ s. d.j * s) es in
    record { same_grid = eg; west = omega arith; east = omega arith; south = omega arith; north = omega arith }

-- a place's cell lies in its cell of the level above, also past the grid's last level, where nothing changes
pub IsPart-square_at : (grid level : ℕ) (x y : ℤ) → IsPart (square_at grid (suc level) x y) (square_at grid level x y)
IsPart-square_at grid level x y =
    elim (cases_lt level grid) [
      | inl lt ↦
          let e : parent (square_at grid (suc level) x y) ≡ square_at grid level x y = rw add-one at (parent-square_at grid level x y lt) in
          let P : Square → Type 0 = λ c. IsPart (square_at grid (suc level) x y) c in
          subst P e (IsPart-parent (square_at grid (suc level) x y) (omega arith) (omega arith))
      | inr past ↦
          let e : 2 ^ (grid - (suc level)) ≡ 2 ^ (grid - level) = ap (λ n. 2 ^ n) (omega arith) in
          part_from_equal (square_at grid (suc level) x y) (square_at grid level x y) refl (ap (λ s. unsigned_abs (x +ℤ pos (half grid)) / s) e) (ap (λ s. unsigned_abs (y +ℤ pos (half grid)) / s) e) e
    ]

-- a cell's side times the number of cells of its level is the side of the grid
pub side-whole : (grid level : ℕ) → level ≤ grid → 2 ^ level * 2 ^ (grid - level) ≡ 2 ^ grid
side-whole grid level h = sym (pow-add 2 level (grid - level)) ∙ ap (λ n. 2 ^ n) (omega arith)

-- a piece of the grid begins and ends in it
pub piece_in_grid : (grid level i : ℕ) → level ≤ grid → i < 2 ^ level → i * 2 ^ (grid - level) + 2 ^ (grid - level) ≤ 2 ^ grid
piece_in_grid grid level i le lt =
    let e : (i + 1) * 2 ^ (grid - level) ≤ 2 ^ level * 2 ^ (grid - level) = mul-le-mul_right (2 ^ (grid - level)) (omega arith) in
    omega (arith, side-whole grid level le)

whole_is_two_halves : (grid : ℕ) → 0 < grid → 2 ^ grid ≡ 2 * half grid
whole_is_two_halves grid h = let e : grid ≡ suc (grid - 1) = omega arith in ap (λ n. 2 ^ n) e ∙ pow-succ' 2 (grid - 1)

pub inside_from_name : (c : Square) → 0 < c.grid → IsCellName c → IsInsideGrid c
inside_from_name c positive n =
    let ex = piece_in_grid c.grid c.level c.i n.level_in_grid n.column in
    let ey = piece_in_grid c.grid c.level c.j n.level_in_grid n.row in
    let e = whole_is_two_halves c.grid positive in
    record {
      west = omega (arith, ints);
      east = omega (arith, ints);
      south = omega (arith, ints);
      north = omega (arith, ints);
    }

-- a cell of the program lies inside its grid
pub cell_inside : (c : Cell) → IsInsideGrid (square c)
cell_inside c = inside_from_name (square c) (grid_positive c.grid c.known_grid) (record { level_in_grid = c.level_in_grid; column = c.column; row = c.row })

-- half the side of a grid is small
pub half_at_most : (grid : ℕ) → IsGrid grid → half grid ≤ 2 ^ 19
half_at_most grid is =
    let few = (within_widest grid is).bits in
    let le : grid - 1 ≤ 19 = omega (arith, few) in
    pow_mono le

pub half_small : (c : Cell) → half c.grid ≤ 2 ^ 19
half_small c = half_at_most c.grid c.known_grid

-- the cell of a place has a name of the grid
pub square_at-name : (grid level : ℕ) (x y : ℤ) → 0 < grid → level ≤ grid → IsInGrid grid x y → IsCellName (square_at grid level x y)
square_at-name grid level x y positive le g =
    record {
      level_in_grid = le;
      column = below (unsigned_abs (x +ℤ pos (half grid))) (omega (arith, ints, border_distance_is grid x g.west, g.east, whole_is_two_halves grid positive));
      row = below (unsigned_abs (y +ℤ pos (half grid))) (omega (arith, ints, border_distance_is grid y g.south, g.north, whole_is_two_halves grid positive));
    }
  where
    below : (u : ℕ) → u < 2 ^ grid → u / 2 ^ (grid - level) < 2 ^ level
    below u lt = shr_below u level (grid - level) (let e : 2 ^ (level + (grid - level)) ≡ 2 ^ grid = ap (λ n. 2 ^ n) (omega arith) in rw e lt)

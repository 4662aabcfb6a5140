-- Small whole numbers, as 64 bits hold them.
use Rattle.std.proofs.Common.{ℕ, ◌≡◌, ◌+◌, ◌*◌, ◌^◌, ◌≤◌, ◌<◌, Bool, true, false, SFits, to_z, of_z, w64, sym, ap, ap₂, ◌∙◌, subst, arith}
use Rattle.std.specs.Prelude.{ℤ, pos, ◌+ℤ◌, ◌-ℤ◌, ◌*ℤ◌, ◌≤ℤ◌, ◌<ℤ◌, neg_ℤ, IsTrue, ◌↔◌}
use Rattle.std.proofs.lemmas.Bool.{false≢true}
use Rattle.std.proofs.lemmas.Int.{ints, to_z-of_z, to_z_pos}
use Rattle.std.proofs.Math.Pow.{pow_mono}
use Rattle.limits.proofs.Grids.{within_widest}
use Rattle.limits.specs.Limits.{IsGrid}
use Rattle.cell_name.specs.declared.cell.Cell.{Cell}
use Rattle.cell_name.specs.Cell.{square}
use Rattle.cell_name.specs.Square.{Square, side, half, corner_x, corner_y, Holds, Touches}
use Rattle.cell_name.proofs.Cells.{cell_inside, half_small}

-- what 64 bits hold of a number
abbrev pub held : ℤ → ℤ
held z = to_z w64 (of_z w64 z)

held_whole : (z : ℤ) (n : ℕ) → z ≡ pos n → n < 2 ^ 63 → held z ≡ pos n
held_whole z n e lt = ap held e ∙ to_z_pos w64 n lt

fits_between : (z : ℤ) → neg_ℤ (pos (2 ^ 40)) ≤ℤ z → z ≤ℤ pos (2 ^ 40) → SFits w64 z
fits_between z lo hi = omega (arith, ints)

-- a column or row times the side, less half the grid
pub record IsCorner (f s h : ℤ) (n m : ℕ) : Type 0 where
  pub product : SFits w64 (held f *ℤ held s)
  pub difference : SFits w64 (held (held f *ℤ held s) -ℤ held h)
  pub value : held (held (held f *ℤ held s) -ℤ held h) ≡ pos n -ℤ pos m

corner_is : (f s h : ℤ) (i k m : ℕ) → f ≡ pos i → s ≡ pos k → h ≡ pos m → i < 2 ^ 32 → i * k + k ≤ 2 * m → m ≤ 2 ^ 32 → IsCorner f s h (i * k) m
corner_is f s h i k m ef es eh few inside small =
    let product : held f *ℤ held s ≡ pos (i * k) = ap₂ (λ a b. a *ℤ b) (held_whole f i ef (omega arith)) (held_whole s k es (omega arith)) in
    let within : SFits w64 (pos (i * k)) = fits_between (pos (i * k)) (omega (arith, ints)) (omega (arith, ints)) in
    let difference : held (held f *ℤ held s) -ℤ held h ≡ pos (i * k) -ℤ pos m = ap₂ (λ a b. a -ℤ b) (held_whole (held f *ℤ held s) (i * k) product (omega arith)) (held_whole h m eh (omega arith)) in
    let fits : SFits w64 (pos (i * k) -ℤ pos m) = fits_between (pos (i * k) -ℤ pos m) (omega (arith, ints)) (omega (arith, ints)) in
    let P : ℤ → Type 0 = λ z. SFits w64 z in
    record {
      product = subst P (sym product) within;
      difference = subst P (sym difference) fits;
      value = ap held difference ∙ to_z-of_z w64 (pos (i * k) -ℤ pos m) fits;
    }

-- a piece of the length `s` from `a` lies in the widest grid
pub record IsPiece (a s : ℤ) : Type 0 where
  pub begins : neg_ℤ (pos (2 ^ 32)) ≤ℤ a
  pub some : pos 0 ≤ℤ s
  pub ends : (a +ℤ s) ≤ℤ pos (2 ^ 32)

begin_held : (a s : ℤ) → IsPiece a s → held a ≡ a
begin_held a s p = to_z-of_z w64 a (fits_between a (omega (arith, ints, p.begins)) (omega (arith, ints, p.some, p.ends)))

length_held : (a s : ℤ) → IsPiece a s → held s ≡ s
length_held a s p = to_z-of_z w64 s (fits_between s (omega (arith, ints, p.some)) (omega (arith, ints, p.begins, p.ends)))

end_within : (a s : ℤ) → IsPiece a s → SFits w64 (a +ℤ s)
end_within a s p = fits_between (a +ℤ s) (omega (arith, ints, p.begins, p.some)) (omega (arith, ints, p.ends))

end_held : (a' s' a s : ℤ) → a' ≡ a → s' ≡ s → IsPiece a s → held a' +ℤ held s' ≡ a +ℤ s
end_held a' s' a s ea es p = ap₂ (λ y z. y +ℤ z) (ap held ea ∙ begin_held a s p) (ap held es ∙ length_held a s p)

-- the end of a piece fits
pub end_fits : (a' s' a s : ℤ) → a' ≡ a → s' ≡ s → IsPiece a s → SFits w64 (held a' +ℤ held s')
end_fits a' s' a s ea es p = let P : ℤ → Type 0 = λ z. SFits w64 z in subst P (sym (end_held a' s' a s ea es p)) (end_within a s p)

-- twice the middle of a piece
pub record IsMiddle (a' s' a s : ℤ) : Type 0 where
  pub twice : SFits w64 (pos 2 *ℤ held a')
  pub sum : SFits w64 (held (pos 2 *ℤ held a') +ℤ held s')
  pub value : held (held (pos 2 *ℤ held a') +ℤ held s') ≡ (a +ℤ a) +ℤ s

pub middle_is : (a' s' a s : ℤ) → a' ≡ a → s' ≡ s → IsPiece a s → IsMiddle a' s' a s
middle_is a' s' a s ea es p =
    let double : pos 2 *ℤ held a' ≡ a +ℤ a = ap (λ z. pos 2 *ℤ z) (ap held ea ∙ begin_held a s p) ∙ doubled a in
    let within : SFits w64 (a +ℤ a) = fits_between (a +ℤ a) (omega (arith, ints, p.begins)) (omega (arith, ints, p.some, p.ends)) in
    let sum : held (pos 2 *ℤ held a') +ℤ held s' ≡ (a +ℤ a) +ℤ s = ap₂ (λ y z. y +ℤ z) (ap held double ∙ to_z-of_z w64 (a +ℤ a) within) (ap held es ∙ length_held a s p) in
    let fits : SFits w64 ((a +ℤ a) +ℤ s) = fits_between ((a +ℤ a) +ℤ s) (omega (arith, ints, p.begins, p.some)) (omega (arith, ints, p.some, p.ends)) in
    let P : ℤ → Type 0 = λ z. SFits w64 z in
    record {
      twice = subst P (sym double) within;
      sum = subst P (sym sum) fits;
      value = ap held sum ∙ to_z-of_z w64 ((a +ℤ a) +ℤ s) fits;
    }
  where
    doubled : (a : ℤ) → pos 2 *ℤ a ≡ a +ℤ a
    doubled a = omega (arith, ints)

-- the tests of one direction, for what 64 bits hold
pub spans_is : (t : Bool) (a' s' a s x : ℤ) → a' ≡ a → s' ≡ s → IsPiece a s → SFits w64 x → (IsTrue t ↔ ((held a' ≤ℤ held x) × (held x <ℤ (held a' +ℤ held s')))) → IsTrue t ↔ ((a ≤ℤ x) × (x <ℤ (a +ℤ s)))
spans_is t a' s' a s x ea es p fits h =
    let P : ℤ → Type 0 = λ z. IsTrue t ↔ ((z ≤ℤ held x) × (held x <ℤ (held a' +ℤ held s'))) in
    let Q : ℤ → Type 0 = λ z. IsTrue t ↔ ((a ≤ℤ held x) × (held x <ℤ z)) in
    let R : ℤ → Type 0 = λ z. IsTrue t ↔ ((a ≤ℤ z) × (z <ℤ (a +ℤ s))) in
    subst R (to_z-of_z w64 x fits) (subst Q (end_held a' s' a s ea es p) (subst P (ap held ea ∙ begin_held a s p) h))

pub meet_is : (t : Bool) (a' s' b' u' a s b u : ℤ) → a' ≡ a → s' ≡ s → IsPiece a s → b' ≡ b → u' ≡ u → IsPiece b u → (IsTrue t ↔ ((held a' ≤ℤ (held b' +ℤ held u')) × (held b' ≤ℤ (held a' +ℤ held s')))) → IsTrue t ↔ ((a ≤ℤ (b +ℤ u)) × (b ≤ℤ (a +ℤ s)))
meet_is t a' s' b' u' a s b u ea es p eb eu q h =
    let P : ℤ → Type 0 = λ z. IsTrue t ↔ ((z ≤ℤ (held b' +ℤ held u')) × (held b' ≤ℤ (held a' +ℤ held s'))) in
    let Q : ℤ → Type 0 = λ z. IsTrue t ↔ ((a ≤ℤ z) × (held b' ≤ℤ (held a' +ℤ held s'))) in
    let R : ℤ → Type 0 = λ z. IsTrue t ↔ ((a ≤ℤ (b +ℤ u)) × (z ≤ℤ (held a' +ℤ held s'))) in
    let S : ℤ → Type 0 = λ z. IsTrue t ↔ ((a ≤ℤ (b +ℤ u)) × (b ≤ℤ z)) in
    subst S (end_held a' s' a s ea es p) (subst R (ap held eb ∙ begin_held b u q) (subst Q (end_held b' u' b u eb eu q) (subst P (ap held ea ∙ begin_held a s p) h)))

half_within : (c : Cell) → half c.grid ≤ 2 ^ 32
half_within c = omega (arith, half_small c)

index_small : (grid level i : ℕ) → IsGrid grid → level ≤ grid → i < 2 ^ level → i < 2 ^ 32
index_small grid level i is le lt =
    let few : level ≤ 32 = omega (arith, (within_widest grid is).bits) in
    let power : 2 ^ level ≤ 2 ^ 32 = pow_mono few in
    omega (arith, power)

-- of a cell
pub columns : (c : Cell) → IsPiece (corner_x (square c)) (pos (side (square c)))
columns c =
    let inside = cell_inside c in
    let small = half_within c in
    record { begins = omega (arith, ints, inside.west, small); some = omega (arith, ints); ends = omega (arith, ints, inside.east, small) }

pub rows : (c : Cell) → IsPiece (corner_y (square c)) (pos (side (square c)))
rows c =
    let inside = cell_inside c in
    let small = half_within c in
    record { begins = omega (arith, ints, inside.south, small); some = omega (arith, ints); ends = omega (arith, ints, inside.north, small) }

pub corner_x_is : (c : Cell) (f s h : ℤ) → f ≡ pos c.i → s ≡ pos (side (square c)) → h ≡ pos (half c.grid) → IsCorner f s h (c.i * side (square c)) (half c.grid)
corner_x_is c f s h ef es eh =
    let east = (cell_inside c).east in
    corner_is f s h c.i (side (square c)) (half c.grid) ef es eh (index_small c.grid c.level c.i c.known_grid c.level_in_grid c.column) (omega (arith, ints, east)) (half_within c)

pub corner_y_is : (c : Cell) (f s h : ℤ) → f ≡ pos c.j → s ≡ pos (side (square c)) → h ≡ pos (half c.grid) → IsCorner f s h (c.j * side (square c)) (half c.grid)
corner_y_is c f s h ef es eh =
    let north = (cell_inside c).north in
    corner_is f s h c.j (side (square c)) (half c.grid) ef es eh (index_small c.grid c.level c.j c.known_grid c.level_in_grid c.row) (omega (arith, ints, north)) (half_within c)

-- both directions together
pub holds_from_both : (c : Square) (x y : ℤ) (p q : Bool) → (IsTrue p ↔ ((corner_x c ≤ℤ x) × (x <ℤ (corner_x c +ℤ pos (side c))))) → (IsTrue q ↔ ((corner_y c ≤ℤ y) × (y <ℤ (corner_y c +ℤ pos (side c))))) → p ≡ true → IsTrue q ↔ Holds c x y
holds_from_both c x y p q across up e =
    let first = across.0 e in (
      λ t. let second = up.0 t in record { west = first.0; east = first.1; south = second.0; north = second.1 },
      λ h. up.1 (h.south, h.north),
    )

pub holds_from_first : (c : Square) (x y : ℤ) (p : Bool) → (IsTrue p ↔ ((corner_x c ≤ℤ x) × (x <ℤ (corner_x c +ℤ pos (side c))))) → p ≡ false → IsTrue p ↔ Holds c x y
holds_from_first c x y p across e = (λ t. absurd (false≢true (sym e ∙ t)), λ h. across.1 (h.west, h.east))

pub touches_from_both : (b c : Square) (p q : Bool) → (IsTrue p ↔ ((corner_x b ≤ℤ (corner_x c +ℤ pos (side c))) × (corner_x c ≤ℤ (corner_x b +ℤ pos (side b))))) → (IsTrue q ↔ ((corner_y b ≤ℤ (corner_y c +ℤ pos (side c))) × (corner_y c ≤ℤ (corner_y b +ℤ pos (side b))))) → p ≡ true → IsTrue q ↔ Touches b c
touches_from_both b c p q across up e =
    let first = across.0 e in (
      λ t. let second = up.0 t in record { west = first.0; east = first.1; south = second.0; north = second.1 },
      λ h. up.1 (h.south, h.north),
    )

pub touches_from_first : (b c : Square) (p : Bool) → (IsTrue p ↔ ((corner_x b ≤ℤ (corner_x c +ℤ pos (side c))) × (corner_x c ≤ℤ (corner_x b +ℤ pos (side b))))) → p ≡ false → IsTrue p ↔ Touches b c
touches_from_first b c p across e = (λ t. absurd (false≢true (sym e ∙ t)), λ h. across.1 (h.west, h.east))

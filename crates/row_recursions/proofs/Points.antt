-- Points in cells, and their strengths.
use Rattle.std.proofs.Common.{◌≡◌, refl, inl, inr, subst, ℕ, zero, suc, ◌+◌, ◌*◌, ◌^◌, ◌≤◌, arith, ℤ, pos, neg_ℤ, ◌+ℤ◌, ◌-ℤ◌, ◌≤ℤ◌, ◌<ℤ◌, SFits, w64, to_z, of_z, to_z-of_z, false, sym}
use Rattle.std.proofs.lemmas.Int.{ints}
use Rattle.std.proofs.lemmas.Bool.{false≢true}
use Rattle.std.proofs.Math.Nat.{mul-le-mul_right}
use Rattle.std.specs.Prelude.{[], ◌∷◌}
use Rattle.exact_math.specs.Ends.{BoxEnds, BoxEndsWithin}
use Rattle.exact_math.specs.Gaussian.{Gaussian, gaussian, norm_gaussian}
use Rattle.exact_math.specs.Within.{Within, GaussianWithin}
use Rattle.points.specs.declared.Point.{Point}
use Rattle.points.specs.declared.Strength.{Strength}
use Rattle.points.specs.declared.Strength.TheVariants.{Pole, Dipole, Nothing}
use Rattle.limits.specs.Grid.{half, IsInGrid}
use Rattle.limits.specs.Limits.{IsGrid, most_strength, widest_grid}
use Rattle.limits.proofs.Grids.{grid_cases}
use Rattle.points.specs.Limits.{InRange, weight64}
use Rattle.points.specs.Points.{place, strength, pole, dipole, is_source}
use Rattle.points.specs.Strength.{pole_part, dipole_part, StrengthWithin, acts}
use Rattle.exact_math.specs.Sizes.{abs_gaussian, weight_at}
use Rattle.cell_name.specs.Cell.{square}
use Rattle.cell_name.specs.Square.{side, corner_x, corner_y, Holds}
use Rattle.cell_name.specs.declared.cell.Cell.{Cell}
use Rattle.cell_name.proofs.Cells.{cell_inside}
use Rattle.exact_math.proofs.GaussianSizes.{weight_at-le}
use Rattle.exact_math.proofs.WholeSizes.{unsigned_abs-within}
use Rattle.truncation.specs.Entries.{weight, local_cut}
use Rattle.truncation.specs.Places.{doubled_offset}
use Rattle.complex_box.proofs.Sizes.{box_wider}
use Rattle.row_recursions.specs.Cells.{side_of, doubled_centre_of, offset_from, moments_in}
use Rattle.row_recursions.specs.Moments.{HoldsMoments}
use Rattle.row_recursions.specs.Rows.{units_box, source_moment, far_source}
use Rattle.row_recursions.specs.Sources.{source_at, source_of}
use Rattle.row_recursions.specs.Fields.{HoldsField}
use Rattle.row_recursions.proofs.FarLaws.{field_of_source}
use Rattle.row_recursions.proofs.MomentLaws.{source_moments}
use Rattle.row_recursions.proofs.RowSizes.{source_moment_within}

-- the moments of a strength at a place, by its pole and its dipole
pub strength_moments : (P s : ℕ) (c z : Gaussian) (a : Strength) → 1 ≤ s → HoldsMoments P s c (source_at z a ∷ []) (source_moment s (pole_part a) (dipole_part a) (doubled_offset z c))
strength_moments P s c z (Pole re im) h = source_moments P s c (source_at z (Pole re im)) h
strength_moments P s c z (Dipole re im) h = source_moments P s c (source_at z (Dipole re im)) h
strength_moments P s c z Nothing h = source_moments P s c (source_at z Nothing) h

-- and its field far away
pub strength_field : (P s : ℕ) (b z : Gaussian) (a : Strength) → 1 ≤ s → pos 0 <ℤ norm_gaussian (doubled_offset z b)
    → HoldsField P s b (λ t. local_cut P b t (source_at z a)) (far_source s (pole_part a) (dipole_part a) (doubled_offset z b))
strength_field P s b z (Pole re im) h apart = field_of_source P s b (source_at z (Pole re im)) h apart
strength_field P s b z (Dipole re im) h apart = field_of_source P s b (source_at z (Dipole re im)) h apart
strength_field P s b z Nothing h apart = field_of_source P s b (source_at z Nothing) h apart

-- a point weighs what its source does
pub weight-source_of : (P : ℕ) (p : Point) → weight P (source_of p) ≡ weight_at P (pole p.kind) (dipole p.kind)
weight-source_of P p = by (place p) (strength p.kind)
  where
    by : (z : Gaussian) (a : Strength) → weight P (source_at z a) ≡ weight_at P (pole_part a) (dipole_part a)
    by z (Pole re im) = refl
    by z (Dipole re im) = refl
    by z Nothing = refl

-- and up to order 32 no more than at 32
pub weight-le-weight64 : (P : ℕ) (p : Point) → P ≤ 32 → weight_at P (pole p.kind) (dipole p.kind) ≤ weight64 p
weight-le-weight64 P p few = weight_at-le P 32 (pole p.kind) (dipole p.kind) few

-- a coordinate fits an i64
pub grid_fits : (x y : ℤ) → IsInGrid widest_grid x y → SFits w64 x × SFits w64 y
grid_fits x y h =
    let a = h.west in
    let b = h.east in
    let c = h.south in
    let d = h.north in
    (omega (arith, ints), omega (arith, ints))

-- the places that a cell holds lie in its grid
pub held_in_grid : (c : Cell) (x y : ℤ) → Holds (square c) x y → IsInGrid c.grid x y
held_in_grid c x y h =
    let i = cell_inside c in
    record { west = omega (arith, ints, i.west, h.west); east = omega (arith, ints, i.east, h.east); south = omega (arith, ints, i.south, h.south); north = omega (arith, ints, i.north, h.north) }

-- the doubled offset of a place is at most the side
near : (x c s : ℤ) → c ≤ℤ x → x <ℤ (c +ℤ s) → (neg_ℤ s ≤ℤ (x +ℤ x -ℤ (c +ℤ c +ℤ s))) × ((x +ℤ x -ℤ (c +ℤ c +ℤ s)) ≤ℤ s)
near x c s h k = (omega (arith, ints), omega (arith, ints))

pub offset_within : (c : Cell) (x y : ℤ) → Holds (square c) x y → GaussianWithin (side_of c) (doubled_offset (gaussian x y) (doubled_centre_of c))
offset_within c x y h =
    let a = near x (corner_x (square c)) (pos (side (square c))) h.west h.east in
    let b = near y (corner_y (square c)) (pos (side (square c))) h.south h.north in
    record { re = record { above = a.0; below = a.1 }; im = record { above = b.0; below = b.1 } }

-- sides are powers of two, from 1 on
pub side_positive : (c : Cell) → 1 ≤ side_of c
side_positive c = power_positive _
  where
    power_positive : (n : ℕ) → 1 ≤ 2 ^ n
    power_positive zero = omega arith
    power_positive (suc n) = let h = power_positive n in omega arith

-- ---- weights
weight_bounded_at : (a : Strength) → StrengthWithin most_strength a → abs_gaussian (pole_part a) + 64 * abs_gaussian (dipole_part a) ≤ 2 ^ 27
weight_bounded_at (Pole re im) h = let a = unsigned_abs-within _ re h.0 in let b = unsigned_abs-within _ im h.1 in omega arith
weight_bounded_at (Dipole re im) h = let a = unsigned_abs-within _ re h.0 in let b = unsigned_abs-within _ im h.1 in omega arith
weight_bounded_at Nothing h = omega arith

-- the box of a strength whose components are in their limits, as calls have it
pub units_fit : {x y : ℤ} {b : BoxEnds} → Within most_strength x → Within most_strength y → b ≡ units_box (gaussian (to_z w64 (of_z w64 x)) (to_z w64 (of_z w64 y))) → b ≡ units_box (gaussian x y)
units_fit {x} {y} v w e =
    let f : SFits w64 x = omega (arith, ints) in
    let g : SFits w64 y = omega (arith, ints) in
    simp to_z-of_z at e

-- a point in range is at most 2^27 in weight
pub weight_bounded : (p : Point) → InRange widest_grid p → weight64 p ≤ 2 ^ 27
weight_bounded p h = weight_bounded_at (strength p.kind) h.strength

-- what adds nothing weighs nothing
pub weight-nothing : (P : ℕ) (p : Point) → is_source p.kind ≡ false → weight_at P (pole p.kind) (dipole p.kind) ≡ 0
weight-nothing P p = by (strength p.kind)
  where
    by : (a : Strength) → acts a ≡ false → weight_at P (pole_part a) (dipole_part a) ≡ 0
    by (Pole re im) e = absurd (false≢true (sym e))
    by (Dipole re im) e = absurd (false≢true (sym e))
    by Nothing e = omega arith

-- each moment of a point in the cell is at most 2^40 times its weight
pub moments_within : (c : Cell) (p : Point) (k : ℕ) → k ≤ 64 → Holds (square c) p.x p.y → BoxEndsWithin (2 ^ 40 * weight64 p) (moments_in (square c) p k)
moments_within c p k few h = box_wider _ (2 ^ 40 * weight64 p) _ (heavier k (abs_gaussian (pole p.kind)) (abs_gaussian (dipole p.kind)) few)
    (source_moment_within (side_of c) (pole p.kind) (dipole p.kind) (offset_from c (place p)) k (side_positive c) (offset_within c p.x p.y h))
  where
    heavier : (k a b : ℕ) → k ≤ 64 → 2 ^ 40 * (a + k * b) ≤ 2 ^ 40 * (a + 64 * b)
    heavier k a b h = let m = mul-le-mul_right b h in omega arith

-- the doubled offset of any place of the grid
half_at_most : (grid : ℕ) → IsGrid grid → half grid ≤ half widest_grid
half_at_most grid is =
    elim (grid_cases grid is) [
      | inl e ↦ subst (λ n. half n ≤ half widest_grid) (sym e) (omega arith)
      | inr e ↦ subst (λ n. half n ≤ half widest_grid) (sym e) (omega arith)
    ]

between : (h : ℕ) (x c s : ℤ) → h ≤ half widest_grid → neg_ℤ (pos h) ≤ℤ x → x <ℤ pos h → pos 0 ≤ℤ s → neg_ℤ (pos h) ≤ℤ c → (c +ℤ s) ≤ℤ pos h → Within (2 ^ (widest_grid + 1)) (x +ℤ x -ℤ (c +ℤ c +ℤ s))
between h x c s most west east p a b = record { above = omega (arith, ints); below = omega (arith, ints) }

pub grid_offset_within : (c : Cell) (x y : ℤ) → IsInGrid c.grid x y → GaussianWithin (2 ^ (widest_grid + 1)) (offset_from c (gaussian x y))
grid_offset_within c x y h =
    let i = cell_inside c in
    let most = half_at_most c.grid c.known_grid in
    record {
      re = between (half c.grid) x (corner_x (square c)) (pos (side (square c))) most h.west h.east (omega (arith, ints)) i.west i.east;
      im = between (half c.grid) y (corner_y (square c)) (pos (side (square c))) most h.south h.north (omega (arith, ints)) i.south i.north;
    }

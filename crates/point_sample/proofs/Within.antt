-- A sample is within the limits.
use Rattle.std.proofs.Common.{ℕ, ◌+◌, ◌*◌, ◌/◌, ◌%◌, ◌^◌, ◌<◌, ◌≤◌, nat_lt, if◌then◌else◌, true, false, ℤ, pos, neg_ℤ, ◌≤ℤ◌, ◌<ℤ◌, refl, arith}
use Rattle.std.specs.Prelude.{◌==◌}
use Rattle.std.specs.List.{All, range_with_len}
use Rattle.std.proofs.Math.Nat.{div-le_self}
use Rattle.std.proofs.lemmas.Nat.{mod_below}
use Rattle.std.proofs.lemmas.Int.{ints}
use Rattle.std.proofs.lemmas.List.Elements.{All-map}
use Rattle.std.proofs.lemmas.List.FromFn.{length-map-range_with_len}
use Rattle.std.proofs.lemmas.List.Sums.{sum_by-le}
use Rattle.exact_math.specs.Within.{Within}
use Rattle.points.specs.declared.Kind.{Kind}
use Rattle.points.specs.declared.Kind.TheVariants.{Charge, Dipole, Target}
use Rattle.points.specs.declared.Mode.TheVariants.{Field}
use Rattle.points.specs.declared.Point.{Point}
use Rattle.limits.specs.Grid.{half}
use Rattle.limits.specs.Limits.{first_grid, most_points, most_strength}
use Rattle.points.specs.Limits.{InRange, IsKindOf, HasStrength, FitsMode, WithinLimits, weight64}
use Rattle.exact_math.specs.Sizes.{abs_gaussian}
use Rattle.points.specs.Points.{pole, dipole}
use Rattle.point_sample.specs.Generator.{draw}
use Rattle.point_sample.specs.Sample.{coordinate, component, kind_of, next_point, sample}
use Rattle.point_sample.proofs.Draws.{draw_below}
use Rattle.point_sample.proofs.Points.{sample_list, sample_point}

-- what holds of a charge, of a dipole and of a target holds of each kind
each_kind : (P : Kind → Type 0) (choice r s : ℕ) → P (Charge (component 1000 r)) → P (Dipole (component 100 r) (component 100 s)) → P Target → P (kind_of choice r s)
each_kind P choice r s charge dipole target =
    elim (nat_lt (choice % 4) 2) as (λ b. P (if b then Charge (component 1000 r) else (if choice % 4 == 2 then Dipole (component 100 r) (component 100 s) else Target))) [
      | true ↦ charge
      | false ↦ elim (choice % 4 == 2) as (λ b. P (if b then Dipole (component 100 r) (component 100 s) else Target)) [ true ↦ dipole | false ↦ target ]
    ]

coordinate_low : (r scale : ℕ) → neg_ℤ (pos (half first_grid)) ≤ℤ coordinate r scale
coordinate_low r scale = omega (arith, ints)

coordinate_high : (r scale : ℕ) → r < 2 ^ 16 → coordinate r scale <ℤ pos (half first_grid)
coordinate_high r scale below = let part = div-le_self r (4 ^ scale) in omega (arith, ints)

component_fits : (most r : ℕ) → Within most (component most r)
component_fits most r =
    let below : r % (2 * most + 1) < 2 * most + 1 = mod_below r (2 * most + 1) (omega arith) in
    record { above = omega (arith, ints); below = omega (arith, ints) }

wider : (m n : ℕ) (z : ℤ) → m ≤ n → Within m z → Within n z
wider m n z more fits = record { above = omega (arith, ints, fits.above); below = omega (arith, ints, fits.below) }

strength : (choice r s : ℕ) → HasStrength (kind_of choice r s)
strength choice r s =
    let part : (t : ℕ) → Within most_strength (component 100 t) = λ (t : ℕ). wider 100 most_strength _ (omega arith) (component_fits 100 t) in
    each_kind HasStrength choice r s (wider 1000 most_strength _ (omega arith) (component_fits 1000 r), record { above = omega (arith, ints); below = omega (arith, ints) }) (part r, part s) tt

size : (m : ℕ) (z : ℤ) → Within m z → abs_gaussian (record { re = z; im = pos 0 }) ≤ m
size m z fits = omega (arith, ints, fits.above, fits.below)

abbrev weight_of : Kind → ℕ
weight_of kind = abs_gaussian (pole kind) + 64 * abs_gaussian (dipole kind)

-- a charge weighs at most 1000, and a dipole at most 64 times 200
light : (choice r s : ℕ) → weight_of (kind_of choice r s) ≤ 12800
light choice r s =
    let q = component_fits 1000 r in
    let re = component_fits 100 r in
    let im = component_fits 100 s in
    each_kind (λ kind. weight_of kind ≤ 12800) choice r s (omega (arith, ints, q.above, q.below)) (omega (arith, ints, re.above, re.below, im.above, im.below)) (omega arith)

point_fits : (x : ℕ) → InRange first_grid (next_point x)
unfolding next_point
point_fits x = record {
  place = record {
    west = coordinate_low (draw x 1) (draw x 3 / 4 % 4);
    east = coordinate_high (draw x 1) (draw x 3 / 4 % 4) (draw_below x 0);
    south = coordinate_low (draw x 2) (draw x 3 / 4 % 4);
    north = coordinate_high (draw x 2) (draw x 3 / 4 % 4) (draw_below x 1);
  };
  kind = each_kind (IsKindOf first_grid) (draw x 3) (draw x 4) (draw x 5) tt tt tt;
  strength = strength (draw x 3) (draw x 4) (draw x 5);
}

mode_fits : (x : ℕ) → FitsMode Field (next_point x).kind
unfolding next_point
mode_fits x = each_kind (FitsMode Field) (draw x 3) (draw x 4) (draw x 5) tt tt tt

point_light : (x : ℕ) → weight64 (next_point x) ≤ 12800
unfolding next_point
point_light x = light (draw x 3) (draw x 4) (draw x 5)

-- what holds of each point that draws make holds of the points of a sample
each_point : (P : Point → Type 0) → ((x : ℕ) → P (next_point x)) → (seed n : ℕ) → All P (sample_list seed n)
each_point P each seed n = All-map P (sample_point seed) (range_with_len 0 n) (λ k d here. each _)

pub sample_within : (seed n : ℕ) → n ≤ most_points first_grid → WithinLimits (sample seed n)
sample_within seed n few =
    let many = length-map-range_with_len (sample_point seed) 0 n in
    let light = sum_by-le weight64 12800 (sample_list seed n) (each_point (λ p. weight64 p ≤ 12800) point_light seed n) in
    record {
      version = refl;
      mode_fits = each_point (λ p. FitsMode Field p.kind) mode_fits seed n;
      within = record { range = each_point (InRange first_grid) point_fits seed n; count = omega arith; weight = omega arith };
    }

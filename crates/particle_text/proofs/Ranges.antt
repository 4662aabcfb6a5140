-- Points in range have no number that is cut when it is read.
use Rattle.std.proofs.Common.{◌≡◌, ℕ, ℤ, pos, neg_ℤ, ◌≤ℤ◌, ◌<ℤ◌, ap, refl, arith}
use Rattle.std.proofs.lemmas.Int.{ints}
use Rattle.exact_math.specs.Within.{Within}
use Rattle.limits.specs.Grid.{half}
use Rattle.limits.specs.Limits.{IsGrid, most_strength, widest_grid}
use Rattle.number_text.specs.Numbers.{cut_int}
use Rattle.number_text.proofs.Rows.{cut_small, small_cut}
use Rattle.points.specs.declared.Kind.{Kind}
use Rattle.points.specs.declared.Kind.TheVariants.{Charge, Dipole, Vortex, Target, Pole}
use Rattle.points.specs.declared.Point.{Point}
use Rattle.points.specs.Limits.{InRange, HasStrength}
use Rattle.points.proofs.Ranges.{range_in_widest}
use Rattle.particle_text.specs.Private.{cut_kind, cut_point}
use Rattle.particle_text.proofs.Forms.{same_point}

coordinate : (x : ℤ) → neg_ℤ (pos (half widest_grid)) ≤ℤ x → x <ℤ pos (half widest_grid) → cut_int x ≡ x
coordinate x low high = cut_small (half widest_grid) x (omega arith) low (omega (arith, ints, high))

coordinate_back : (x : ℤ) → neg_ℤ (pos (half widest_grid)) ≤ℤ cut_int x → cut_int x <ℤ pos (half widest_grid) → cut_int x ≡ x
coordinate_back x low high = small_cut (half widest_grid) x (omega arith) low (omega (arith, ints, high))

component : (z : ℤ) → Within most_strength z → cut_int z ≡ z
component z fits = cut_small most_strength z (omega arith) fits.above fits.below

component_back : (z : ℤ) → Within most_strength (cut_int z) → cut_int z ≡ z
component_back z fits = small_cut most_strength z (omega arith) fits.above fits.below

turned : (z : ℤ) → Within most_strength (neg_ℤ z) → Within most_strength z
turned z fits = record { above = omega (arith, ints, fits.below); below = omega (arith, ints, fits.above) }

kind_kept : (kind : Kind) → HasStrength kind → cut_kind kind ≡ kind
kind_kept (Charge q) fits = ap Charge (component q fits.0)
kind_kept (Dipole re im) fits = λ i. Dipole (component re fits.0 i) (component im fits.1 i)
kind_kept (Vortex g) fits = ap Vortex (component g (turned g fits.1))
kind_kept Target fits = refl
kind_kept (Pole re im) fits = λ i. Pole (component re fits.0 i) (component im fits.1 i)

kind_back : (kind : Kind) → HasStrength (cut_kind kind) → cut_kind kind ≡ kind
kind_back (Charge q) fits = ap Charge (component_back q fits.0)
kind_back (Dipole re im) fits = λ i. Dipole (component_back re fits.0 i) (component_back im fits.1 i)
kind_back (Vortex g) fits = ap Vortex (component_back g (turned (cut_int g) fits.1))
kind_back Target fits = refl
kind_back (Pole re im) fits = λ i. Pole (component_back re fits.0 i) (component_back im fits.1 i)

-- a point in range is read as it is
pub point_kept : (grid : ℕ) (q : Point) → IsGrid grid → InRange grid q → cut_point q ≡ q
point_kept grid q is range =
    let wide = range_in_widest grid q is range in
    same_point _ _ _ _ _ _ (coordinate q.x wide.place.west wide.place.east) (coordinate q.y wide.place.south wide.place.north) (kind_kept q.kind wide.strength)

-- a point that is read as one in range is that point
pub point_back : (grid : ℕ) (q : Point) → IsGrid grid → InRange grid (cut_point q) → cut_point q ≡ q
point_back grid q is range =
    let wide = range_in_widest grid (cut_point q) is range in
    same_point _ _ _ _ _ _ (coordinate_back q.x wide.place.west wide.place.east) (coordinate_back q.y wide.place.south wide.place.north) (kind_back q.kind wide.strength)

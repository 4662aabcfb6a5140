-- The rules can be met with entries of all four letters and inner nodes, by rows and radii that the method computes: seven nodes on a grid of 3 bits, at order 2.
use Rattle.std.proofs.Common.{◌≡◌, refl, sym, subst, ℕ, zero, suc, ◌<◌, ◌≤◌, arith, true, false, ◌||◌, List, [], ◌∷◌}
use Rattle.std.specs.Prelude.{ℤ, pos, neg_ℤ, ◌==◌, All}
use Rattle.std.specs.List.{count_by}
use Rattle.std.proofs.lemmas.Bool.{eqb-true, true≢false, false≢true, or_cases}
use Rattle.std.proofs.lemmas.Int.{ints}
use mathlib.Core.Logic.{⊎_elim, inl}
use Rattle.exact_math.specs.Ends.{BoxEnds, zero_box}
use Rattle.exact_math.specs.Gaussian.{Gaussian, gaussian}
use Rattle.cell_name.specs.Square.{Square, parent}
use Rattle.letters.specs.declared.Entry.{Entry}
use Rattle.letters.specs.declared.Letter.{Letter}
use Rattle.letters.specs.declared.Letter.TheVariants.{U, V, W, X}
use Rattle.points.specs.declared.Kind.{Kind}
use Rattle.points.specs.declared.Kind.TheVariants.{Charge, Dipole, Vortex}
use Rattle.points.specs.Points.{place}
use Rattle.row_recursions.specs.Rows.{shifted_up}
use Rattle.soundness.specs.Squares.{quadrant, IsQuarterOf, IsFarFrom, CellsAreApart}
use Rattle.soundness.specs.Accounts.{LeafSource, LeafTarget, Accounting, under, is_leaf, has_target_under, accounts}
use Rattle.soundness.specs.Computed.{total_row, computed_leaf_row, shifted_rows, computed_local_row, computed_local_radius, computed_target_box}
use Rattle.soundness.specs.Rules.{RowInside, SourceStands, TargetStands, Apart, IsTiled, BoxHolds, Rules}
use Rattle.soundness.specs.Soundness.{BoxesContain}
use Rattle.soundness.proofs.Example.{only}
use Rattle.soundness.proofs.Inside.{BoxEndsInside-same, RowInside-same}
use Rattle.soundness.proofs.Targets.{boxes_contain}
use Rattle.row_recursions.specs.Cells.{moments_in}

-- ---- sources, nodes and entries
abbrev source : ℤ → ℤ → Kind → ℕ → LeafSource
source x y kind leaf = record { point = record { x = x; y = y; kind = kind }; leaf = leaf }

abbrev charge : LeafSource
charge = source (pos 0) (neg_ℤ (pos 4)) (Charge (pos 5)) 4

abbrev dipole : LeafSource
dipole = source (pos 3) (neg_ℤ (pos 3)) (Dipole (pos 2) (pos 3)) 5

abbrev vortex : LeafSource
vortex = source (pos 1) (neg_ℤ (pos 1)) (Vortex (pos 7)) 6

abbrev neighbour : LeafSource
neighbour = source (neg_ℤ (pos 3)) (neg_ℤ (pos 3)) (Vortex (pos 7)) 3

abbrev sources : List LeafSource
sources = charge ∷ dipole ∷ vortex ∷ neighbour ∷ []

abbrev square_of : ℕ → ℕ → ℕ → Square
square_of level i j = record { grid = 3; level = level; i = i; j = j }

abbrev cell : ℕ → Square
cell zero = square_of 0 0 0
cell (suc zero) = square_of 1 0 0
cell (suc (suc zero)) = square_of 1 1 0
cell (suc (suc (suc zero))) = square_of 2 0 0
cell (suc (suc (suc (suc zero)))) = square_of 2 2 0
cell (suc (suc (suc (suc (suc zero))))) = square_of 2 3 0
cell (suc (suc (suc (suc (suc (suc n)))))) = square_of 2 2 1

abbrev above : ℕ → ℕ
above zero = 0
above (suc zero) = 0
above (suc (suc zero)) = 0
above (suc (suc (suc zero))) = 1
above (suc (suc (suc (suc zero)))) = 2
above (suc (suc (suc (suc (suc zero))))) = 2
above (suc (suc (suc (suc (suc (suc zero)))))) = 2
above (suc (suc (suc (suc (suc (suc (suc n))))))) = 0

abbrev entry : Letter → ℕ → ℕ → Entry
entry letter b c = record { letter = letter; b = b; c = c }

abbrev entries : List Entry
entries = entry U 3 3 ∷ entry X 3 6 ∷ entry V 3 4 ∷ entry W 3 5 ∷ []

-- ---- multipole rows, from the leaves up
abbrev row_of : ℕ → LeafSource → ℕ → BoxEnds
row_of n x = total_row (λ x. moments_in (cell n) x.point) (x ∷ [])

abbrev up : List ℕ → (ℕ → ℕ → BoxEnds) → ℕ → BoxEnds
up children m = total_row (λ d. shifted_up (m d) (quadrant (cell d))) children

abbrev leaf_multipole : ℕ → ℕ → BoxEnds
leaf_multipole zero = λ k. zero_box
leaf_multipole (suc zero) = λ k. zero_box
leaf_multipole (suc (suc zero)) = λ k. zero_box
leaf_multipole (suc (suc (suc zero))) = row_of 3 neighbour
leaf_multipole (suc (suc (suc (suc zero)))) = row_of 4 charge
leaf_multipole (suc (suc (suc (suc (suc zero))))) = row_of 5 dipole
leaf_multipole (suc (suc (suc (suc (suc (suc n)))))) = row_of 6 vortex

abbrev first_multipole : ℕ → ℕ → BoxEnds
first_multipole zero = λ k. zero_box
first_multipole (suc zero) = up (3 ∷ []) leaf_multipole
first_multipole (suc (suc zero)) = up (4 ∷ 5 ∷ 6 ∷ []) leaf_multipole
first_multipole (suc (suc (suc n))) = leaf_multipole (suc (suc (suc n)))

abbrev multipole : ℕ → ℕ → BoxEnds
multipole zero = up (1 ∷ 2 ∷ []) first_multipole
multipole (suc n) = first_multipole (suc n)

-- ---- local rows and radii, from the root down
abbrev with_local : (ℕ → ℕ → BoxEnds) → (ℕ → ℕ) → List LeafTarget → Accounting
with_local local radius targets = record {
  nodes = 7;
  parent = above;
  cell = cell;
  sources = sources;
  targets = targets;
  entries = entries;
  multipole = multipole;
  local = local;
  radius = radius;
}

abbrev none : Accounting
none = with_local (λ n k. zero_box) (λ n. 0) []

abbrev local_0 : ℕ → ℕ → BoxEnds
local_0 n = computed_local_row 2 none 0

abbrev radius_0 : ℕ → ℕ
radius_0 n = computed_local_radius 2 none 0

abbrev local_1 : ℕ → ℕ → BoxEnds
local_1 zero = local_0 0
local_1 (suc n) = computed_local_row 2 (with_local local_0 radius_0 []) 1

abbrev radius_1 : ℕ → ℕ
radius_1 zero = radius_0 0
radius_1 (suc n) = computed_local_radius 2 (with_local local_0 radius_0 []) 1

abbrev local : ℕ → ℕ → BoxEnds
local zero = local_1 0
local (suc zero) = local_1 1
local (suc (suc n)) = computed_local_row 2 (with_local local_1 radius_1 []) 3

abbrev radius : ℕ → ℕ
radius zero = radius_1 0
radius (suc zero) = radius_1 1
radius (suc (suc n)) = computed_local_radius 2 (with_local local_1 radius_1 []) 3

-- ---- a target in the corner, with the box that the method computes
abbrev corner : Gaussian
corner = gaussian (neg_ℤ (pos 4)) (neg_ℤ (pos 4))

abbrev computed : BoxEnds
computed = computed_target_box 2 (with_local local radius []) (record { place = corner; leaf = 3; box = zero_box })

abbrev target : LeafTarget
target = record { place = corner; leaf = 3; box = computed }

abbrev presented : Accounting
presented = with_local local radius (target ∷ [])

-- ---- facts of each
below_seven : (P : ℕ → Type 0) → P 0 → P 1 → P 2 → P 3 → P 4 → P 5 → P 6 → (n : ℕ) → n < 7 → P n
below_seven P a b c d e f g zero l = a
below_seven P a b c d e f g (suc zero) l = b
below_seven P a b c d e f g (suc (suc zero)) l = c
below_seven P a b c d e f g (suc (suc (suc zero))) l = d
below_seven P a b c d e f g (suc (suc (suc (suc zero)))) l = e
below_seven P a b c d e f g (suc (suc (suc (suc (suc zero))))) l = f
below_seven P a b c d e f g (suc (suc (suc (suc (suc (suc zero)))))) l = g
below_seven P a b c d e f g (suc (suc (suc (suc (suc (suc (suc n))))))) l = absurd (omega arith)

four : {X : Type 0} (P : X → Type 0) (a b c d : X) → P a → P b → P c → P d → All P (a ∷ b ∷ c ∷ d ∷ [])
four P a b c d p q r s zero z l = p
four P a b c d p q r s (suc zero) z l = q
four P a b c d p q r s (suc (suc zero)) z l = r
four P a b c d p q r s (suc (suc (suc zero))) z l = s
four P a b c d p q r s (suc (suc (suc (suc k)))) z l = absurd (omega arith)

-- the path from the leaf 3
on_path : (P : ℕ → Type 0) → P 3 → P 1 → P 0 → (n : ℕ) → under above 3 n ≡ true → P n
unfolding under
on_path P a b c n e = ⊎_elim (λ h. subst P (eqb-true 3 n h) a)
    (λ e. ⊎_elim (λ h. subst P (eqb-true 1 n h) b) (λ e. ⊎_elim (λ h. subst P (eqb-true 0 n h) c) (λ h. subst P (eqb-true 0 n h) c) (or_cases (0 == n) (0 == n) e)) (or_cases (1 == n) ((0 == n) || (0 == n)) e))
    (or_cases (3 == n) ((1 == n) || ((0 == n) || (0 == n))) e)

above_target : (n : ℕ) → has_target_under presented n ≡ true → under above 3 n ≡ true
above_target n e = ⊎_elim (λ u. u) (λ no. absurd (false≢true no)) (or_cases (under above 3 n) false e)

-- ---- nodes
parents_below : (n : ℕ) → 0 < n → above n < n
parents_below zero h = absurd (omega arith)
parents_below (suc zero) h = omega arith
parents_below (suc (suc zero)) h = omega arith
parents_below (suc (suc (suc zero))) h = omega arith
parents_below (suc (suc (suc (suc zero)))) h = omega arith
parents_below (suc (suc (suc (suc (suc zero))))) h = omega arith
parents_below (suc (suc (suc (suc (suc (suc zero)))))) h = omega arith
parents_below (suc (suc (suc (suc (suc (suc (suc n))))))) h = omega arith

quarter : (d c : Square) → 0 < d.level → d.level ≤ d.grid → parent d ≡ c → IsQuarterOf d c
quarter d c h k e = record { below_root = h; in_grid = k; parent_is = e }

quarters_placed : (n : ℕ) → 0 < n → n < 7 → IsQuarterOf (cell n) (cell (above n))
quarters_placed n h l = below_seven (λ n. 0 < n → IsQuarterOf (cell n) (cell (above n)))
    (λ h. absurd (omega arith))
    (λ h. quarter (cell 1) (cell 0) (omega arith) (omega arith) refl)
    (λ h. quarter (cell 2) (cell 0) (omega arith) (omega arith) refl)
    (λ h. quarter (cell 3) (cell 1) (omega arith) (omega arith) refl)
    (λ h. quarter (cell 4) (cell 2) (omega arith) (omega arith) refl)
    (λ h. quarter (cell 5) (cell 2) (omega arith) (omega arith) refl)
    (λ h. quarter (cell 6) (cell 2) (omega arith) (omega arith) refl) n l h

sources_stand : All (SourceStands presented) sources
sources_stand = four (SourceStands presented) charge dipole vortex neighbour
    (record { in_range = omega arith; leaf = refl; held = record { re = record { above = omega (arith, ints); below = omega (arith, ints) }; im = record { above = omega (arith, ints); below = omega (arith, ints) } } })
    (record { in_range = omega arith; leaf = refl; held = record { re = record { above = omega (arith, ints); below = omega (arith, ints) }; im = record { above = omega (arith, ints); below = omega (arith, ints) } } })
    (record { in_range = omega arith; leaf = refl; held = record { re = record { above = omega (arith, ints); below = omega (arith, ints) }; im = record { above = omega (arith, ints); below = omega (arith, ints) } } })
    (record { in_range = omega arith; leaf = refl; held = record { re = record { above = omega (arith, ints); below = omega (arith, ints) }; im = record { above = omega (arith, ints); below = omega (arith, ints) } } })

target_stands : TargetStands presented target
target_stands = record { in_range = omega arith; held = record { re = record { above = omega (arith, ints); below = omega (arith, ints) }; im = record { above = omega (arith, ints); below = omega (arith, ints) } } }

-- ---- rows
leaf_rows_inside : (n : ℕ) → n < 7 → is_leaf presented n ≡ true → RowInside 2 (computed_leaf_row presented n) (multipole n)
unfolding under
leaf_rows_inside n l e = below_seven (λ n. is_leaf presented n ≡ true → RowInside 2 (computed_leaf_row presented n) (multipole n))
    (λ e. absurd (true≢false (sym e))) (λ e. absurd (true≢false (sym e))) (λ e. absurd (true≢false (sym e)))
    (λ e. RowInside-same 2 _ _ (λ k. refl)) (λ e. RowInside-same 2 _ _ (λ k. refl)) (λ e. RowInside-same 2 _ _ (λ k. refl)) (λ e. RowInside-same 2 _ _ (λ k. refl)) n l e

inner_rows_inside : (n : ℕ) → n < 7 → is_leaf presented n ≡ false → RowInside 2 (shifted_rows presented n) (multipole n)
inner_rows_inside n l e = below_seven (λ n. is_leaf presented n ≡ false → RowInside 2 (shifted_rows presented n) (multipole n))
    (λ e. RowInside-same 2 _ _ (λ k. refl)) (λ e. RowInside-same 2 _ _ (λ k. refl)) (λ e. RowInside-same 2 _ _ (λ k. refl))
    (λ e. absurd (true≢false e)) (λ e. absurd (true≢false e)) (λ e. absurd (true≢false e)) (λ e. absurd (true≢false e)) n l e

local_rows_inside : (n : ℕ) → under above 3 n ≡ true → RowInside 2 (computed_local_row 2 presented n) (local n)
local_rows_inside n e = on_path (λ n. RowInside 2 (computed_local_row 2 presented n) (local n)) (RowInside-same 2 _ _ (λ k. refl)) (RowInside-same 2 _ _ (λ k. refl)) (RowInside-same 2 _ _ (λ k. refl)) n e

at_least_itself : (n : ℕ) → n ≤ n
at_least_itself n = omega arith

radii_at_least : (n : ℕ) → under above 3 n ≡ true → computed_local_radius 2 presented n ≤ radius n
radii_at_least n e = on_path (λ n. computed_local_radius 2 presented n ≤ radius n) (at_least_itself (radius 3)) (at_least_itself (radius 1)) (at_least_itself (radius 0)) n e

-- ---- entries
cells_apart : CellsAreApart (cell 3) (cell 4)
cells_apart = record { grid = refl; level = refl; apart = inl (omega arith) }

target_far : All (λ t. under above t.leaf 3 ≡ true → IsFarFrom (cell 5) t.place) (target ∷ [])
target_far = only (λ t. under above t.leaf 3 ≡ true → IsFarFrom (cell 5) t.place) target (λ e. inl (omega arith))

source_far : All (λ x. under above x.leaf 6 ≡ true → IsFarFrom (cell 3) (place x.point)) sources
unfolding under
source_far = four (λ x. under above x.leaf 6 ≡ true → IsFarFrom (cell 3) (place x.point)) charge dipole vortex neighbour
    (λ e. absurd (true≢false (sym e))) (λ e. absurd (true≢false (sym e))) (λ e. inl (omega arith)) (λ e. absurd (true≢false (sym e)))

accounted_once : All (λ x. count_by (accounts presented 3 x) entries ≡ 1) sources
unfolding under
accounted_once = four (λ x. count_by (accounts presented 3 x) entries ≡ 1) charge dipole vortex neighbour refl refl refl refl

rules_met : Rules 2 presented
rules_met = record {
  root = refl;
  parents = parents_below;
  quarters = quarters_placed;
  sources = sources_stand;
  targets = only (TargetStands presented) target target_stands;
  in_range = four (λ e. e.c < 7) (entry U 3 3) (entry X 3 6) (entry V 3 4) (entry W 3 5) (omega arith) (omega arith) (omega arith) (omega arith);
  apart = four (λ e. Apart presented e.letter e.b e.c) (entry U 3 3) (entry X 3 6) (entry V 3 4) (entry W 3 5) tt source_far cells_apart target_far;
  tiled = only (λ t. IsTiled presented t.leaf) target accounted_once;
  multipoles = λ n l. record { of_leaf = leaf_rows_inside n l; of_inner = inner_rows_inside n l };
  locals = λ n l h. let u = above_target n h in record { row = local_rows_inside n u; radius = radii_at_least n u };
  boxes = only (BoxHolds 2 presented) target (BoxEndsInside-same refl);
}

sum_contained : BoxesContain presented
sum_contained = boxes_contain 2 presented (omega arith) rules_met

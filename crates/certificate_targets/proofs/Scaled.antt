-- `2^40` and `10^12` have the factor `2^12` in common.
use Rattle.std.proofs.Common.{ℤ, pos, ◌*ℤ◌, ◌≤ℤ◌, ◌≤◌, List, [], ◌∷◌, ℕ, inl, inr, subst, sym, arith}
use Rattle.std.proofs.lemmas.Int.{ints}
use Rattle.cert_text.specs.Certificate.{nth_number}
use Rattle.cert_text.specs.Sections.{AreOrderedEnds}
use Rattle.complex_box.proofs.Sizes.{box_wider}
use Rattle.exact_math.specs.Ends.{BoxEnds, BoxEndsWithin}
use Rattle.exact_math.specs.Units.{unit}
use Rattle.exact_math.specs.Within.{Within}
use Rattle.limits.proofs.Grids.{grid_cases, version_has_grid}
use Rattle.limits.specs.Limits.{IsGrid, grid_of, most_given_target, most_printed}
use Rattle.soundness.specs.Counts.{count_unit}

pub below_scaled : (a b : ℤ) → (pos 268435456 *ℤ a) ≤ℤ (pos 244140625 *ℤ b) → (unit *ℤ a) ≤ℤ (count_unit *ℤ b)
below_scaled a b h = omega (arith, ints, h)

pub below_unscaled : (a b : ℤ) → (unit *ℤ a) ≤ℤ (count_unit *ℤ b) → (pos 268435456 *ℤ a) ≤ℤ (pos 244140625 *ℤ b)
below_unscaled a b h = omega (arith, ints, h)

pub above_scaled : (a b : ℤ) → (pos 244140625 *ℤ b) ≤ℤ (pos 268435456 *ℤ a) → (count_unit *ℤ b) ≤ℤ (unit *ℤ a)
above_scaled a b h = omega (arith, ints, h)

pub above_unscaled : (a b : ℤ) → (count_unit *ℤ b) ≤ℤ (unit *ℤ a) → (pos 244140625 *ℤ b) ≤ℤ (pos 268435456 *ℤ a)
above_unscaled a b h = omega (arith, ints, h)

-- ---- ends in order
zero_within : (n : ℕ) → Within n (pos 0)
zero_within n = record { above = omega (arith, ints); below = omega (arith, ints) }

pub first_within : (n : ℕ) (zs : List ℤ) → AreOrderedEnds n zs → Within n (nth_number zs 0)
first_within n [] h = zero_within n
first_within n (a ∷ []) h = absurd h
first_within n (a ∷ b ∷ zs) h = h.0

pub second_within : (n : ℕ) (zs : List ℤ) → AreOrderedEnds n zs → Within n (nth_number zs 1)
second_within n [] h = zero_within n
second_within n (a ∷ []) h = absurd h
second_within n (a ∷ b ∷ zs) h = h.1

pub third_within : (n : ℕ) (zs : List ℤ) → AreOrderedEnds n zs → Within n (nth_number zs 2)
third_within n [] h = zero_within n
third_within n (a ∷ []) h = absurd h
third_within n (a ∷ b ∷ []) h = zero_within n
third_within n (a ∷ b ∷ c ∷ []) h = absurd h.3
third_within n (a ∷ b ∷ c ∷ d ∷ zs) h = h.3.0

pub fourth_within : (n : ℕ) (zs : List ℤ) → AreOrderedEnds n zs → Within n (nth_number zs 3)
fourth_within n [] h = zero_within n
fourth_within n (a ∷ []) h = absurd h
fourth_within n (a ∷ b ∷ []) h = zero_within n
fourth_within n (a ∷ b ∷ c ∷ []) h = absurd h.3
fourth_within n (a ∷ b ∷ c ∷ d ∷ zs) h = h.3.1

-- what fits the limit of a version is printed
most_given_le : (grid : ℕ) → IsGrid grid → most_given_target grid ≤ most_printed
most_given_le grid is =
    elim (grid_cases grid is) [ inl e ↦ subst (λ n. most_given_target n ≤ most_printed) (sym e) (omega arith) | inr e ↦ subst (λ n. most_given_target n ≤ most_printed) (sym e) (omega arith) ]

pub printed_box : (version : ℕ) (b : BoxEnds) → BoxEndsWithin (most_given_target (grid_of version)) b → BoxEndsWithin most_printed b
printed_box version b h = box_wider _ _ b (most_given_le (grid_of version) (version_has_grid version)) h

ordered_wider : (m n : ℕ) → m ≤ n → (zs : List ℤ) → AreOrderedEnds m zs → AreOrderedEnds n zs
ordered_wider m n le [] h = tt
ordered_wider m n le (a ∷ []) h = absurd h
ordered_wider m n le (a ∷ b ∷ zs) h = (one a h.0, one b h.1, h.2, ordered_wider m n le zs h.3)
  where
    one : (z : ℤ) → Within m z → Within n z
    one z w = record { above = omega (arith, ints, le, w.above); below = omega (arith, ints, le, w.below) }

pub printed_counts : (version : ℕ) (zs : List ℤ) → AreOrderedEnds (most_given_target (grid_of version)) zs → AreOrderedEnds most_printed zs
printed_counts version zs h = ordered_wider _ _ (most_given_le (grid_of version) (version_has_grid version)) zs h

-- Numbers that are read as ones in range are read as they are.
use Rattle.std.proofs.Common.{ℕ, zero, suc, ◌≡◌, ◌-◌, ◌^◌, ◌≤◌, ◌<◌, ℤ, pos, negsuc, neg_ℤ, ◌≤ℤ◌, ◌<ℤ◌, List, [], ◌∷◌, map, refl, sym, ap, ap₂, ◌∙◌, subst, arith, inl, inr}
use Rattle.std.specs.Prelude.{unsigned_abs}
use Rattle.std.proofs.lemmas.Int.{ints}
use Rattle.std.proofs.Math.Pow.{pow_mono}
use Rattle.exact_math.specs.Within.{Within}
use Rattle.limits.specs.Limits.{grid_of, most_given_target, most_given_multipole, most_given_local, first_grid}
use Rattle.limits.proofs.Grids.{grid_cases, version_has_grid, within_widest}
use Rattle.number_text.specs.Numbers.{cut_wide}
use Rattle.cert_text.specs.declared.section.Section.{Section}
use Rattle.cert_text.specs.declared.section.Section.TheVariants.{Node, At, Multipole, Entry, Local, Target, End}
use Rattle.cert_text.specs.Lines.{Line, line, Head}
use Rattle.cert_text.specs.Sections.{IsHead, IsNumberBelow, IsParentOf, AreOrderedEnds, AreInRange}
use Rattle.cert_text.specs.Storage.{IsLineRead}

-- ---- limits
pub target_most : (version : ℕ) → most_given_target (grid_of version) ≤ 2 ^ 96
target_most version =
    let Q : ℕ → Type 0 = λ g. most_given_target g ≤ 2 ^ 96 in
    elim (grid_cases (grid_of version) (version_has_grid version)) [ inl e ↦ subst Q (sym e) (omega arith) | inr e ↦ subst Q (sym e) (omega arith) ]

pub target_limit : (version : ℕ) → most_given_target (grid_of version) < 2 ^ 100
target_limit version = let most = target_most version in omega (arith, most)

pub grid_limit : (version : ℕ) → grid_of version ≤ 20
grid_limit version = (within_widest (grid_of version) (version_has_grid version)).bits

pub cells_limit : (h : Head) → IsHead h → h.cells ≤ 131072
cells_limit h is =
    let few = (within_widest (grid_of h.version) (version_has_grid h.version)).cells in
    omega (arith, ints, is.counts.2.most, few)

side_limit : (g : ℕ) (level : ℤ) → g ≤ 20 → IsNumberBelow (suc g) level → 2 ^ unsigned_abs level ≤ 2 ^ 100
side_limit g (pos n) few below = pow_mono {i = n} {j = 100} (omega (arith, ints, below.most))
side_limit g (negsuc n) few below = absurd (omega (arith, ints, below.least))

-- ---- one number
read_within : (z : ℤ) → Within (2 ^ 100 - 1) z → cut_wide z ≡ z
read_within (pos m) h = omega (arith, ints, h.below)
read_within (negsuc m) h = omega (arith, ints, h.above)

within_read : (z : ℤ) → Within (2 ^ 100 - 1) (cut_wide z) → cut_wide z ≡ z
within_read (pos m) h = omega (arith, ints, h.below)
within_read (negsuc m) h = omega (arith, ints, h.above)

-- `f` is what is read of a number, or the number itself
module _ (f : ℤ → ℤ) (same : (z : ℤ) → Within (2 ^ 100 - 1) (f z) → cut_wide z ≡ z) where
  same_below : (n : ℕ) (z : ℤ) → n ≤ 2 ^ 100 → IsNumberBelow n (f z) → cut_wide z ≡ z
  same_below n z few h = same z (record { above = omega (arith, ints, h.least); below = omega (arith, ints, h.most) })

  same_within : (n : ℕ) (z : ℤ) → n < 2 ^ 100 → Within n (f z) → cut_wide z ≡ z
  same_within n z few h = same z (record { above = omega (arith, ints, h.above); below = omega (arith, ints, h.below) })

  same_parent : (n : ℕ) (z : ℤ) → n < 2 ^ 100 → IsParentOf n (f z) → cut_wide z ≡ z
  same_parent zero z few h = same z (record { above = omega (arith, ints, h); below = omega (arith, ints, h) })
  same_parent (suc n) z few h = same_below (suc n) z (omega arith) h

  same_ends : (n : ℕ) (zs : List ℤ) → n < 2 ^ 100 → AreOrderedEnds n (map f zs) → map cut_wide zs ≡ zs
  same_ends n [] few h = refl
  same_ends n (z ∷ []) few h = absurd h
  same_ends n (lo ∷ hi ∷ zs) few h = ap₂ ◌∷◌ (same_within n lo few h.0) (ap₂ ◌∷◌ (same_within n hi few h.1) (same_ends n zs few h.3))

  same_local : (h : Head) (n : ℕ) (zs : List ℤ) → AreInRange h Local n (map f zs) → map cut_wide zs ≡ zs
  same_local h n [] r = refl
  same_local h n (radius ∷ zs) r = ap₂ ◌∷◌ (same_below (suc most_given_local) radius (omega arith) r.0) (same_ends most_given_local zs (omega arith) r.1)

  same_range : (h : Head) (n : ℕ) → IsHead h → n < 2 ^ 100 → (section : Section) (zs : List ℤ) → AreInRange h section n (map f zs) → map cut_wide zs ≡ zs
  same_range h n is few Node [] r = refl
  same_range h n is few Node (a ∷ []) r = absurd r
  same_range h n is few Node (a ∷ b ∷ []) r = absurd r
  same_range h n is few Node (a ∷ b ∷ c ∷ []) r = absurd r
  same_range h n is few Node (parent ∷ level ∷ i ∷ j ∷ []) r =
      let side = side_limit (grid_of h.version) (f level) (grid_limit h.version) r.1 in
      let grid = grid_limit h.version in
      ap₂ ◌∷◌ (same_parent n parent few r.0) (ap₂ ◌∷◌ (same_below (suc (grid_of h.version)) level (omega (arith, grid)) r.1) (ap₂ ◌∷◌ (same_below (2 ^ unsigned_abs (f level)) i side r.2) (ap₂ ◌∷◌ (same_below (2 ^ unsigned_abs (f level)) j side r.3) refl)))
  same_range h n is few Node (a ∷ b ∷ c ∷ d ∷ e ∷ zs) r = absurd r
  same_range h n is few At [] r = refl
  same_range h n is few At (at ∷ []) r = ap₂ ◌∷◌ (same_below h.cells at (omega (arith, cells_limit h is)) r) refl
  same_range h n is few At (a ∷ b ∷ zs) r = absurd r
  same_range h n is few Multipole zs r = same_ends most_given_multipole zs (omega arith) r
  same_range h n is few Entry [] r = refl
  same_range h n is few Entry (a ∷ []) r = absurd r
  same_range h n is few Entry (b ∷ c ∷ []) r =
      ap₂ ◌∷◌ (same_below h.cells b (omega (arith, cells_limit h is)) r.0) (ap₂ ◌∷◌ (same_below h.cells c (omega (arith, cells_limit h is)) r.1) refl)
  same_range h n is few Entry (a ∷ b ∷ c ∷ zs) r = absurd r
  same_range h n is few Local zs r = same_local h n zs r
  same_range h n is few Target zs r = same_ends (most_given_target (grid_of h.version)) zs (target_limit h.version) r
  same_range h n is few End [] r = refl
  same_range h n is few End (a ∷ zs) r = absurd r

-- ---- lines
map_same : (zs : List ℤ) → map (λ (z : ℤ). z) zs ≡ zs
map_same [] = refl
map_same (z ∷ zs) = ap (λ l. z ∷ l) (map_same zs)

-- a line that is in range is read as it is
pub read_in_range : (h : Head) (section : Section) (n : ℕ) (word : List ℕ) (numbers : List ℤ) (l : Line) → IsHead h → n < 2 ^ 100 → IsLineRead h section word numbers l → AreInRange h section n l.numbers → l.numbers ≡ numbers
read_in_range h section n word numbers l is few read r =
    let P : List ℤ → Type 0 = λ zs. AreInRange h section n zs in
    sym (read.numbers_are ∙ same_range (λ (z : ℤ). z) read_within h n is few section l.numbers (subst P (sym (map_same l.numbers)) r))

-- and one that is read as in range too
pub range_read : (h : Head) (section : Section) (n : ℕ) (word : List ℕ) (numbers : List ℤ) (l : Line) → IsHead h → n < 2 ^ 100 → IsLineRead h section word numbers l → AreInRange h section n numbers → l.numbers ≡ numbers
range_read h section n word numbers l is few read r =
    let P : List ℤ → Type 0 = λ zs. AreInRange h section n zs in
    let e : map cut_wide l.numbers ≡ l.numbers = same_range cut_wide within_read h n is few section l.numbers (subst P read.numbers_are r) in
    sym (read.numbers_are ∙ e)

-- ends that are in range, and local rows, are so as they are read
pub ends_read : (n : ℕ) (zs numbers : List ℤ) → n < 2 ^ 100 → numbers ≡ map cut_wide zs → AreOrderedEnds n zs → AreOrderedEnds n numbers
ends_read n zs numbers few read r =
    subst (AreOrderedEnds n) (sym (read ∙ same_ends (λ (z : ℤ). z) read_within n zs few (subst (AreOrderedEnds n) (sym (map_same zs)) r))) r

pub local_read : (h : Head) (n : ℕ) (zs numbers : List ℤ) → numbers ≡ map cut_wide zs → AreInRange h Local n zs → AreInRange h Local n numbers
local_read h n zs numbers read r =
    let P : List ℤ → Type 0 = λ l. AreInRange h Local n l in
    subst P (sym (read ∙ same_local (λ (z : ℤ). z) read_within h n zs (subst P (sym (map_same zs)) r))) r

-- and are read as they are where they are in range as read
pub read_ends : (n : ℕ) (zs numbers : List ℤ) → n < 2 ^ 100 → numbers ≡ map cut_wide zs → AreOrderedEnds n numbers → zs ≡ numbers
read_ends n zs numbers few read r = sym (read ∙ same_ends cut_wide within_read n zs few (subst (AreOrderedEnds n) read r))

pub read_local : (h : Head) (n : ℕ) (zs numbers : List ℤ) → numbers ≡ map cut_wide zs → AreInRange h Local n numbers → zs ≡ numbers
read_local h n zs numbers read r =
    let P : List ℤ → Type 0 = λ l. AreInRange h Local n l in
    sym (read ∙ same_local cut_wide within_read h n zs (subst P read r))

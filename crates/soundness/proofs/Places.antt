-- Sides and centres of quarters and of cells that are apart, and the places in the squares above a cell.
use Rattle.std.proofs.Common.{◌≡◌, sym, ap, ap₂, subst, ◌∙◌, ℕ, zero, suc, ◌+◌, ◌-◌, ◌*◌, ◌/◌, ◌%◌, ◌^◌, ◌<◌, ◌≤◌, arith, Bool, true, false}
use Rattle.std.specs.Prelude.{ℤ, pos, ◌+ℤ◌, ◌-ℤ◌, ◌*ℤ◌, ◌<ℤ◌, ◌⊎◌, ◌==◌, unsigned_abs}
use Rattle.std.proofs.Math.Nat.{pow-succ'}
use Rattle.std.proofs.lemmas.Bool.{eqb-true, or_cases}
use Rattle.std.proofs.lemmas.Int.{ints}
use mathlib.Core.Logic.{⊎_elim, inl, inr}
use Rattle.exact_math.specs.Gaussian.{Gaussian, gaussian, add_gaussian, sub_gaussian, norm_gaussian, scale_gaussian}
use Rattle.exact_math.specs.Within.{Within, GaussianBeyond}
use Rattle.cell_name.specs.Square.{Square, side, parent, doubled_centre_x, doubled_centre_y}
use Rattle.cell_name.proofs.Distances.{same_side, centres_differ}
use Rattle.near_field.proofs.PairContains.{norm_positive_re, norm_positive_im}
use Rattle.row_recursions.specs.Cells.{sign}
use Rattle.soundness.specs.Squares.{doubled_centre, quadrant, sides_between, IsQuarterOf, IsIn, CellsAreApart}
use Rattle.soundness.specs.Accounts.{under}
use Rattle.soundness.proofs.Nodes.{strong, under-root, under-parent}

-- ---- sides
power_positive : (n : ℕ) → 1 ≤ 2 ^ n
power_positive zero = omega arith
power_positive (suc n) = let h = power_positive n in let e = pow-succ' 2 n in omega arith

pub side_positive : (c : Square) → 1 ≤ side c
side_positive c = power_positive (c.grid - c.level)

side_above : (d : Square) → 0 < d.level → d.level ≤ d.grid → side (parent d) ≡ 2 * side d
side_above d h k = let e : d.grid - (d.level - 1) ≡ suc (d.grid - d.level) = omega arith in ap (λ n. 2 ^ n) e ∙ pow-succ' 2 (d.grid - d.level)

-- the parent's side is twice the quarter's
pub side_of-quarter : (d c : Square) → IsQuarterOf d c → side c ≡ 2 * side d
side_of-quarter d c h = subst (λ p. side p ≡ 2 * side d) h.parent_is (side_above d h.below_root h.in_grid)

-- ---- centres, along one axis: of the piece m of side s and of the piece of twice the side that has it
parity : (m : ℕ) → (m % 2 ≡ 0) ⊎ (m % 2 ≡ 1)
parity m = let h : m % 2 < 2 = omega arith in small (m % 2) h
  where
    small : (r : ℕ) → r < 2 → (r ≡ 0) ⊎ (r ≡ 1)
    small zero h = inl (omega arith)
    small (suc zero) h = inr (omega arith)
    small (suc (suc r)) h = absurd (omega arith)

abbrev doubled : ℤ → ℕ → ℕ → ℤ
doubled h s m = (pos (m * s) -ℤ h) +ℤ (pos (m * s) -ℤ h) +ℤ pos s

along : (h : ℤ) (m s t : ℕ) → t ≡ 2 * s → doubled h s m ≡ doubled h t (m / 2) +ℤ pos s *ℤ sign (m % 2 == 1)
along h m s t e = ⊎_elim
    (λ r. even r ∙ ap (λ q. doubled h t (m / 2) +ℤ pos s *ℤ q) (sym (ap (λ k. sign (k == 1)) r)))
    (λ r. odd r ∙ ap (λ q. doubled h t (m / 2) +ℤ pos s *ℤ q) (sym (ap (λ k. sign (k == 1)) r)))
    (parity m)
  where
    wide : m / 2 * t ≡ 2 * (m / 2 * s)
    wide = ap (λ k. m / 2 * k) e ∙ omega arith

    even : m % 2 ≡ 0 → doubled h s m ≡ doubled h t (m / 2) +ℤ pos s *ℤ sign false
    even r =
        let l : m ≡ 2 * (m / 2) = omega arith in
        let p : m * s ≡ 2 * (m / 2 * s) = ap (λ k. k * s) l ∙ omega arith in
        let q = wide in
        omega (arith, ints)

    odd : m % 2 ≡ 1 → doubled h s m ≡ doubled h t (m / 2) +ℤ pos s *ℤ sign true
    odd r =
        let l : m ≡ 2 * (m / 2) + 1 = omega arith in
        let p : m * s ≡ 2 * (m / 2 * s) + s = ap (λ k. k * s) l ∙ omega arith in
        let q = wide in
        omega (arith, ints)

-- the quarter's centre from the parent's
pub centre_of-quarter : (d c : Square) → IsQuarterOf d c → doubled_centre d ≡ add_gaussian (doubled_centre c) (scale_gaussian (side d) (quadrant d))
centre_of-quarter d c h =
    let e : side (parent d) ≡ 2 * side d = side_above d h.below_root h.in_grid in
    subst (λ p. doubled_centre d ≡ add_gaussian (doubled_centre p) (scale_gaussian (side d) (quadrant d))) h.parent_is
    (ap₂ gaussian (along (pos (2 ^ (d.grid - 1))) d.i (side d) (side (parent d)) e) (along (pos (2 ^ (d.grid - 1))) d.j (side d) (side (parent d)) e))

-- ---- cells that are apart
pub sides_of-apart : (b c : Square) → CellsAreApart b c → side b ≡ side c
sides_of-apart b c h = same_side b c h.grid h.level

pub centres_of-apart : (b c : Square) → CellsAreApart b c → sub_gaussian (doubled_centre b) (doubled_centre c) ≡ scale_gaussian (2 * side b) (sides_between b c)
centres_of-apart b c h =
    let e = centres_differ b c h.grid h.level in
    ap₂ gaussian (moved (doubled_centre_x b) (doubled_centre_x c) _ e.0) (moved (doubled_centre_y b) (doubled_centre_y c) _ e.1)
    ∙ ap (λ s. scale_gaussian (2 * s) (sides_between b c)) (sym (sides_of-apart b c h))
  where
    moved : (x y d : ℤ) → x ≡ y +ℤ d → x -ℤ y ≡ d
    moved x y d e = omega (arith, ints)

-- a number of which a part is large is not 0
pub norm_beyond : (m : ℕ) (g : Gaussian) → 1 ≤ m → GaussianBeyond m g → pos 0 <ℤ norm_gaussian g
norm_beyond m g h k = ⊎_elim (λ l. norm_positive_re g.re g.im (λ e. no g.re e l)) (λ l. norm_positive_im g.re g.im (λ e. no g.im e l)) k
  where
    no : (z : ℤ) → z ≡ pos 0 → m ≤ unsigned_abs z → ⊥
    no z e l = let k : m ≤ 0 = subst (λ z. m ≤ unsigned_abs z) e l in omega arith

-- ---- places in squares
wider : (z c c' : ℤ) (s t : ℕ) (b : Bool) → t ≡ 2 * s → c' ≡ c +ℤ pos s *ℤ sign b → Within s (z +ℤ z -ℤ c') → Within t (z +ℤ z -ℤ c)
wider z c c' s t true e f k = let l = k.above in let m = k.below in record { above = omega (arith, ints); below = omega (arith, ints) }
wider z c c' s t false e f k = let l = k.above in let m = k.below in record { above = omega (arith, ints); below = omega (arith, ints) }

-- a place in a quarter is in the cell
pub IsIn-quarter : (d c : Square) (z : Gaussian) → IsQuarterOf d c → IsIn d z → IsIn c z
IsIn-quarter d c z h k =
    let e = side_of-quarter d c h in
    let f = centre_of-quarter d c h in
    record {
      re = wider z.re (doubled_centre c).re (doubled_centre d).re (side d) (side c) (d.i % 2 == 1) e (ap (λ g. g.re) f) k.re;
      im = wider z.im (doubled_centre c).im (doubled_centre d).im (side d) (side c) (d.j % 2 == 1) e (ap (λ g. g.im) f) k.im;
    }

module _ (above : ℕ → ℕ) (root : above 0 ≡ 0) (parents : (n : ℕ) → 0 < n → above n < n)
    (nodes : ℕ) (cell : ℕ → Square) (quarters : (n : ℕ) → 0 < n → n < nodes → IsQuarterOf (cell n) (cell (above n))) where
  -- a place in a node's cell is in the cells of all nodes above it
  pub IsIn-above : (z : Gaussian) (n c : ℕ) → n < nodes → IsIn (cell n) z → under above n c ≡ true → IsIn (cell c) z
  IsIn-above z = strong (λ n. (c : ℕ) → n < nodes → IsIn (cell n) z → under above n c ≡ true → IsIn (cell c) z) step
    where
      step : (n : ℕ) → ((m : ℕ) → m < n → (c : ℕ) → m < nodes → IsIn (cell m) z → under above m c ≡ true → IsIn (cell c) z)
          → (c : ℕ) → n < nodes → IsIn (cell n) z → under above n c ≡ true → IsIn (cell c) z
      step zero ih c l h k = subst (λ m. IsIn (cell m) z) (eqb-true 0 c (sym (under-root above root parents c) ∙ k)) h
      step (suc n) ih c l h k = ⊎_elim
          (λ e. subst (λ m. IsIn (cell m) z) (eqb-true (suc n) c e) h)
          (λ e. ih (above (suc n)) (parents (suc n) (omega arith)) c (omega (arith, parents (suc n))) (IsIn-quarter (cell (suc n)) (cell (above (suc n))) z (quarters (suc n) (omega arith) l) h) e)
          (or_cases _ _ (sym (under-parent above root parents (suc n) c (omega arith)) ∙ k))

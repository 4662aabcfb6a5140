-- How far cells that don't touch are apart.
use Rattle.std.proofs.Common.{ℕ, ◌≡◌, ◌+◌, ◌-◌, ◌*◌, ◌/◌, ◌^◌, ◌<◌, ◌≤◌, suc, zero, max, ◌⊎◌, inl, inr, sym, ◌∙◌, ap, arith}
use Rattle.std.specs.Prelude.{ℤ, pos, negsuc, ◌+ℤ◌, ◌-ℤ◌, ◌*ℤ◌, ◌≤ℤ◌, neg_ℤ, unsigned_abs}
use Rattle.std.proofs.lemmas.Int.{ints}
use Rattle.std.proofs.lemmas.Nat.{pow_pos, pow-add}
use Rattle.std.proofs.lemmas.Bool.{cases_lt}
use Rattle.std.proofs.Math.IntN.{pos-*ℤ-pos, pos-*ℤ-negsuc}
use Rattle.std.proofs.Math.Nat.{mul-le-mul_right, lt_of_mul-lt-mul_right, le_of_mul-le-mul_right, mul_assoc}
use Rattle.cell_name.specs.Square.{Square, side, half, Holds, Touches, offset_x, offset_y, doubled_centre_x, doubled_centre_y, parent}
use Rattle.cell_name.specs.Apart.{AreTwoOrThreeSidesApart, AreApart, IsLarge, sides_between}
use Rattle.cell_name.proofs.Axis.{apart_ahead}

-- the size of a whole number from its two bounds
size_at_most : (z : ℤ) (n : ℕ) → z ≤ℤ pos n → neg_ℤ (pos n) ≤ℤ z → unsigned_abs z ≤ n
size_at_most (pos a) n p q = omega (arith, ints)
size_at_most (negsuc a) n p q = omega (arith, ints)

size_at_least_up : (z : ℤ) (n : ℕ) → pos n ≤ℤ z → n ≤ unsigned_abs z
size_at_least_up (pos a) n p = omega (arith, ints)
size_at_least_up (negsuc a) n p = absurd (omega (arith, ints))

size_at_least_down : (z : ℤ) (n : ℕ) → z ≤ℤ neg_ℤ (pos n) → n ≤ unsigned_abs z
size_at_least_down (pos a) n p = omega (arith, ints)
size_at_least_down (negsuc a) n p = omega (arith, ints)

-- ---- the direction in which two cells don't touch

-- one of the two begins after the other ends
pub gap : (b c : Square) → b.grid ≡ c.grid → (Touches b c → ⊥) → ((b.i * side b + side b < c.i * side c) ⊎ (c.i * side c + side c < b.i * side b)) ⊎ ((b.j * side b + side b < c.j * side c) ⊎ (c.j * side c + side c < b.j * side b))
gap b c same apart =
    let eh = ap half same in
    elim (cases_lt (b.i * side b + side b) (c.i * side c)) [
      | inl lt ↦ inl (inl lt)
      | inr east ↦
          elim (cases_lt (c.i * side c + side c) (b.i * side b)) [
            | inl lt ↦ inl (inr lt)
            | inr west ↦
                elim (cases_lt (b.j * side b + side b) (c.j * side c)) [
                  | inl lt ↦ inr (inl lt)
                  | inr north ↦
                      elim (cases_lt (c.j * side c + side c) (b.j * side b)) [
                        | inl lt ↦ inr (inr lt)
                        | inr south ↦ absurd (apart (record { west = omega (arith, ints); east = omega (arith, ints); south = omega (arith, ints); north = omega (arith, ints) }))
                      ]
                ]
          ]
    ]

-- ---- an offset of a held place

pub offset_x_at_most : (c : Square) (x y : ℤ) → Holds c x y → unsigned_abs (offset_x c x) ≤ side c
offset_x_at_most c x y h = size_at_most (offset_x c x) (side c) (omega (arith, ints)) (omega (arith, ints))

pub offset_y_at_most : (c : Square) (x y : ℤ) → Holds c x y → unsigned_abs (offset_y c y) ≤ side c
offset_y_at_most c x y h = size_at_most (offset_y c y) (side c) (omega (arith, ints)) (omega (arith, ints))

-- ---- two cells of one level that don't touch

-- cells of one level of a grid have one side
pub same_side : (b c : Square) → b.grid ≡ c.grid → b.level ≡ c.level → side b ≡ side c
same_side b c same level = λ t. 2 ^ ((same t) - (level t))

-- two places in cells of one level that don't touch are at least one side apart in one coordinate
pub places_apart : (b c : Square) (x y x' y' : ℤ) → b.grid ≡ c.grid → b.level ≡ c.level → (Touches b c → ⊥) → Holds b x y → Holds c x' y' → AreApart (side c) x x' ⊎ AreApart (side c) y y'
places_apart b c x y x' y' same level apart p q =
    let e : side b ≡ side c = same_side b c same level in
    let eh = ap half same in
    let ei : b.i * side b ≡ b.i * side c = ap (λ s. b.i * s) e in
    let ej : b.j * side b ≡ b.j * side c = ap (λ s. b.j * s) e in
    elim (gap b c same apart) [
      | inl across ↦ inl (record {
        far =
            elim across [
              | inl lt ↦ let more = apart_ahead c.i b.i (side c) (omega arith) in inl (omega (arith, ints))
              | inr lt ↦ let more = apart_ahead b.i c.i (side c) (omega arith) in inr (omega (arith, ints))
            ];
      })
      | inr up ↦ inr (record {
        far =
            elim up [
              | inl lt ↦ let more = apart_ahead c.j b.j (side c) (omega arith) in inl (omega (arith, ints))
              | inr lt ↦ let more = apart_ahead b.j c.j (side c) (omega arith) in inr (omega (arith, ints))
            ];
      })
    ]

times_negated : (n d : ℕ) → pos n *ℤ neg_ℤ (pos d) ≡ neg_ℤ (pos (n * d))
times_negated n zero = pos-*ℤ-pos n zero ∙ omega (arith, ints)
times_negated n (suc d) = pos-*ℤ-negsuc n d

-- a multiple of a difference of whole numbers
times_difference : (n i k : ℕ) → pos n *ℤ (pos i -ℤ pos k) ≡ pos (n * i) -ℤ pos (n * k)
times_difference n i k =
    elim (cases_lt i k) [
      | inl lt ↦ let e : i + (k - i) ≡ k = omega arith in behind (k - i) e
      | inr le ↦ let e : k + (i - k) ≡ i = omega arith in ahead (i - k) e
    ]
  where
    ahead : (d : ℕ) → k + d ≡ i → pos n *ℤ (pos i -ℤ pos k) ≡ pos (n * i) -ℤ pos (n * k)
    ahead d e =
        let p : pos i -ℤ pos k ≡ pos d = omega (arith, ints) in
        let q : n * i ≡ n * k + n * d = ap (λ v. n * v) (sym e) ∙ omega arith in
        ap (λ z. pos n *ℤ z) p ∙ pos-*ℤ-pos n d ∙ omega (arith, ints)

    behind : (d : ℕ) → i + d ≡ k → pos n *ℤ (pos i -ℤ pos k) ≡ pos (n * i) -ℤ pos (n * k)
    behind d e =
        let p : pos i -ℤ pos k ≡ neg_ℤ (pos d) = omega (arith, ints) in
        let q : n * k ≡ n * i + n * d = ap (λ v. n * v) (sym e) ∙ omega arith in
        ap (λ z. pos n *ℤ z) p ∙ times_negated n d ∙ omega (arith, ints)

-- twice the middles of two pieces of one side
middles_differ : (i k s : ℕ) (h : ℤ) → (((pos (i * s) -ℤ h) +ℤ (pos (i * s) -ℤ h)) +ℤ pos s) ≡ (((pos (k * s) -ℤ h) +ℤ (pos (k * s) -ℤ h)) +ℤ pos s) +ℤ pos (2 * s) *ℤ (pos i -ℤ pos k)
middles_differ i k s h =
    let m = times_difference (2 * s) i k in
    omega (arith, ints, m)

-- the centres of two cells of one level differ by as many sides as their columns, and rows, differ
pub centres_differ : (b c : Square) → b.grid ≡ c.grid → b.level ≡ c.level → (doubled_centre_x b ≡ doubled_centre_x c +ℤ pos (2 * side c) *ℤ (sides_between b c).re) × (doubled_centre_y b ≡ doubled_centre_y c +ℤ pos (2 * side c) *ℤ (sides_between b c).im)
centres_differ b c same level =
    let e : side b ≡ side c = same_side b c same level in
    let eh : half b.grid ≡ half c.grid = ap half same in (
      ap (λ s. ((pos (b.i * s) -ℤ pos (half b.grid)) +ℤ (pos (b.i * s) -ℤ pos (half b.grid))) +ℤ pos s) e ∙
          ap (λ h. ((pos (b.i * side c) -ℤ pos h) +ℤ (pos (b.i * side c) -ℤ pos h)) +ℤ pos (side c)) eh ∙ middles_differ b.i c.i (side c) (pos (half c.grid)),
      ap (λ s. ((pos (b.j * s) -ℤ pos (half b.grid)) +ℤ (pos (b.j * s) -ℤ pos (half b.grid))) +ℤ pos s) e ∙
          ap (λ h. ((pos (b.j * side c) -ℤ pos h) +ℤ (pos (b.j * side c) -ℤ pos h)) +ℤ pos (side c)) eh ∙ middles_differ b.j c.j (side c) (pos (half c.grid)),
    )

-- two pieces of one side, of which neither begins more than a side after the other's end
pub near : (i k s : ℕ) → 0 < s → i * s ≤ k * s + s → i ≤ k + 1
near i k s p h = let e : i * s ≤ (k + 1) * s = omega arith in le_of_mul-le-mul_right e p

halves_near : (i k : ℕ) → i / 2 ≤ k / 2 + 1 → k / 2 ≤ i / 2 + 1 → unsigned_abs (pos i -ℤ pos k) ≤ 3
halves_near i k p q = size_at_most (pos i -ℤ pos k) 3 (omega (arith, ints)) (omega (arith, ints))

not_near : (i k s : ℕ) → i * s + s < k * s → i + 2 ≤ k
not_near i k s h = let lt : i + 1 < k = lt_of_mul-lt-mul_right s (let e : (i + 1) * s < k * s = omega arith in e) in omega arith

-- two cells of one level whose parents touch and that don't touch
pub two_or_three : (b c : Square) → b.grid ≡ c.grid → b.level ≡ c.level → (Touches b c → ⊥) → Touches (parent b) (parent c) → AreTwoOrThreeSidesApart b c
two_or_three b c same level apart t =
    let e : side b ≡ side c = same_side b c same level in
    let eh = ap half same in
    let ei : b.i * side b ≡ b.i * side c = ap (λ s. b.i * s) e in
    let ej : b.j * side b ≡ b.j * side c = ap (λ s. b.j * s) e in
    let s : ℕ = side (parent c) in
    let p : 0 < s = pow_pos (c.grid - (c.level - 1)) in
    let es : side (parent b) ≡ s = same_side (parent b) (parent c) same (ap (λ n. n - 1) level) in
    let fi : b.i / 2 * side (parent b) ≡ b.i / 2 * s = ap (λ n. b.i / 2 * n) es in
    let fj : b.j / 2 * side (parent b) ≡ b.j / 2 * s = ap (λ n. b.j / 2 * n) es in
    let columns = halves_near b.i c.i (near (b.i / 2) (c.i / 2) s p (omega (arith, ints))) (near (c.i / 2) (b.i / 2) s p (omega (arith, ints))) in
    let rows = halves_near b.j c.j (near (b.j / 2) (c.j / 2) s p (omega (arith, ints))) (near (c.j / 2) (b.j / 2) s p (omega (arith, ints))) in
    record { at_least_two = far (gap b c same apart); at_most_three = omega (arith, columns, rows) }
  where
    far : ((b.i * side b + side b < c.i * side c) ⊎ (c.i * side c + side c < b.i * side b)) ⊎ ((b.j * side b + side b < c.j * side c) ⊎ (c.j * side c + side c < b.j * side b)) → 2 ≤ max (unsigned_abs (sides_between b c).re) (unsigned_abs (sides_between b c).im)
    far h =
        let e : side b ≡ side c = same_side b c same level in
        let eh = ap half same in
        let ei : b.i * side b ≡ b.i * side c = ap (λ s. b.i * s) e in
        let ej : b.j * side b ≡ b.j * side c = ap (λ s. b.j * s) e in
        elim h [
          | inl across ↦
              let large : 2 ≤ unsigned_abs (sides_between b c).re =
              elim across [
                | inl lt ↦ let n = not_near b.i c.i (side c) (omega arith) in size_at_least_down (sides_between b c).re 2 (omega (arith, ints))
                | inr lt ↦ let n = not_near c.i b.i (side c) (omega arith) in size_at_least_up (sides_between b c).re 2 (omega (arith, ints))
              ] in
              omega arith
          | inr up ↦
              let large : 2 ≤ unsigned_abs (sides_between b c).im =
              elim up [
                | inl lt ↦ let n = not_near b.j c.j (side c) (omega arith) in size_at_least_down (sides_between b c).im 2 (omega (arith, ints))
                | inr lt ↦ let n = not_near c.j b.j (side c) (omega arith) in size_at_least_up (sides_between b c).im 2 (omega (arith, ints))
              ] in
              omega arith
        ]

-- ---- a cell and one that is no deeper

-- the side of a level above in sides of a level below
pub side-above : (grid above below : ℕ) → above ≤ below → below ≤ grid → 2 ^ (grid - above) ≡ 2 ^ (below - above) * 2 ^ (grid - below)
side-above grid above below p q = ap (λ n. 2 ^ n) (omega arith) ∙ pow-add 2 (below - above) (grid - below)

-- a place in a cell is far from the centre of a cell that is no higher and doesn't touch it
pub offset_large : (b c : Square) (x y : ℤ) → b.grid ≡ c.grid → b.level ≤ c.level → c.level ≤ c.grid → (Touches b c → ⊥) → Holds b x y → IsLarge (3 * side c) (offset_x c x) ⊎ IsLarge (3 * side c) (offset_y c y)
offset_large b c x y same deeper le apart h =
    let s : ℕ = side c in
    let m : ℕ = 2 ^ (c.level - b.level) in
    let eh = ap half same in
    let e : side b ≡ m * s = ap (λ g. 2 ^ (g - b.level)) same ∙ side-above c.grid b.level c.level deeper le in
    let ei : b.i * side b ≡ b.i * m * s = ap (λ n. b.i * n) e ∙ sym (mul_assoc b.i m s) in
    let ej : b.j * side b ≡ b.j * m * s = ap (λ n. b.j * n) e ∙ sym (mul_assoc b.j m s) in
    elim (gap b c same apart) [
      | inl across ↦ inl (record {
        large =
            elim across [
              | inl lt ↦ let more = apart_behind (b.i * m + m) c.i s (omega arith) in size_at_least_down (offset_x c x) (3 * s) (omega (arith, ints))
              | inr lt ↦ let more = apart_ahead (b.i * m) c.i s (omega arith) in size_at_least_up (offset_x c x) (3 * s) (omega (arith, ints))
            ];
      })
      | inr up ↦ inr (record {
        large =
            elim up [
              | inl lt ↦ let more = apart_behind (b.j * m + m) c.j s (omega arith) in size_at_least_down (offset_y c y) (3 * s) (omega (arith, ints))
              | inr lt ↦ let more = apart_ahead (b.j * m) c.j s (omega arith) in size_at_least_up (offset_y c y) (3 * s) (omega (arith, ints))
            ];
      })
    ]
  where
    apart_behind : (i k s : ℕ) → i * s < k * s → i * s + s ≤ k * s
    apart_behind i k s h =
        let lt : i < k = lt_of_mul-lt-mul_right s h in
        let f : (i + 1) * s ≤ k * s = mul-le-mul_right s (omega arith) in
        omega arith

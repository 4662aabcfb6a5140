-- A V list has at most 27 cells: the parent's colleagues have 36 quarters, and 9 of them touch.
use Rattle.std.proofs.Common.{ℕ, ◌≡◌, ◌+◌, ◌-◌, ◌*◌, ◌/◌, ◌%◌, ◌<◌, ◌≤◌, suc, zero, ◌⊎◌, inl, inr, List, [], length, refl, sym, ap, ◌∙◌, arith, add-one}
use Rattle.std.specs.Prelude.{slice_index}
use Rattle.std.proofs.lemmas.Bool.{cases_lt}
use Rattle.std.proofs.lemmas.Int.{ints}
use Rattle.std.proofs.lemmas.List.Elements.{Contains-get_or}
use Rattle.std.proofs.lemmas.Nat.{pow_pos}
use Rattle.std.proofs.Math.Nat.{mul-le-mul_right}
use Rattle.points.specs.declared.Point.{Point}
use Rattle.cell_name.specs.Order.{IsBefore}
use Rattle.cell_name.specs.Square.{Square, side, half, parent, Touches}
use Rattle.cell_name.proofs.Distances.{near, same_side}
use Rattle.letters.specs.declared.Letter.TheVariants.{V}
use Rattle.quadtree.specs.TreeModel.{TreeModel, size, square_of, IsTreeOf, IsTree}
use Rattle.cell_lists.specs.Entries.{ComeApartOnOneLevel}
use Rattle.cell_lists.specs.Lists.{IsListOf, AreLists, VListsAreShort}
use Rattle.cell_lists.specs.ListAt.{list_at}
use Rattle.cell_lists.specs.EntryLists.{EntryListsModel}
use Rattle.std.proofs.lemmas.List.{get_or_default}
use Rattle.cell_lists.proofs.CellNumbers.{number_before}

near_pieces : (i k s : ℕ) → i ≤ k + 1 → i * s ≤ k * s + s
near_pieces i k s near = let le : i * s ≤ (k + 1) * s = mul-le-mul_right s near in omega arith

-- columns and rows differ by one at most
pub record AreNeighbours (b c : Square) : Type 0 where
  pub west : b.i ≤ c.i + 1
  pub east : c.i ≤ b.i + 1
  pub south : b.j ≤ c.j + 1
  pub north : c.j ≤ b.j + 1

neighbours-from_touch : (b c : Square) → b.grid ≡ c.grid → b.level ≡ c.level → Touches b c → AreNeighbours b c
neighbours-from_touch b c grid level t =
    let s : ℕ = side c in
    let positive : 0 < s = pow_pos (c.grid - c.level) in
    let e : side b ≡ s = same_side b c grid level in
    let h = ap half grid in
    let ei : b.i * side b ≡ b.i * s = ap (λ n. b.i * n) e in
    let ej : b.j * side b ≡ b.j * s = ap (λ n. b.j * n) e in
    record {
      west = near b.i c.i s positive (omega (arith, ints, t.west));
      east = near c.i b.i s positive (omega (arith, ints, t.east));
      south = near b.j c.j s positive (omega (arith, ints, t.south));
      north = near c.j b.j s positive (omega (arith, ints, t.north));
    }

touch-from_neighbours : (b c : Square) → b.grid ≡ c.grid → b.level ≡ c.level → AreNeighbours b c → Touches b c
touch-from_neighbours b c grid level n =
    let s : ℕ = side c in
    let e : side b ≡ s = same_side b c grid level in
    let h = ap half grid in
    let ei : b.i * side b ≡ b.i * s = ap (λ n. b.i * n) e in
    let ej : b.j * side b ≡ b.j * s = ap (λ n. b.j * n) e in
    let w = near_pieces b.i c.i s n.west in
    let x = near_pieces c.i b.i s n.east in
    let y = near_pieces b.j c.j s n.south in
    let z = near_pieces c.j b.j s n.north in
    record {
      west = omega (arith, ints);
      east = omega (arith, ints);
      south = omega (arith, ints);
      north = omega (arith, ints);
    }

-- the place of column `a` and row `r` of the 36 quarters, counted by columns without the 9 that touch the quarter of column `2 + p` and row `2 + q`
record IsLeft (p a r k : ℕ) : Type 0 where
  pub column : a ≤ p
  pub place : k ≡ 6 * a + r

record IsLow (p q a r k : ℕ) : Type 0 where
  pub from_column : p < a
  pub to_column : a ≤ p + 3
  pub row_low : r ≤ q
  pub place : k ≡ 3 + 3 * p + 3 * a + r

record IsHigh (p q a r k : ℕ) : Type 0 where
  pub from_column : p < a
  pub to_column : a ≤ p + 3
  pub row_high : q + 3 < r
  pub place : k ≡ 3 * p + 3 * a + r

record IsRight (p a r k : ℕ) : Type 0 where
  pub column : p + 3 < a
  pub place : k + 9 ≡ 6 * a + r

abbrev IsPlace : ℕ → ℕ → ℕ → ℕ → ℕ → Type 0
IsPlace p q a r k = (IsLeft p a r k ⊎ IsLow p q a r k) ⊎ (IsHigh p q a r k ⊎ IsRight p a r k)

record IsInBlock (p q a r : ℕ) : Type 0 where
  pub parity_p : p ≤ 1
  pub parity_q : q ≤ 1
  pub column_in : a < 6
  pub row_in : r < 6

place_of : (p q a r : ℕ) → IsInBlock p q a r → ((p < a) → (a ≤ p + 3) → (q < r) → (r ≤ q + 3) → ⊥) → (k : ℕ) × IsPlace p q a r k
place_of p q a r inside apart =
    elim (cases_lt p a) [
      | inr left ↦ (6 * a + r, inl (inl (record { column = left; place = refl })))
      | inl from ↦
          elim (cases_lt (p + 3) a) [
            | inl right ↦ (6 * a + r - 9, inr (inr (record { column = right; place = omega arith })))
            | inr to ↦
                elim (cases_lt q r) [
                  | inr low ↦ (3 + 3 * p + 3 * a + r, inl (inr (record { from_column = from; to_column = to; row_low = low; place = refl })))
                  | inl above ↦
                      elim (cases_lt (q + 3) r) [
                        | inl high ↦ (3 * p + 3 * a + r, inr (inl (record { from_column = from; to_column = to; row_high = high; place = refl })))
                        | inr touches ↦ absurd (apart from to above touches)
                      ]
                ]
          ]
    ]

place_below : (p q a r k : ℕ) → IsInBlock p q a r → IsPlace p q a r k → k < 27
place_below p q a r k i (inl (inl h)) = omega (arith, i.parity_p, i.row_in, h.column, h.place)
place_below p q a r k i (inl (inr h)) = omega (arith, i.parity_p, i.parity_q, h.to_column, h.row_low, h.place)
place_below p q a r k i (inr (inl h)) = omega (arith, i.parity_p, i.row_in, h.to_column, h.place)
place_below p q a r k i (inr (inr h)) = omega (arith, i.column_in, i.row_in, h.place)

-- a later quarter has a later place
record IsLater (a r a' r' : ℕ) : Type 0 where
  pub columns : a ≤ a'
  pub later : 6 * a + r < 6 * a' + r'

place_rises : (p q a r k a' r' k' : ℕ) → IsInBlock p q a r → IsInBlock p q a' r' → IsLater a r a' r' → IsPlace p q a r k → IsPlace p q a' r' k' → k < k'
place_rises p q a r k a' r' k' i i' l (inl (inl h)) (inl (inl h')) = omega arith
place_rises p q a r k a' r' k' i i' l (inl (inl h)) (inl (inr h')) = omega arith
place_rises p q a r k a' r' k' i i' l (inl (inl h)) (inr (inl h')) = omega arith
place_rises p q a r k a' r' k' i i' l (inl (inl h)) (inr (inr h')) = omega arith
place_rises p q a r k a' r' k' i i' l (inl (inr h)) (inl (inl h')) = omega arith
place_rises p q a r k a' r' k' i i' l (inl (inr h)) (inl (inr h')) = omega arith
place_rises p q a r k a' r' k' i i' l (inl (inr h)) (inr (inl h')) = omega arith
place_rises p q a r k a' r' k' i i' l (inl (inr h)) (inr (inr h')) = omega arith
place_rises p q a r k a' r' k' i i' l (inr (inl h)) (inl (inl h')) = omega arith
place_rises p q a r k a' r' k' i i' l (inr (inl h)) (inl (inr h')) = omega arith
place_rises p q a r k a' r' k' i i' l (inr (inl h)) (inr (inl h')) = omega arith
place_rises p q a r k a' r' k' i i' l (inr (inl h)) (inr (inr h')) = omega arith
place_rises p q a r k a' r' k' i i' l (inr (inr h)) (inl (inl h')) = omega arith
place_rises p q a r k a' r' k' i i' l (inr (inr h)) (inl (inr h')) = omega arith
place_rises p q a r k a' r' k' i i' l (inr (inr h)) (inr (inl h')) = omega arith
place_rises p q a r k a' r' k' i i' l (inr (inr h)) (inr (inr h')) = omega arith

-- where a cell stands among the quarters of the colleagues of the parent of `b`
abbrev column_of : Square → Square → ℕ
column_of b c = c.i + 2 - 2 * (b.i / 2)

abbrev row_of : Square → Square → ℕ
row_of b c = c.j + 2 - 2 * (b.j / 2)

-- a cell of the V list stands in the block, and has a place there
record HasPlace (b c : Square) : Type 0 where
  pub same_level : b.level ≡ c.level
  pub first_column : 2 * (b.i / 2) ≤ c.i + 2
  pub first_row : 2 * (b.j / 2) ≤ c.j + 2
  pub inside : IsInBlock (b.i % 2) (b.j % 2) (column_of b c) (row_of b c)
  pub place : ℕ
  pub is_place : IsPlace (b.i % 2) (b.j % 2) (column_of b c) (row_of b c) place

has_place : (b c : Square) → b.grid ≡ c.grid → ComeApartOnOneLevel b c → HasPlace b c
has_place b c grid h =
    let level : b.level - 1 ≡ c.level - 1 = ap (λ n. n - 1) h.same_level in
    let n : AreNeighbours (parent b) (parent c) = neighbours-from_touch (parent b) (parent c) grid level h.parents_touch in
    let w : b.i / 2 ≤ c.i / 2 + 1 = n.west in
    let e : c.i / 2 ≤ b.i / 2 + 1 = n.east in
    let s : b.j / 2 ≤ c.j / 2 + 1 = n.south in
    let t : c.j / 2 ≤ b.j / 2 + 1 = n.north in
    let block : IsInBlock (b.i % 2) (b.j % 2) (column_of b c) (row_of b c) = record { parity_p = omega arith; parity_q = omega arith; column_in = omega arith; row_in = omega arith } in
    let found = place_of (b.i % 2) (b.j % 2) (column_of b c) (row_of b c) block
    (λ from to above up_to. h.apart (touch-from_neighbours b c grid h.same_level (record { west = omega arith; east = omega arith; south = omega arith; north = omega arith }))) in
    record { same_level = h.same_level; first_column = omega arith; first_row = omega arith; inside = block; place = found.0; is_place = found.1 }

is_later : (b c d : Square) → HasPlace b c → HasPlace b d → IsBefore c d → IsLater (column_of b c) (row_of b c) (column_of b d) (row_of b d)
is_later b c d hc hd before =
    elim before.before [
      | inl lt ↦ absurd (omega (arith, lt, hc.same_level, hd.same_level))
      | inr same ↦
          elim same.1 [
            | inl lt ↦ record { columns = omega (arith, hc.first_column); later = omega (arith, lt, hc.first_column, hc.inside.row_in) }
            | inr row ↦ record { columns = omega (arith, row.0); later = omega (arith, row.0, row.1, hc.first_row) }
          ]
    ]

v_place : (tree : TreeModel) (points : List Point) (cap b : ℕ) (cells : List ℕ) → IsTreeOf tree points cap → b < size tree → IsListOf tree points cap V b cells → (n : ℕ) → n < length cells → HasPlace (square_of tree b) (square_of tree (slice_index cells n))
v_place tree points cap b cells is lb l n lt =
    let c : ℕ = slice_index cells n in
    let lc : c < size tree = l.numbers n 0 lt in
    let entry = (l.exact c lc).0 (Contains-get_or cells n 0 lt) in
    has_place (square_of tree b) (square_of tree c) (entry.pair.0.of_grid ∙ sym entry.pair.1.of_grid) entry.pair.2

-- the places of the cells of a V list rise
at_least : (tree : TreeModel) (points : List Point) (cap b : ℕ) (cells : List ℕ) → IsTreeOf tree points cap → b < size tree → IsListOf tree points cap V b cells → (n : ℕ) → n < length cells → (h : HasPlace (square_of tree b) (square_of tree (slice_index cells n))) → n ≤ h.place
at_least tree points cap b cells is lb l zero lt h = omega arith
at_least tree points cap b cells is lb l (suc n) lt h =
    let c : ℕ = slice_index cells n in
    let d : ℕ = slice_index cells (suc n) in
    let before = v_place tree points cap b cells is lb l n (omega arith) in
    let up : c < d = rw add-one at (l.ascending n (omega arith)) in
    let order = number_before tree is.cells_are.ascending c d up (l.numbers (suc n) 0 lt) in
    let rises = place_rises _ _ _ _ before.place _ _ h.place before.inside h.inside (is_later (square_of tree b) (square_of tree c) (square_of tree d) before h order) before.is_place h.is_place in
    omega (arith, rises, at_least tree points cap b cells is lb l n (omega arith) before)

pub v_list_is_short : (tree : TreeModel) (points : List Point) (cap b : ℕ) (cells : List ℕ) → IsTreeOf tree points cap → b < size tree → IsListOf tree points cap V b cells → length cells ≤ 27
v_list_is_short tree points cap b cells is lb l =
    elim (cases_lt 27 (length cells)) [
      | inr few ↦ few
      | inl many ↦
          let h = v_place tree points cap b cells is lb l 27 many in
          absurd (omega (arith, at_least tree points cap b cells is lb l 27 many h, place_below _ _ _ _ h.place h.inside h.is_place))
    ]

pub v_lists_are_short : (tree : TreeModel) (lists : EntryListsModel) → IsTree tree → AreLists tree lists → VListsAreShort lists
v_lists_are_short tree lists is are n d lt =
    let lb : n < size tree = omega (arith, are.as_many V) in
    let short = v_list_is_short tree is.points is.cap n (list_at lists.v n) is.is_tree lb (are.each is.points is.cap is.in_grid is.is_tree V n lb) in
    omega (arith, short, ap length (get_or_default lists.v n d [] lt))

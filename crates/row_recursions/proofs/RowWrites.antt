-- Rows while they are written: one box after another.
use Rattle.std.proofs.Common.{◌≡◌, ◌≢◌, ℕ, ◌<◌, ◌≤◌, ◌+◌, List, length, sym, subst, ap, ◌∙◌, arith, slice_set, slice_index_or, slice_get, Some, get_or-set_same, get_or-set_other, below_more, ◌+ℤ◌, ◌-ℤ◌, ℤ}
use Rattle.std.proofs.lemmas.Int.{ints}
use Rattle.std.proofs.lemmas.List.{get_or_read}
use Rattle.std.proofs.lemmas.Option.{get_or_from_slice_get}
use Rattle.exact_math.specs.Ends.{Ends, BoxEnds, zero_box, add_ends, add_box, take_ends, take_box}
use Rattle.fixed_interval.specs.Interval.{ends_of, AreEnds}
use Rattle.fixed_interval.specs.declared.Interval.{Interval}
use Rattle.fixed_interval.proofs.Ends.{ends-same, lower-same, upper-same}
use Rattle.fixed_interval.proofs.Sizes.{always_within}
use Rattle.complex_box.proofs.Ends.{parts-same}
use Rattle.complex_box.specs.Box.{box_ends, TakeFits}
use Rattle.complex_box.specs.Rows.{zero_cbox}
use Rattle.complex_box.specs.declared.CBox.{CBox}
use Rattle.row_recursions.specs.Rows.{row_of, RowsAdd, HasPart}

-- the box that was written
pub row_set-same : (xs : List CBox) (i : ℕ) (v : CBox) → i < length xs → row_of (slice_set xs i v) i ≡ box_ends v
row_set-same xs i v h = ap box_ends (get_or-set_same xs i v zero_cbox h)

-- and the others
pub row_set-other : (xs : List CBox) (i j : ℕ) (v : CBox) → j ≢ i → row_of (slice_set xs i v) j ≡ row_of xs j
row_set-other xs i j v h = ap box_ends (get_or-set_other xs i j v zero_cbox h)

-- the boxes below k are those of the new row, the others still those of the old one
pub record Written (old new : ℕ → BoxEnds) (k : ℕ) (cells : List CBox) : Type 0 where
  pub below : (j : ℕ) → j < k → row_of cells j ≡ new j
  pub above : (j : ℕ) → k ≤ j → row_of cells j ≡ old j

pub written-start : (old new : ℕ → BoxEnds) (cells : List CBox) → ((j : ℕ) → row_of cells j ≡ old j) → Written old new 0 cells
written-start old new cells h = record { below = λ j l. absurd (omega arith); above = λ j l. h j }

pub written-next : (old new : ℕ → BoxEnds) (k : ℕ) (cells : List CBox) (v : CBox) → k < length cells → box_ends v ≡ new k → Written old new k cells → Written old new (k + 1) (slice_set cells k v)
written-next old new k cells v h e w = record {
  below = below_more (λ j. row_of (slice_set cells k v) j ≡ new j) k
      (λ j l. row_set-other cells k j v (omega arith) ∙ w.below j l)
      (row_set-same cells k v h ∙ e);
  above = λ j l. row_set-other cells k j v (omega arith) ∙ w.above j (omega arith);
}

-- ---- taking away
kept_whole : (a b c : ℤ) → c ≡ a +ℤ b → a ≡ c -ℤ b
kept_whole a b c e = omega (arith, ints)

-- what stays of a sum without one part is the other
kept_ends : (rest part sum : Ends) → sum ≡ add_ends rest part → rest ≡ take_ends sum part
kept_ends rest part sum e = ends-same (kept_whole rest.lo part.lo sum.lo (lower-same e)) (kept_whole rest.hi part.hi sum.hi (upper-same e))

take_fits : (sum part : Ends) (rest : Interval) → sum ≡ add_ends (ends_of rest) part → AreEnds (take_ends sum part)
take_fits sum part rest e = subst AreEnds (kept_ends (ends_of rest) part sum e) (record { ordered = rest.ordered; within = always_within rest })

added_whole : (b c : ℤ) → c ≡ c -ℤ b +ℤ b
added_whole b c = omega (arith, ints)

pub take_adds : (part sum : BoxEnds) → sum ≡ add_box (take_box sum part) part
take_adds part sum =
    parts-same (ends-same (added_whole part.re.lo sum.re.lo) (added_whole part.re.hi sum.re.hi)) (ends-same (added_whole part.im.lo sum.im.lo) (added_whole part.im.hi sum.im.hi))

-- ---- reading
-- the box that an index gives
pub row_read : (xs : List CBox) (k : ℕ) (r : CBox) → k < length xs → r ≡ slice_index_or xs k r → box_ends r ≡ row_of xs k
row_read xs k r h e = ap box_ends (get_or_read xs k r h e zero_cbox)

pub row_got : (xs : List CBox) (k : ℕ) {r : CBox} → slice_get xs k ≡ Some r → box_ends r ≡ row_of xs k
row_got xs k {r} e = ap box_ends (sym (get_or_from_slice_get xs k r zero_cbox e))

-- a box of the sum and the one of its part
pub box_take_fits : (P k : ℕ) (sum part : ℕ → BoxEnds) (b c : CBox) → k < P → box_ends b ≡ sum k → box_ends c ≡ part k → HasPart P sum part → TakeFits (box_ends b) (box_ends c)
box_take_fits P k sum part b c l e f h =
    let g : box_ends b ≡ add_box (box_ends (h.rest k)) (box_ends c) = e ∙ h.adds k l ∙ ap (add_box (box_ends (h.rest k))) (sym f) in
    record {
      re = take_fits (ends_of b.re) (ends_of c.re) (h.rest k).re (ap (λ (x : BoxEnds). x.re) g);
      im = take_fits (ends_of b.im) (ends_of c.im) (h.rest k).im (ap (λ (x : BoxEnds). x.im) g);
    }

-- a sum that has a contribution in it has what was computed of it
pub has_part : (P : ℕ) (sum part contribution : ℕ → BoxEnds) → ((k : ℕ) → k < P → part k ≡ contribution k) → HasPart P sum contribution → HasPart P sum part
has_part P sum part contribution is h = record { rest = h.rest; adds = λ k l. h.adds k l ∙ ap (add_box (box_ends (h.rest k))) (sym (is k l)) }

-- a row that was zero has in it what was added
pub has_all : (P : ℕ) (old part sum : ℕ → BoxEnds) → RowsAdd P old part sum → ((k : ℕ) → k < P → old k ≡ zero_box) → HasPart P sum part
has_all P old part sum adds zero = record { rest = λ k. zero_cbox; adds = λ k h. adds k h ∙ ap (λ b. add_box b (part k)) (zero k h) }

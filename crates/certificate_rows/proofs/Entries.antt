-- The entries of a node by their numbers: which they are, what holds of each, and what is summed over those of a letter.
use Rattle.std.proofs.Common.{ℕ, ◌≡◌, ◌<◌, ◌≤◌, Bool, true, false, cond, ◌&&◌, List, [], length, get_or, map, filter, refl, sym, ap, ◌∙◌, subst, arith, max, inl, inr, ◌⊎◌}
use Rattle.std.specs.Prelude.{All, ◌==◌, sum_by, unsigned_abs, ℤ}
use Rattle.std.specs.List.{range_with_len}
use Rattle.std.proofs.lemmas.Bool.{cases_lt, cases_Bool, eq-eqb, eqb-true, ne_eqb, false≢true}
use Rattle.std.proofs.lemmas.Int.{ints}
use Rattle.std.proofs.lemmas.List.{same_lists, get_or-map, length-map}
use Rattle.std.proofs.lemmas.List.Elements.{All-filter, filter_passes}
use Rattle.std.proofs.lemmas.List.FromFn.{get_or-range_with_len, length-range_with_len, get_or-map-range_with_len, length-map-range_with_len}
use Rattle.exact_math.specs.Ends.{BoxEnds, zero_box}
use Rattle.exact_math.specs.Within.{Within}
use Rattle.exact_math.proofs.Lists.{filter-filter, filter-map, filter_same}
use Rattle.exact_math.proofs.WholeSizes.{within-size}
use Rattle.accounting_text.specs.Given.{given_entry}
use Rattle.cell_name.specs.Apart.{AreTwoOrThreeSidesApart}
use Rattle.cell_name.specs.Square.{Square}
use Rattle.cert_text.specs.Certificate.{Certificate, nth_line}
use Rattle.cert_text.specs.Lines.{Line, line}
use Rattle.kernel_table.specs.Kernel.{IsKernelDistance}
use Rattle.letters.specs.declared.Entry.{Entry}
use Rattle.letters.specs.declared.Letter.{Letter}
use Rattle.letters.specs.declared.Letter.TheVariants.{U, V, W, X}
use Rattle.points.specs.declared.Points.{Points}
use Rattle.soundness.specs.Accounts.{is_letter, entries_of}
use Rattle.soundness.specs.Squares.{sides_between}
use Rattle.soundness.specs.Steps.{total_box}
use Rattle.soundness.proofs.Sums.{total_box-map}
use Rattle.certificate_rules.specs.LineRules.{presented, IsFit, EntryHolds}
use Rattle.certificate_rows.specs.Entries.{nth_entry, HasDistance}
use Rattle.certificate_rows.specs.Given.{cell_at}
use Rattle.certificate_rows.proofs.Standing.{fewer, sum_by-map}
use Rattle.certificate_rows.proofs.Totals.{total_box-kept, sum_by-kept}

-- ---- the entries of a list by their numbers
map_numbers : (h : Line → Entry) (ls : List Line) → map (λ e. h (nth_line ls e)) (range_with_len 0 (length ls)) ≡ map h ls
map_numbers h ls = same_lists _ _ (length-map-range_with_len (λ e. h (nth_line ls e)) 0 (length ls) ∙ sym (length-map ls h)) (λ k d lt.
    let inside : k < length ls = omega (arith, lt, length-map-range_with_len (λ e. h (nth_line ls e)) 0 (length ls)) in
    get_or-map-range_with_len (λ e. h (nth_line ls e)) 0 (length ls) k k d inside (omega arith) ∙ sym (get_or-map h ls k (line [] []) d inside))

swapped : (a b : Bool) → a && b ≡ b && a
swapped true true = refl
swapped true false = refl
swapped false true = refl
swapped false false = refl

either_way : (m n : ℕ) → (m == n) ≡ (n == m)
either_way m n = elim (cases_Bool (m == n)) [
  | inl e ↦ e ∙ sym (eq-eqb n m (sym (eqb-true m n e)))
  | inr e ↦ e ∙ sym (ne_eqb n m (λ h. false≢true (sym e ∙ eq-eqb m n (sym h))))
]

module _ (c : Certificate) where
  -- the numbers of the entries whose b is a node
  abbrev pub numbers_at : ℕ → List ℕ
  numbers_at n = filter (λ e. (nth_entry c e).b == n) (range_with_len 0 (length c.entries))

  abbrev is_of : Letter → ℕ → Bool
  is_of letter e = is_letter letter (nth_entry c e).letter

  module _ (points : Points) (n : ℕ) (letter : Letter) where
    entries_are : map (nth_entry c) (filter (is_of letter) (numbers_at n)) ≡ entries_of (presented points c) letter n
    entries_are =
        let R : List ℕ = range_with_len 0 (length c.entries) in
        ap (map (nth_entry c)) (filter-filter (is_of letter) (λ e. (nth_entry c e).b == n) R
        ∙ filter_same (λ e. ((nth_entry c e).b == n) && is_of letter e) (λ e. is_of letter e && (n == (nth_entry c e).b)) R
        (λ k d lt. swapped ((nth_entry c (get_or R k d)).b == n) (is_of letter (get_or R k d)) ∙ ap (λ b. is_of letter (get_or R k d) && b) (either_way (nth_entry c (get_or R k d)).b n)))
        ∙ sym (filter-map (λ e. is_letter letter e.letter && (n == e.b)) (nth_entry c) R)
        ∙ ap (filter (λ e. is_letter letter e.letter && (n == e.b))) (map_numbers given_entry c.entries)

    -- the sum over all of them, where those of another letter add nothing
    pub total_of_letter : (f : Entry → BoxEnds) → total_box (λ e. cond (is_of letter e) (f (nth_entry c e)) zero_box) (numbers_at n) ≡ total_box f (entries_of (presented points c) letter n)
    total_of_letter f =
        total_box-kept (is_of letter) (λ e. f (nth_entry c e)) (numbers_at n)
        ∙ sym (total_box-map f (nth_entry c) (filter (is_of letter) (numbers_at n)))
        ∙ ap (total_box f) entries_are

    pub sum_of_letter : (f : Entry → ℕ) → sum_by (λ e. cond (is_of letter e) (f (nth_entry c e)) 0) (numbers_at n) ≡ sum_by f (entries_of (presented points c) letter n)
    sum_of_letter f =
        sum_by-kept (is_of letter) (λ e. f (nth_entry c e)) (numbers_at n)
        ∙ sym (sum_by-map f (nth_entry c) (filter (is_of letter) (numbers_at n)))
        ∙ ap (sum_by f) entries_are

  -- ---- what holds of each
  pub numbers_below : (n : ℕ) → All (λ e. e < length c.entries) (numbers_at n)
  numbers_below n = All-filter (λ e. (nth_entry c e).b == n) (λ e. e < length c.entries) (range_with_len 0 (length c.entries)) (λ k d lt.
      let inside : k < length c.entries = omega (arith, lt, length-range_with_len 0 (length c.entries)) in
      let at = get_or-range_with_len 0 (length c.entries) k d inside in
      omega (arith, at, inside))

  pub numbers_few : (n : ℕ) → length (numbers_at n) ≤ length c.entries
  numbers_few n = omega (arith, length-range_with_len 0 (length c.entries), fewer (λ e. (nth_entry c e).b == n) (range_with_len 0 (length c.entries)))

  module _ (points : Points) (hold : (e : ℕ) → e < length c.entries → EntryHolds points c e) (n : ℕ) where
    -- each fits its letter, with the node as its b
    pub fits : All (λ e. IsFit points c (nth_entry c e).letter n (nth_entry c e).c) (numbers_at n)
    fits k d lt =
        let e : ℕ = get_or (numbers_at n) k d in
        let here = eqb-true _ _ (filter_passes (λ e. (nth_entry c e).b == n) (range_with_len 0 (length c.entries)) k d lt) in
        subst (λ b. IsFit points c (nth_entry c e).letter b (nth_entry c e).c) here (hold e (numbers_below n k d lt))

    -- ---- V entries: a distance of the kernel away
    pub distances : All (λ e. HasDistance c (cell_at c n) (nth_entry c e)) (numbers_at n)
    distances k d lt = λ is.
        let e : ℕ = get_or (numbers_at n) k d in
        kernel_distance (cell_at c n) (cell_at c (nth_entry c e).c) (fit_v (nth_entry c e).letter n (nth_entry c e).c (fits k d lt) is).1
      where
        fit_v : (l : Letter) (b d : ℕ) → IsFit points c l b d → is_letter V l ≡ true → IsFit points c V b d
        fit_v V b d h is = h
        fit_v U b d h is = absurd (false≢true is)
        fit_v W b d h is = absurd (false≢true is)
        fit_v X b d h is = absurd (false≢true is)

        large : (m n : ℕ) → 2 ≤ max m n → (2 ≤ m) ⊎ (2 ≤ n)
        large m n h = elim (cases_lt m 2) [ inl lt ↦ inr (omega (arith, h, lt)) | inr le ↦ inl le ]

        small : (z : ℤ) → unsigned_abs z ≤ 3 → Within 3 z
        small z le = let w = within-size z in record { above = omega (arith, ints, w.above, le); below = omega (arith, ints, w.below, le) }

        kernel_distance : (b d : Square) → AreTwoOrThreeSidesApart b d → IsKernelDistance (sides_between b d)
        kernel_distance b d h = record {
          apart = large _ _ h.at_least_two;
          near = record { re = small _ (omega (arith, h.at_most_three)); im = small _ (omega (arith, h.at_most_three)) };
        }

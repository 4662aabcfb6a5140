-- Each target's box contains the direct sum: what the path of its leaf holds, the values of the W entries and the pairs of the U entries have each source once.
use Rattle.std.proofs.Common.{◌≡◌, sym, ap₂, subst, ◌∙◌, ℕ, ◌+◌, ◌^◌, ◌<◌, ◌≤◌, arith, true, ◌&&◌, List, get_or}
use Rattle.std.specs.Prelude.{◌==◌, pos, sum_by}
use Rattle.std.proofs.lemmas.List.Folds.{list_any_at}
use Rattle.exact_math.specs.Ends.{add_box, widen_box}
use Rattle.exact_math.specs.Gaussian.{Gaussian}
use Rattle.exact_math.proofs.RingTactic.{quotes, ring1, ring5}
use Rattle.exact_math.proofs.Sums.{sum_list, sum_list-congruence, sum_list-add}
use Rattle.exact_math.proofs.ListSums.{sum_list-filter}
use Rattle.exact_math.proofs.ComplexRationals.{ℂ, complex_rationals, ◌+ℂ◌}
use Rattle.exact_math.proofs.BoxEnclosures.{EnclosesBox, EnclosesBox-add, EnclosesBox-inside, contained_from_enclosed}
use Rattle.cell_name.specs.Square.{side}
use Rattle.letters.specs.declared.Entry.{Entry}
use Rattle.letters.specs.declared.Letter.{Letter}
use Rattle.letters.specs.declared.Letter.TheVariants.{U, V, W, X}
use Rattle.near_field.specs.Pair.{pair_box}
use Rattle.row_recursions.specs.Rows.{multipole_value}
use Rattle.soundness.specs.Squares.{offset, IsIn, IsFarFrom}
use Rattle.soundness.specs.Accounts.{LeafTarget, Accounting, is_letter, under, sources_under, entries_of, reaches, accounts, points_of}
use Rattle.soundness.specs.Computed.{total_box, weight_of_entry, computed_local_row, computed_local_radius, local_at, multipoles_at, pairs_at, target_radius}
use Rattle.soundness.specs.Rules.{RowInside, IsTiled, LocalHolds, Rules}
use Rattle.soundness.specs.Soundness.{RulesImplyContainment}
use Rattle.truncation.specs.Tails.{single_loss}
use Rattle.soundness.proofs.Boxes.{slack, IsNear, IsNear-add, IsNear-sum, EnclosesBox-total, EnclosesBox-widen}
use Rattle.soundness.proofs.Choices.{when, sum_list-filter_and, sum_list-once}
use Rattle.soundness.proofs.Entries.{multipole_sum, multipole_held, multipole_near}
use Rattle.soundness.proofs.Fields.{Local-value}
use Rattle.soundness.proofs.Multipoles.{multipoles_held}
use Rattle.soundness.proofs.Nodes.{under-self, under-le}
use Rattle.soundness.proofs.Paths.{IsOn, entries_on, sources_held, terms_of, pair_cuts, far_cuts, on_path, local_held, path_near}
use Rattle.soundness.proofs.Terms.{term_in_units, pair_holds, direct_sum-stands, direct_sum-in_units}

module _ (P : ℕ) (A : Accounting) (order : 2 ≤ P) (rules : Rules P A) (t : Gaussian) (leaf : ℕ) where
  abbrev terms : Entry → ℂ
  terms e = terms_of P A order rules t e

  abbrev all_terms : ℂ
  all_terms = sum_list complex_rationals (term_in_units t) A.sources

  abbrev sum_of : List Entry → ℂ
  sum_of es = sum_list complex_rationals terms es

  -- ---- each source once: over the entries that reach the leaf
  by_entries : IsTiled A leaf
      → all_terms ≡ sum_list complex_rationals (λ e. when complex_rationals (reaches A e.letter e.b leaf) (terms e)) A.entries
  by_entries once =
      sum_list-once complex_rationals (accounts A leaf) (term_in_units t) A.sources A.entries once
      ∙ sum_list-congruence complex_rationals _ _ A.entries (λ e. sum_list-filter_and complex_rationals (reaches A e.letter e.b leaf) (λ x. under A.parent x.leaf e.c) (term_in_units t) A.sources)

  -- the four letters apart
  four : (l : Letter) (b : ℕ) (x : ℂ) → when complex_rationals (reaches A l b leaf) x
      ≡ when complex_rationals (is_letter U l && (leaf == b)) x +ℂ when complex_rationals (is_letter W l && (leaf == b)) x
      +ℂ (when complex_rationals (is_letter V l && under A.parent leaf b) x +ℂ when complex_rationals (is_letter X l && under A.parent leaf b) x)
  four U b x = ring1 complex_rationals (when complex_rationals (leaf == b) x) (λ y. search quotes depth 9) tt
  four V b x = ring1 complex_rationals (when complex_rationals (under A.parent leaf b) x) (λ y. search quotes depth 9) tt
  four W b x = ring1 complex_rationals (when complex_rationals (leaf == b) x) (λ y. search quotes depth 9) tt
  four X b x = ring1 complex_rationals (when complex_rationals (under A.parent leaf b) x) (λ y. search quotes depth 9) tt

  by_letters : sum_list complex_rationals (λ e. when complex_rationals (reaches A e.letter e.b leaf) (terms e)) A.entries
      ≡ sum_of (entries_of A U leaf) +ℂ sum_of (entries_of A W leaf) +ℂ on_path P A order rules terms terms leaf
  by_letters =
      sum_list-congruence complex_rationals _ _ A.entries (λ e. four e.letter e.b (terms e))
      ∙ sum_list-add complex_rationals _ _ A.entries
      ∙ ap₂ ◌+ℂ◌ (sum_list-add complex_rationals _ _ A.entries) (sum_list-add complex_rationals _ _ A.entries)
      ∙ sym (ap₂ ◌+ℂ◌
      (ap₂ ◌+ℂ◌ (sum_list-filter complex_rationals _ terms A.entries) (sum_list-filter complex_rationals _ terms A.entries))
      (ap₂ ◌+ℂ◌ (sum_list-filter complex_rationals _ terms A.entries) (sum_list-filter complex_rationals _ terms A.entries)))

  -- ---- the U entries of the leaf
  pairs_held : EnclosesBox (pairs_at P A leaf t) (sum_of (entries_of A U leaf))
  pairs_held = EnclosesBox-total (λ e. total_box (λ x. pair_box t x.point) (sources_under A e.c)) terms (entries_of A U leaf)
      (λ k d i. EnclosesBox-total (λ x. pair_box t x.point) (term_in_units t) (sources_under A (get_or (entries_of A U leaf) k d).c)
      (λ l x j. pair_holds t (get_or (sources_under A (get_or (entries_of A U leaf) k d).c) l x)))

  -- ---- its W entries
  abbrev multipole_cuts : Entry → ℂ
  multipole_cuts e = multipole_sum P (A.cell e.c) (sources_under A e.c) t

  module _ (far : (e : Entry) → IsOn A W leaf e → IsFarFrom (A.cell e.c) t) where
    values_held : EnclosesBox (multipoles_at P A leaf t) (sum_list complex_rationals multipole_cuts (entries_of A W leaf))
    values_held = EnclosesBox-total (λ e. multipole_value P (A.multipole e.c) (side (A.cell e.c)) (offset (A.cell e.c) t)) multipole_cuts (entries_of A W leaf)
        (λ k d i. one (get_or (entries_of A W leaf) k d) (entries_on P A order rules W leaf k d i))
      where
        one : (e : Entry) → IsOn A W leaf e → EnclosesBox (multipole_value P (A.multipole e.c) (side (A.cell e.c)) (offset (A.cell e.c) t)) (multipole_cuts e)
        one e h = multipole_held P (A.cell e.c) (sources_under A e.c) (A.multipole e.c) t (far e h) (multipoles_held P A rules e.c h.in_range)

    values_near : IsNear (sum_by (λ e. single_loss P (weight_of_entry P A e) (side (A.cell e.c))) (entries_of A W leaf)) (sum_of (entries_of A W leaf)) (sum_list complex_rationals multipole_cuts (entries_of A W leaf))
    values_near = IsNear-sum terms multipole_cuts (λ e. single_loss P (weight_of_entry P A e) (side (A.cell e.c))) (entries_of A W leaf) (λ k d i. one (get_or (entries_of A W leaf) k d) (entries_on P A order rules W leaf k d i))
      where
        one : (e : Entry) → IsOn A W leaf e → IsNear (single_loss P (weight_of_entry P A e) (side (A.cell e.c))) (terms e) (multipole_cuts e)
        one e h = multipole_near P (A.cell e.c) t (sources_under A e.c) order (far e h) (sources_held P A order rules e.c)

    -- ---- all together
    module _ (leaf_in : leaf < A.nodes) (in_leaf : IsIn (A.cell leaf) t)
        (locals : (n : ℕ) → under A.parent leaf n ≡ true → LocalHolds P A n) (tiled : IsTiled A leaf) where
      rows : (n : ℕ) → under A.parent leaf n ≡ true → RowInside P (computed_local_row P A n) (A.local n)
      rows n u = (locals n u).row

      radii : (n : ℕ) → under A.parent leaf n ≡ true → computed_local_radius P A n ≤ A.radius n
      radii n u = (locals n u).radius

      on_leaf : under A.parent leaf leaf ≡ true
      on_leaf = under-self A.parent rules.root rules.parents leaf

      abbrev path_cuts : ℂ
      path_cuts = on_path P A order rules (pair_cuts P A order rules t) (far_cuts P A order rules t) leaf

      -- what the parts hold before they are widened
      abbrev held : ℂ
      held = path_cuts +ℂ (sum_list complex_rationals multipole_cuts (entries_of A W leaf) +ℂ sum_of (entries_of A U leaf))

      parts_held : EnclosesBox (add_box (local_at P A leaf t) (add_box (multipoles_at P A leaf t) (pairs_at P A leaf t))) held
      parts_held = EnclosesBox-add
          (Local-value P (A.cell leaf) (λ t. on_path P A order rules (pair_cuts P A order rules t) (far_cuts P A order rules t) leaf) (A.local leaf) t (local_held P A order rules t leaf leaf_in in_leaf rows leaf on_leaf))
          (EnclosesBox-add values_held pairs_held)

      -- the path and the W entries are near their terms, and the U entries exact
      gathered : (p p' w w' u : ℂ) {m n : ℕ} → IsNear m p p' → IsNear n w w' → IsNear (m + n) (u +ℂ w +ℂ p) (p' +ℂ (w' +ℂ u))
      gathered p p' w w' u {m} {n} h k = subst (EnclosesBox (slack (m + n))) (ring5 complex_rationals p p' w w' u (λ p q w x u. search quotes depth 12) tt) (IsNear-add p p' w w' h k)

      all_near : IsNear (target_radius P A leaf) all_terms held
      all_near = subst (λ z. IsNear (target_radius P A leaf) z held) (sym (by_entries tiled ∙ by_letters))
          (gathered _ _ _ _ (sum_of (entries_of A U leaf)) (path_near P A order rules t leaf leaf_in in_leaf radii leaf on_leaf) values_near)

      pub box_held : EnclosesBox (widen_box (add_box (local_at P A leaf t) (add_box (multipoles_at P A leaf t) (pairs_at P A leaf t))) (pos (target_radius P A leaf))) all_terms
      box_held = EnclosesBox-widen (target_radius P A leaf) all_terms held all_near parts_held

-- the theorem
pub boxes_contain : RulesImplyContainment
boxes_contain P A order rules k d i =
    contained_from_enclosed (pos (2 ^ 40)) target.box (direct_sum-stands target.place (points_of A.sources))
    (subst (EnclosesBox target.box) (sym (direct_sum-in_units target.place A.sources))
    (EnclosesBox-inside (rules.boxes k d i)
    (box_held P A order rules target.place target.leaf far (rules.targets k d i).in_range (rules.targets k d i).held locals (rules.tiled k d i))))
  where
    target : LeafTarget
    target = get_or A.targets k d

    locals : (n : ℕ) → under A.parent target.leaf n ≡ true → LocalHolds P A n
    locals n u =
        let l = under-le A.parent rules.root rules.parents target.leaf n u in
        let r = (rules.targets k d i).in_range in
        rules.locals n (omega (arith, l, r)) (list_any_at (λ t. under A.parent t.leaf n) A.targets k d i u)

    far : (e : Entry) → IsOn A W target.leaf e → IsFarFrom (A.cell e.c) target.place
    far e h = h.apart k d i (under-self A.parent rules.root rules.parents target.leaf)

-- Each given multipole row contains the moments of the sources under its node.
use Rattle.std.proofs.Common.{◌≡◌, sym, ap, subst, ◌∙◌, ℕ, zero, suc, ◌+◌, ◌<◌, ◌≤◌, arith, true, false, List, get_or}
use Rattle.std.specs.Prelude.{pos, ◌^◌, ◌==◌, nat_lt, [], ◌∷◌, All}
use Rattle.std.specs.List.{range_with_len}
use Rattle.std.proofs.lemmas.List.FromFn.{length-range_with_len, get_or-range_with_len}
use Rattle.std.proofs.lemmas.List.Elements.{All-filter, filter_passes}
use Rattle.std.proofs.lemmas.Bool.{ltb-true, eqb-true, cases_Bool, and_parts, true≢false}
use mathlib.Core.Logic.{⊎_elim}
use Rattle.exact_math.specs.Ends.{BoxEnds}
use Rattle.exact_math.proofs.Sums.{sum_list, sum_list-mul}
use Rattle.exact_math.proofs.ListSums.{sum_list-map}
use Rattle.exact_math.proofs.ComplexRationals.{ℂ, complex_rationals, ◌*ℂ◌}
use Rattle.exact_math.proofs.BoxEnclosures.{EnclosesBox, enclosed_from_contained, contained_from_enclosed}
use Rattle.exact_math.proofs.EndsBridges.{BoxEndsContain-inside}
use Rattle.cell_name.specs.Square.{Square, side}
use Rattle.points.specs.Points.{place, strength}
use Rattle.row_recursions.specs.Moments.{HoldsMoments}
use Rattle.row_recursions.specs.Rows.{shifted_up}
use Rattle.row_recursions.proofs.BoxSums.{units}
use Rattle.row_recursions.proofs.MomentLaws.{exact_of, Stands-moment, moments_up}
use Rattle.row_recursions.proofs.Points.{strength_moments}
use Rattle.soundness.specs.Squares.{doubled_centre, quadrant, IsQuarterOf}
use Rattle.soundness.specs.Accounts.{LeafSource, Accounting, names_parent, is_leaf, children, sources_under}
use Rattle.soundness.specs.Computed.{total_row, shifted_rows}
use Rattle.soundness.specs.Rules.{RowInside, Rules}
use Rattle.soundness.proofs.Boxes.{EnclosesBox-total}
use Rattle.soundness.proofs.Nodes.{sum-children}
use Rattle.soundness.proofs.Places.{side_positive, side_of-quarter, centre_of-quarter}
use Rattle.soundness.proofs.Terms.{source_in, sources_in}
use Rattle.row_recursions.specs.Cells.{moments_in}

-- the row of a cell contains the moments of these sources
abbrev pub HoldsIn : ℕ → Square → List LeafSource → (ℕ → BoxEnds) → Type 0
HoldsIn P c xs m = HoldsMoments P (side c) (doubled_centre c) (sources_in xs) m

-- ---- rows of one cell
module _ (P : ℕ) (c : Square) where
  -- the exact moment k of one source
  abbrev moment_at : ℕ → LeafSource → ℂ
  moment_at k x = exact_of (side c) (doubled_centre c) k (source_in x)

  -- in units
  abbrev moments_at : List LeafSource → ℕ → ℂ
  moments_at xs k = units *ℂ sum_list complex_rationals (moment_at k) xs

  abbrev listed : List LeafSource → ℕ → ℂ
  listed xs k = units *ℂ sum_list complex_rationals (exact_of (side c) (doubled_centre c) k) (sources_in xs)

  listed-is : (xs : List LeafSource) (k : ℕ) → listed xs k ≡ moments_at xs k
  listed-is xs k = ap (λ z. units *ℂ z) (sum_list-map complex_rationals (exact_of (side c) (doubled_centre c) k) source_in xs)

  moments_from : (xs : List LeafSource) (m : ℕ → BoxEnds) → HoldsIn P c xs m → (k : ℕ) → k < P → EnclosesBox (m k) (moments_at xs k)
  moments_from xs m h k l = subst (EnclosesBox (m k)) (listed-is xs k) (enclosed_from_contained (pos (2 ^ 40)) (m k) (Stands-moment (side c) (doubled_centre c) (sources_in xs) k (side_positive c)) (h.contains k l))

  moments_to : (xs : List LeafSource) (m : ℕ → BoxEnds) → ((k : ℕ) → k < P → EnclosesBox (m k) (moments_at xs k)) → HoldsIn P c xs m
  moments_to xs m h = record {
    contains = λ k l. contained_from_enclosed (pos (2 ^ 40)) (m k) (Stands-moment (side c) (doubled_centre c) (sources_in xs) k (side_positive c)) (subst (EnclosesBox (m k)) (sym (listed-is xs k)) (h k l));
  }

  pub HoldsIn-inside : (xs : List LeafSource) (m n : ℕ → BoxEnds) → RowInside P m n → HoldsIn P c xs m → HoldsIn P c xs n
  HoldsIn-inside xs m n i h = record { contains = λ k l. BoxEndsContain-inside (h.contains k l) (i k l) }

  -- the sum over sources
  pub HoldsIn-sources : (xs : List LeafSource) → HoldsIn P c xs (total_row (λ x. moments_in c x.point) xs)
  HoldsIn-sources xs = moments_to xs (total_row (λ x. moments_in c x.point) xs) (λ k l. subst (EnclosesBox (total_row (λ x. moments_in c x.point) xs k)) (sum_list-mul complex_rationals units (moment_at k) xs)
      (EnclosesBox-total (λ x. moments_in c x.point k) (λ x. units *ℂ moment_at k x) xs (λ i d h. one k l (get_or xs i d))))
    where
      one : (k : ℕ) → k < P → (x : LeafSource) → EnclosesBox (moments_in c x.point k) (units *ℂ moment_at k x)
      one k l x = subst (λ z. EnclosesBox (moments_in c x.point k) (units *ℂ z)) (complex_rationals.add_zero (moment_at k x))
          (moments_from (x ∷ []) (moments_in c x.point) (strength_moments P (side c) (doubled_centre c) (place x.point) (strength x.point.kind) (side_positive c)) k l)

  -- the sum over rows of parts of the sources
  pub HoldsIn-parts : {Part : Type 0} (row : Part → ℕ → BoxEnds) (part : Part → List LeafSource) (parts : List Part) (xs : List LeafSource)
      → All (λ d. HoldsIn P c (part d) (row d)) parts
      → ((f : LeafSource → ℂ) → sum_list complex_rationals (λ d. sum_list complex_rationals f (part d)) parts ≡ sum_list complex_rationals f xs)
      → HoldsIn P c xs (total_row row parts)
  HoldsIn-parts {Part} row part parts xs each sums = moments_to xs (total_row row parts) (λ k l. subst (EnclosesBox (total_row row parts k))
      (sum_list-mul complex_rationals units (λ d. sum_list complex_rationals (moment_at k) (part d)) parts ∙ ap (λ z. units *ℂ z) (sums (moment_at k)))
      (EnclosesBox-total (λ d. row d k) (λ d. moments_at (part d) k) parts (λ i d h. moments_from (part (get_or parts i d)) (row (get_or parts i d)) (each i d h) k l)))

-- from a quarter to its parent
HoldsIn-up : (P : ℕ) (d c : Square) (xs : List LeafSource) (m : ℕ → BoxEnds) → IsQuarterOf d c → HoldsIn P d xs m → HoldsIn P c xs (shifted_up m (quadrant d))
HoldsIn-up P d c xs m q h =
    subst (λ s. HoldsMoments P s (doubled_centre c) (sources_in xs) (shifted_up m (quadrant d))) (sym (side_of-quarter d c q))
    (moments_up P (side d) (quadrant d) (doubled_centre c) (sources_in xs) m (side_positive d)
    (subst (λ g. HoldsMoments P (side d) g (sources_in xs) m) (centre_of-quarter d c q) h))

-- ---- the rows of an accounting
module _ (P : ℕ) (A : Accounting) (rules : Rules P A) where
  abbrev pub Held : ℕ → Type 0
  Held n = HoldsIn P (A.cell n) (sources_under A n) (A.multipole n)

  leaf_held : (n : ℕ) → n < A.nodes → is_leaf A n ≡ true → Held n
  leaf_held n l e = HoldsIn-inside P (A.cell n) (sources_under A n) _ (A.multipole n) ((rules.multipoles n l).of_leaf e) (HoldsIn-sources P (A.cell n) (sources_under A n))

  child_is : (n d : ℕ) → names_parent A n d ≡ true → (0 < d) × (A.parent d ≡ n)
  child_is n d e = let p = and_parts (nat_lt 0 d) (A.parent d == n) e in (ltb-true 0 d p.0, eqb-true _ _ p.1)

  inner_held : (n : ℕ) → n < A.nodes → is_leaf A n ≡ false → ((d : ℕ) → n < d → d < A.nodes → Held d) → Held n
  inner_held n l e ih = HoldsIn-inside P (A.cell n) (sources_under A n) (shifted_rows A n) (A.multipole n) ((rules.multipoles n l).of_inner e)
      (HoldsIn-parts P (A.cell n) (λ d. shifted_up (A.multipole d) (quadrant (A.cell d))) (sources_under A) (children A n) (sources_under A n)
      (λ k d i. at_child (get_or (children A n) k d) (All-filter (names_parent A n) (λ d. d < A.nodes) (range_with_len 0 A.nodes) in_range k d i) (filter_passes (names_parent A n) (range_with_len 0 A.nodes) k d i))
      (λ f. sum-children A.parent rules.root rules.parents complex_rationals A.nodes (λ x. x.leaf) f A.sources n elsewhere))
    where
      in_range : All (λ d. d < A.nodes) (range_with_len 0 A.nodes)
      in_range k d i = below (omega (arith, length-range_with_len 0 A.nodes))
        where
          below : k < A.nodes → get_or (range_with_len 0 A.nodes) k d < A.nodes
          below h = omega (arith, get_or-range_with_len 0 A.nodes k d h)

      elsewhere : All (λ x. (x.leaf < A.nodes) × (x.leaf ≡ n → ⊥)) A.sources
      elsewhere k d i = let p = rules.sources k d i in (p.in_range, λ h. true≢false (sym p.leaf ∙ ap (is_leaf A) h ∙ e))

      at_child : (d : ℕ) → d < A.nodes → names_parent A n d ≡ true → HoldsIn P (A.cell n) (sources_under A d) (shifted_up (A.multipole d) (quadrant (A.cell d)))
      at_child d h t =
          let c = child_is n d t in
          subst (λ m. HoldsIn P (A.cell m) (sources_under A d) (shifted_up (A.multipole d) (quadrant (A.cell d)))) c.1
          (HoldsIn-up P (A.cell d) (A.cell (A.parent d)) (sources_under A d) (A.multipole d) (rules.quarters d c.0 h) (ih d (above c.0 c.1) h))
        where
          above : 0 < d → A.parent d ≡ n → n < d
          above p q = let r = rules.parents d p in omega arith

  -- from the highest number down
  from_above : (k n : ℕ) → A.nodes ≤ n + k → n < A.nodes → Held n
  from_above zero n h l = absurd (omega arith)
  from_above (suc k) n h l = ⊎_elim (leaf_held n l) (λ e. inner_held n l e (λ d m i. from_above k d (omega arith) i)) (cases_Bool (is_leaf A n))

  pub multipoles_held : (n : ℕ) → n < A.nodes → Held n
  multipoles_held n l = from_above A.nodes n (omega arith) l

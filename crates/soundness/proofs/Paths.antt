-- On the path from the root to a target's leaf: local rows hold the cut terms of the V and X entries, and radii bound how far these are from the terms.
use Rattle.std.proofs.Common.{◌≡◌, refl, sym, ap, ap₂, subst, subst₂, ◌∙◌, ℕ, zero, suc, ◌+◌, ◌<◌, ◌≤◌, arith, Bool, true, ◌&&◌, List, get_or}
use Rattle.std.specs.Prelude.{◌==◌, filter, All, sum_by}
use Rattle.std.proofs.lemmas.List.Elements.{All-filter, filter_passes}
use Rattle.std.proofs.lemmas.Bool.{eqb-true, and_parts, false≢true}
use Rattle.exact_math.specs.Ends.{add_box}
use Rattle.exact_math.specs.Gaussian.{Gaussian}
use Rattle.exact_math.proofs.RingTactic.{quotes, ring4}
use Rattle.exact_math.proofs.Sums.{sum_list}
use Rattle.exact_math.proofs.ComplexRationals.{ℂ, complex_rationals, ◌+ℂ◌}
use Rattle.cell_name.specs.Square.{side}
use Rattle.letters.specs.declared.Entry.{Entry}
use Rattle.letters.specs.declared.Letter.{Letter}
use Rattle.letters.specs.declared.Letter.TheVariants.{U, V, W, X}
use Rattle.kernel_table.specs.Kernel.{kernel_entry}
use Rattle.points.specs.Points.{place}
use Rattle.row_recursions.specs.Rows.{converted}
use Rattle.soundness.specs.Squares.{sides_between, IsIn, IsFarFrom}
use Rattle.soundness.specs.Accounts.{LeafSource, Accounting, is_letter, under, sources_under, entries_of}
use Rattle.soundness.specs.Computed.{total_row, weight_of_entry, brought_down, converted_rows, far_rows, computed_local_row, computed_local_radius}
use Rattle.soundness.specs.Rules.{RowInside, Apart, Rules}
use Rattle.truncation.specs.Tails.{pair_loss, single_loss}
use Rattle.soundness.proofs.Boxes.{IsNear, IsNear-wider, IsNear-add, IsNear-sum}
use Rattle.soundness.proofs.Choices.{zero_left}
use Rattle.soundness.proofs.Entries.{pair_sum, far_sum, pair_row, far_row, pair_near, far_near}
use Rattle.soundness.proofs.Fields.{Local, Local-same, Local-inside, Local-zero, Local-add, Local-total, Local-down}
use Rattle.soundness.proofs.Multipoles.{multipoles_held}
use Rattle.soundness.proofs.Nodes.{strong, under-le, under-up, sum-path, sum-root}
use Rattle.soundness.proofs.Places.{IsIn-above}
use Rattle.soundness.proofs.Terms.{term_in_units}
use Rattle.row_recursions.specs.Cells.{far_coefficients_in}

pub letter_is : (a b : Letter) → is_letter a b ≡ true → a ≡ b
letter_is U U e = refl
letter_is U V e = absurd (false≢true e)
letter_is U W e = absurd (false≢true e)
letter_is U X e = absurd (false≢true e)
letter_is V U e = absurd (false≢true e)
letter_is V V e = refl
letter_is V W e = absurd (false≢true e)
letter_is V X e = absurd (false≢true e)
letter_is W U e = absurd (false≢true e)
letter_is W V e = absurd (false≢true e)
letter_is W W e = refl
letter_is W X e = absurd (false≢true e)
letter_is X U e = absurd (false≢true e)
letter_is X V e = absurd (false≢true e)
letter_is X W e = absurd (false≢true e)
letter_is X X e = refl

-- an entry of a letter on a node
pub record IsOn (A : Accounting) (letter : Letter) (n : ℕ) (e : Entry) : Type 0 where
  pub in_range : e.c < A.nodes
  pub apart : Apart A letter n e.c
  pub node : n ≡ e.b

module _ (P : ℕ) (A : Accounting) (order : 2 ≤ P) (rules : Rules P A) where
  -- ---- the entries on a node
  pub entries_on : (letter : Letter) (n : ℕ) → All (IsOn A letter n) (entries_of A letter n)
  entries_on letter n k d i = on_node (get_or (entries_of A letter n) k d)
      (All-filter test (λ e. (e.c < A.nodes) × Apart A e.letter e.b e.c) A.entries (λ k d i. (rules.in_range k d i, rules.apart k d i)) k d i)
      (filter_passes test A.entries k d i)
    where
      test : Entry → Bool
      test e = is_letter letter e.letter && (n == e.b)

      on_node : (e : Entry) → (e.c < A.nodes) × Apart A e.letter e.b e.c → is_letter letter e.letter && (n == e.b) ≡ true → IsOn A letter n e
      on_node e p h =
          let q = and_parts (is_letter letter e.letter) (n == e.b) h in
          record { in_range = p.0; apart = subst₂ (λ l m. Apart A l m e.c) (sym (letter_is letter e.letter q.0)) (sym (eqb-true n e.b q.1)) p.1; node = eqb-true n e.b q.1 }

  -- the sources under a node are in its cell
  pub sources_held : (c : ℕ) → All (λ x. IsIn (A.cell c) (place x.point)) (sources_under A c)
  sources_held c k d i = held (get_or (sources_under A c) k d)
      (All-filter (λ x. under A.parent x.leaf c) (λ x. (x.leaf < A.nodes) × IsIn (A.cell x.leaf) (place x.point)) A.sources (λ k d i. ((rules.sources k d i).in_range, (rules.sources k d i).held)) k d i)
      (filter_passes (λ x. under A.parent x.leaf c) A.sources k d i)
    where
      held : (x : LeafSource) → (x.leaf < A.nodes) × IsIn (A.cell x.leaf) (place x.point) → under A.parent x.leaf c ≡ true → IsIn (A.cell c) (place x.point)
      held x p h = IsIn-above A.parent rules.root rules.parents A.nodes A.cell rules.quarters (place x.point) x.leaf c p.0 p.1 h

  -- those under the c of an X entry are far from its cell
  far_sources : (n c : ℕ) → Apart A X n c → All (λ x. IsFarFrom (A.cell n) (place x.point)) (sources_under A c)
  far_sources n c far k d i = All-filter (λ x. under A.parent x.leaf c) (λ x. under A.parent x.leaf c ≡ true → IsFarFrom (A.cell n) (place x.point)) A.sources far k d i
      (filter_passes (λ x. under A.parent x.leaf c) A.sources k d i)

  -- ---- the terms and the cut terms of the sources under an entry's c
  abbrev pub terms_of : Gaussian → Entry → ℂ
  terms_of t e = sum_list complex_rationals (term_in_units t) (sources_under A e.c)

  abbrev pub pair_cuts : Gaussian → Entry → ℂ
  pair_cuts t e = pair_sum P (A.cell e.b) (A.cell e.c) (sources_under A e.c) t

  abbrev pub far_cuts : Gaussian → Entry → ℂ
  far_cuts t e = far_sum P (A.cell e.b) (sources_under A e.c) t

  -- over the V and the X entries on a node, and on it and its ancestors
  abbrev pub on_node : (Entry → ℂ) → (Entry → ℂ) → ℕ → ℂ
  on_node f g n = sum_list complex_rationals f (entries_of A V n) +ℂ sum_list complex_rationals g (entries_of A X n)

  abbrev pub path_of : Letter → ℕ → List Entry
  path_of letter n = filter (λ e. is_letter letter e.letter && under A.parent n e.b) A.entries

  abbrev pub on_path : (Entry → ℂ) → (Entry → ℂ) → ℕ → ℂ
  on_path f g n = sum_list complex_rationals f (path_of V n) +ℂ sum_list complex_rationals g (path_of X n)

  on_path-root : (f g : Entry → ℂ) → on_path f g 0 ≡ on_node f g 0
  on_path-root f g = ap₂ ◌+ℂ◌
      (sum-root A.parent rules.root rules.parents complex_rationals (λ e. is_letter V e.letter) (λ e. e.b) f A.entries)
      (sum-root A.parent rules.root rules.parents complex_rationals (λ e. is_letter X e.letter) (λ e. e.b) g A.entries)

  on_path-parent : (f g : Entry → ℂ) (n : ℕ) → 0 < n → on_path f g n ≡ on_path f g (A.parent n) +ℂ on_node f g n
  on_path-parent f g n h =
      ap₂ ◌+ℂ◌
      (sum-path A.parent rules.root rules.parents complex_rationals (λ e. is_letter V e.letter) (λ e. e.b) f A.entries n h)
      (sum-path A.parent rules.root rules.parents complex_rationals (λ e. is_letter X e.letter) (λ e. e.b) g A.entries n h)
      ∙ ring4 complex_rationals (sum_list complex_rationals f (path_of V (A.parent n))) (sum_list complex_rationals f (entries_of A V n))
      (sum_list complex_rationals g (path_of X (A.parent n))) (sum_list complex_rationals g (entries_of A X n)) (λ a b c d. search quotes depth 9) tt

  -- ---- what the entries on a node add to its local row
  converted_held : (n : ℕ) → Local P (A.cell n) (λ t. sum_list complex_rationals (pair_cuts t) (entries_of A V n)) (converted_rows P A n)
  converted_held n = Local-total P (A.cell n) (λ e t. pair_cuts t e) (λ e. converted P (kernel_entry (sides_between (A.cell n) (A.cell e.c))) (A.multipole e.c)) (entries_of A V n)
      (λ k d i. one (get_or (entries_of A V n) k d) (entries_on V n k d i))
    where
      one : (e : Entry) → IsOn A V n e → Local P (A.cell n) (λ t. pair_cuts t e) (converted P (kernel_entry (sides_between (A.cell n) (A.cell e.c))) (A.multipole e.c))
      one e h = Local-same P (A.cell n) (pair_sum P (A.cell n) (A.cell e.c) (sources_under A e.c)) (λ t. pair_cuts t e) _ (λ t. ap (λ m. pair_sum P (A.cell m) (A.cell e.c) (sources_under A e.c) t) h.node)
          (pair_row P (A.cell n) (A.cell e.c) (sources_under A e.c) (A.multipole e.c) h.apart (multipoles_held P A rules e.c h.in_range))

  far_held : (n : ℕ) → Local P (A.cell n) (λ t. sum_list complex_rationals (far_cuts t) (entries_of A X n)) (far_rows P A n)
  far_held n = Local-total P (A.cell n) (λ e t. far_cuts t e) (λ e. total_row (λ x. far_coefficients_in (A.cell n) x.point) (sources_under A e.c)) (entries_of A X n)
      (λ k d i. one (get_or (entries_of A X n) k d) (entries_on X n k d i))
    where
      one : (e : Entry) → IsOn A X n e → Local P (A.cell n) (λ t. far_cuts t e) (total_row (λ x. far_coefficients_in (A.cell n) x.point) (sources_under A e.c))
      one e h = Local-same P (A.cell n) (far_sum P (A.cell n) (sources_under A e.c)) (λ t. far_cuts t e) _ (λ t. ap (λ m. far_sum P (A.cell m) (sources_under A e.c) t) h.node)
          (far_row P (A.cell n) (sources_under A e.c) (far_sources n e.c h.apart))

  -- ---- one target's path
  module _ (t : Gaussian) (leaf : ℕ) (leaf_in : leaf < A.nodes) (in_leaf : IsIn (A.cell leaf) t) where
    in_nodes : (n : ℕ) → under A.parent leaf n ≡ true → n < A.nodes
    in_nodes n h = let l = under-le A.parent rules.root rules.parents leaf n h in omega arith

    up : (n : ℕ) → under A.parent leaf (suc n) ≡ true → under A.parent leaf (A.parent (suc n)) ≡ true
    up n h = under-up A.parent rules.root rules.parents leaf (suc n) (omega arith) h

    module _ (rows : (n : ℕ) → under A.parent leaf n ≡ true → RowInside P (computed_local_row P A n) (A.local n)) where
      abbrev Held : ℕ → Type 0
      Held n = Local P (A.cell n) (λ t. on_path (pair_cuts t) (far_cuts t) n) (A.local n)

      added : (n : ℕ) → Local P (A.cell n) (λ t. on_node (pair_cuts t) (far_cuts t) n) (λ l. add_box (converted_rows P A n l) (far_rows P A n l))
      added n = Local-add P (A.cell n) (λ t. sum_list complex_rationals (pair_cuts t) (entries_of A V n)) (λ t. sum_list complex_rationals (far_cuts t) (entries_of A X n)) (converted_rows P A n) (far_rows P A n) (converted_held n) (far_held n)

      pub local_held : (n : ℕ) → under A.parent leaf n ≡ true → Held n
      local_held = strong (λ n. under A.parent leaf n ≡ true → Held n) step
        where
          step : (n : ℕ) → ((m : ℕ) → m < n → under A.parent leaf m ≡ true → Held m) → under A.parent leaf n ≡ true → Held n
          step zero ih h = Local-inside P (A.cell 0) _ (computed_local_row P A 0) (A.local 0) (rows 0 h)
              (Local-same P (A.cell 0) _ _ (computed_local_row P A 0) (λ t. zero_left complex_rationals _ ∙ sym (on_path-root (pair_cuts t) (far_cuts t)))
              (Local-add P (A.cell 0) _ _ (brought_down P A 0) _ (Local-zero P (A.cell 0)) (added 0)))
          step (suc n) ih h = Local-inside P (A.cell (suc n)) _ (computed_local_row P A (suc n)) (A.local (suc n)) (rows (suc n) h)
              (Local-same P (A.cell (suc n)) _ _ (computed_local_row P A (suc n)) (λ t. sym (on_path-parent (pair_cuts t) (far_cuts t) (suc n) (omega arith)))
              (Local-add P (A.cell (suc n)) _ _ (brought_down P A (suc n)) _
              (Local-down P (A.cell (suc n)) (A.cell (A.parent (suc n))) _ (A.local (A.parent (suc n))) (rules.quarters (suc n) (omega arith) (in_nodes (suc n) h)) (ih (A.parent (suc n)) (rules.parents (suc n) (omega arith)) (up n h)))
              (added (suc n))))

    target_held : (n : ℕ) → under A.parent leaf n ≡ true → IsIn (A.cell n) t
    target_held n h = IsIn-above A.parent rules.root rules.parents A.nodes A.cell rules.quarters t leaf n leaf_in in_leaf h

    -- how near the cut terms of the entries on one node are
    pairs_near : (n : ℕ) → under A.parent leaf n ≡ true
        → IsNear (sum_by (λ e. pair_loss P (weight_of_entry P A e) (side (A.cell n))) (entries_of A V n)) (sum_list complex_rationals (terms_of t) (entries_of A V n)) (sum_list complex_rationals (pair_cuts t) (entries_of A V n))
    pairs_near n h = IsNear-sum (terms_of t) (pair_cuts t) (λ e. pair_loss P (weight_of_entry P A e) (side (A.cell n))) (entries_of A V n) (λ k d i. one (get_or (entries_of A V n) k d) (entries_on V n k d i))
      where
        one : (e : Entry) → IsOn A V n e → IsNear (pair_loss P (weight_of_entry P A e) (side (A.cell n))) (terms_of t e) (pair_cuts t e)
        one e g = subst (λ m. IsNear (pair_loss P (weight_of_entry P A e) (side (A.cell n))) (terms_of t e) (pair_sum P (A.cell m) (A.cell e.c) (sources_under A e.c) t)) g.node
            (pair_near P (A.cell n) (A.cell e.c) t (sources_under A e.c) (omega arith) g.apart (target_held n h) (sources_held e.c))

    far_ones_near : (n : ℕ) → under A.parent leaf n ≡ true
        → IsNear (sum_by (λ e. single_loss P (weight_of_entry P A e) (side (A.cell n))) (entries_of A X n)) (sum_list complex_rationals (terms_of t) (entries_of A X n)) (sum_list complex_rationals (far_cuts t) (entries_of A X n))
    far_ones_near n h = IsNear-sum (terms_of t) (far_cuts t) (λ e. single_loss P (weight_of_entry P A e) (side (A.cell n))) (entries_of A X n) (λ k d i. one (get_or (entries_of A X n) k d) (entries_on X n k d i))
      where
        one : (e : Entry) → IsOn A X n e → IsNear (single_loss P (weight_of_entry P A e) (side (A.cell n))) (terms_of t e) (far_cuts t e)
        one e g = subst (λ m. IsNear (single_loss P (weight_of_entry P A e) (side (A.cell n))) (terms_of t e) (far_sum P (A.cell m) (sources_under A e.c) t)) g.node
            (far_near P (A.cell n) t (sources_under A e.c) order (target_held n h) (far_sources n e.c g.apart))

    abbrev node_radius : ℕ → ℕ
    node_radius n = sum_by (λ e. pair_loss P (weight_of_entry P A e) (side (A.cell n))) (entries_of A V n) + sum_by (λ e. single_loss P (weight_of_entry P A e) (side (A.cell n))) (entries_of A X n)

    node_near : (n : ℕ) → under A.parent leaf n ≡ true → IsNear (node_radius n) (on_node (terms_of t) (terms_of t) n) (on_node (pair_cuts t) (far_cuts t) n)
    node_near n h = IsNear-add _ _ _ _ (pairs_near n h) (far_ones_near n h)

    module _ (radii : (n : ℕ) → under A.parent leaf n ≡ true → computed_local_radius P A n ≤ A.radius n) where
      abbrev Near : ℕ → Type 0
      Near n = IsNear (A.radius n) (on_path (terms_of t) (terms_of t) n) (on_path (pair_cuts t) (far_cuts t) n)

      pub path_near : (n : ℕ) → under A.parent leaf n ≡ true → Near n
      path_near = strong (λ n. under A.parent leaf n ≡ true → Near n) step
        where
          step : (n : ℕ) → ((m : ℕ) → m < n → under A.parent leaf m ≡ true → Near m) → under A.parent leaf n ≡ true → Near n
          step zero ih h = IsNear-wider _ _ (omega (arith, radii 0 h))
              (subst₂ (IsNear (node_radius 0)) (sym (on_path-root (terms_of t) (terms_of t))) (sym (on_path-root (pair_cuts t) (far_cuts t))) (node_near 0 h))
          step (suc n) ih h = IsNear-wider _ _ (radii (suc n) h)
              (subst₂ (IsNear (A.radius (A.parent (suc n)) + node_radius (suc n))) (sym (on_path-parent (terms_of t) (terms_of t) (suc n) (omega arith))) (sym (on_path-parent (pair_cuts t) (far_cuts t) (suc n) (omega arith)))
              (IsNear-add _ _ _ _ (ih (A.parent (suc n)) (rules.parents (suc n) (omega arith)) (up n h)) (node_near (suc n) h)))

-- What the entries of a leaf bring together is what the rules compute.
use Rattle.std.proofs.Common.{ℕ, zero, suc, ◌≡◌, ◌+◌, ◌<◌, ℤ, pos, unsigned_abs, List, [], ◌∷◌, length, get_or, drop, map, Bool, true, false, cond, refl, sym, ap, ap₂, ◌∙◌, subst, subst₂, arith}
use Rattle.std.specs.Prelude.{◌↔◌, sum_by}
use Rattle.std.proofs.lemmas.List.{get_or-drop, get_or-map, length-map}
use Rattle.cell_name.specs.Square.{Holds, side}
use Rattle.accounting_text.specs.Given.{given_targets, number_at}
use Rattle.cert_text.specs.Certificate.{Certificate, nth_box, nth_line, nth_number}
use Rattle.cert_text.specs.Lines.{Line}
use Rattle.certificate_nodes.specs.AtNodes.{entry_numbers_at, no_point, point_at}
use Rattle.certificate_nodes.specs.Presented.{PresentedModel, EntriesHold, IsTargetAt, PointsHold, accounting_of, node_count}
use Rattle.certificate_rules.specs.LineRules.{IsFit, TargetHolds, given_counts, nth_place, nth_target, targets_of}
use Rattle.certificate_rules.proofs.GivenPoints.{targets_are}
use Rattle.certificate_rules.proofs.Ranges.{parent_less, root_parent}
use Rattle.exact_math.specs.Ends.{BoxEnds, BoxEndsInside, zero_box}
use Rattle.exact_math.specs.Gaussian.{Gaussian, gaussian}
use Rattle.letters.specs.declared.Entry.{Entry}
use Rattle.letters.specs.declared.Letter.TheVariants.{U, W}
use Rattle.limits.specs.Grid.{IsInGrid}
use Rattle.limits.specs.Limits.{grid_of}
use Rattle.near_field.specs.Pair.{pair_box}
use Rattle.points.specs.Points.{is_source, place}
use Rattle.points.specs.declared.Point.{Point}
use Rattle.row_recursions.specs.Rows.{multipole_value}
use Rattle.soundness.specs.Accounts.{Accounting, LeafTarget, entries_of, is_letter, sources_under, under}
use Rattle.soundness.specs.Computed.{computed_target_box, multipoles_at, pairs_at, point_of, total_box, weight_under}
use Rattle.soundness.specs.Counts.{EncloseBox}
use Rattle.soundness.specs.Rules.{BoxHolds}
use Rattle.soundness.specs.Squares.{IsFarFrom, offset}
use Rattle.soundness.proofs.Nodes.{under-self}
use Rattle.soundness.proofs.Sums.{sum_by-map, total_box-map}
use Rattle.truncation.specs.Tails.{single_loss}
use Rattle.certificate_targets.specs.Parts.{IsFarFromAll, IsPresented, IsSpotOf, counts_in, entry_of, loss_of, pairs_of, value_of}
use Rattle.certificate_targets.proofs.Entries.{entries_by_number, numbers_are}
use Rattle.certificate_targets.proofs.Sums.{sum_by-where, total_box-where}

pub target_count : (g : PresentedModel) → IsPresented g → length (accounting_of g).targets ≡ g.certificate.head.targets
target_count g is =
    let c = g.certificate in
    sym (length-map (accounting_of g).targets (λ (t : LeafTarget). t.place))
    ∙ ap length (targets_are g.points.list c.ats c.targets (is.certificate.ats_are ∙ is.head.point_count) (is.certificate.targets_are ∙ is.head.target_count))
    ∙ length-map (targets_of g.points.list) place ∙ sym is.head.target_count

module _ (g : PresentedModel) (n : ℕ) where
  abbrev A : Accounting
  A = accounting_of g

  abbrev c : Certificate
  c = g.certificate

  module _ (P : ℕ) where
    pub pairs_same : (z : Gaussian) → total_box (λ e. pairs_of A z (entry_of c e)) (entry_numbers_at c n) ≡ pairs_at P A n z
    unfolding pairs_of
    pairs_same z =
        let f : Entry → BoxEnds = λ e. total_box (λ x. pair_box z (point_of x)) (sources_under A e.c) in
        sym (total_box-map (pairs_of A z) (entry_of c) (entry_numbers_at c n))
        ∙ total_box-where (λ (e : Entry). is_letter U e.letter) f (map (entry_of c) (entry_numbers_at c n))
        ∙ ap (total_box f) (sym (entries_by_number g.points c U n))

    pub values_same : (z : Gaussian) → total_box (λ e. value_of A P z (entry_of c e)) (entry_numbers_at c n) ≡ multipoles_at P A n z
    unfolding value_of
    values_same z =
        let f : Entry → BoxEnds = λ e. multipole_value P (A.multipole e.c) (side (A.cell e.c)) (offset (A.cell e.c) z) in
        sym (total_box-map (value_of A P z) (entry_of c) (entry_numbers_at c n))
        ∙ total_box-where (λ (e : Entry). is_letter W e.letter) f (map (entry_of c) (entry_numbers_at c n))
        ∙ ap (total_box f) (sym (entries_by_number g.points c W n))

    pub losses_same : sum_by (λ e. loss_of A P (entry_of c e)) (entry_numbers_at c n) ≡ sum_by (λ e. single_loss P (weight_under P A e.c) (side (A.cell e.c))) (entries_of A W n)
    unfolding loss_of
    losses_same =
        let f : Entry → ℕ = λ e. single_loss P (weight_under P A e.c) (side (A.cell e.c)) in
        sym (sum_by-map (loss_of A P) (entry_of c) (entry_numbers_at c n))
        ∙ sum_by-where (λ (e : Entry). is_letter W e.letter) f (map (entry_of c) (entry_numbers_at c n))
        ∙ ap (sum_by f) (sym (entries_by_number g.points c W n))

  -- ---- places
  module _ (is : IsPresented g) where
    pub far_from_all : (k : ℕ) (z : Gaussian) → k < c.head.targets → EntriesHold g → (nth_target A.targets k).leaf ≡ n → (nth_target A.targets k).place ≡ z → IsFarFromAll g n z
    far_from_all k z lt holds leaf at i d l w =
        let e : ℕ = get_or (entry_numbers_at c n) i d in
        let here = numbers_are c n i d l in
        let fit = subst (λ letter. IsFit g.points c letter (entry_of c e).b (entry_of c e).c) w (holds e (omega (arith, here.below, is.certificate.entries_are))) in
        let under_it : under A.parent (nth_target A.targets k).leaf (entry_of c e).b ≡ true =
        ap (under A.parent (nth_target A.targets k).leaf) (here.of_node ∙ sym leaf) ∙ under-self A.parent (root_parent c is.certificate) (parent_less c is.certificate) (nth_target A.targets k).leaf in
        subst (IsFarFrom (A.cell (entry_of c e).c)) at (fit.1 k _ (omega (arith, lt, target_count g is)) under_it)

-- ---- given boxes and counts
abbrev no_target : LeafTarget
no_target = record { place = gaussian (pos 0) (pos 0); leaf = 0; box = zero_box }

given_box_at : (ps : List Point) (ls ts : List Line) (k : ℕ) → k < length (given_targets ps ls ts) → (get_or (given_targets ps ls ts) k no_target).box ≡ nth_box (nth_line ts k).numbers 0
given_box_at [] ls ts k lt = absurd (omega (arith, lt))
given_box_at (p ∷ ps) [] ts k lt = absurd (omega (arith, lt))
given_box_at (p ∷ ps) (l ∷ ls) [] k lt = absurd (omega (arith, lt))
given_box_at (p ∷ ps) (l ∷ ls) (t ∷ ts) k lt =
    step (is_source p.kind) (given_targets ps ls (t ∷ ts)) (given_targets ps ls ts) k (λ k. given_box_at ps ls (t ∷ ts) k) (λ k. given_box_at ps ls ts k) lt
  where
    step : (b : Bool) (without with : List LeafTarget) (k : ℕ) → ((k : ℕ) → k < length without → (get_or without k no_target).box ≡ nth_box (nth_line (t ∷ ts) k).numbers 0)
        → ((k : ℕ) → k < length with → (get_or with k no_target).box ≡ nth_box (nth_line ts k).numbers 0)
        → k < length (cond b without (record { place = place p; leaf = number_at l 0; box = nth_box t.numbers 0 } ∷ with))
        → (get_or (cond b without (record { place = place p; leaf = number_at l 0; box = nth_box t.numbers 0 } ∷ with)) k no_target).box ≡ nth_box (nth_line (t ∷ ts) k).numbers 0
    step true without with k ih jh lt = ih k lt
    step false without with zero ih jh lt = refl
    step false without with (suc k) ih jh lt = jh k (omega (arith, lt))

pub box_at : (g : PresentedModel) → IsPresented g → (k : ℕ) → k < g.certificate.head.targets → (nth_target (accounting_of g).targets k).box ≡ nth_box (nth_line g.certificate.targets k).numbers 0
box_at g is k lt = given_box_at g.points.list g.certificate.ats g.certificate.targets k (omega (arith, lt, target_count g is))

behind_four : (zs : List ℤ) (i : ℕ) → nth_number (drop 4 zs) i ≡ nth_number zs (4 + i)
behind_four zs i = get_or-drop 4 zs i (pos 0)

pub counts_at : (c : Certificate) (k : ℕ) (counts : List ℤ) → counts ≡ drop 4 (nth_line c.targets k).numbers → (counts_in counts 0 ≡ (given_counts c k).re) × (counts_in counts 2 ≡ (given_counts c k).im)
counts_at c k counts e =
    let zs = (nth_line c.targets k).numbers in
    (ap (λ (l : List ℤ). counts_in l 0) e ∙ ap₂ (λ a b. record { lo = a; hi = b }) (behind_four zs 0) (behind_four zs 1), ap (λ (l : List ℤ). counts_in l 2) e ∙ ap₂ (λ a b. record { lo = a; hi = b }) (behind_four zs 2) (behind_four zs 3))

-- ---- where a target is, by the line of its point
pub spot_is : (g : PresentedModel) → IsPresented g → PointsHold g → (k position leaf : ℕ) (t : Point) → IsTargetAt g k position
    → (nth_line g.certificate.ats position).numbers ≡ pos leaf ∷ [] → leaf < node_count g → t ≡ point_at g.points.list position → IsSpotOf g k (record { leaf = leaf; x = t.x; y = t.y })
spot_is g is holds k position leaf t at numbers below read =
    let A : Accounting = accounting_of g in
    let stands : number_at (nth_line g.certificate.ats position) 0 ≡ leaf = ap (λ (zs : List ℤ). unsigned_abs (nth_number zs 0)) numbers in
    let here : nth_place g.points.list position ≡ place t = get_or-map place g.points.list position no_point (gaussian (pos 0) (pos 0)) at.in_list ∙ ap place (sym read) in
    record {
      node = below;
      leaf = sym at.node_is ∙ stands;
      place = sym at.place_is ∙ ap place (sym read);
      in_grid = subst (λ v. IsInGrid (grid_of v) t.x t.y) (sym is.head.version) (subst (λ (p : Point). IsInGrid (grid_of g.points.version) p.x p.y) (sym read) (is.within.within.range position no_point at.in_list).place);
      held = subst (λ n. Holds (A.cell n) t.x t.y) stands (subst (λ (z : Gaussian). Holds (A.cell (number_at (nth_line g.certificate.ats position) 0)) z.re z.im) here (holds position (omega (arith, at.in_list, is.head.point_count))).held);
    }

-- ---- the rule, by what is computed and what is read
module _ (g : PresentedModel) (is : IsPresented g) (k : ℕ) (lt : k < g.certificate.head.targets) (P : ℕ) (order : P ≡ g.certificate.head.order) (computed value : BoxEnds)
    (box : computed ≡ computed_target_box P (accounting_of g) (nth_target (accounting_of g).targets k)) (read : value ≡ nth_box (nth_line g.certificate.targets k).numbers 0) where
  given_is : value ≡ (nth_target (accounting_of g).targets k).box
  given_is = read ∙ sym (box_at g is k lt)

  computed_is : computed ≡ computed_target_box g.certificate.head.order (accounting_of g) (nth_target (accounting_of g).targets k)
  computed_is = box ∙ ap (λ P. computed_target_box P (accounting_of g) (nth_target (accounting_of g).targets k)) order

  pub inside_rule : BoxEndsInside computed value ↔ BoxHolds g.certificate.head.order (accounting_of g) (nth_target (accounting_of g).targets k)
  inside_rule = (λ h. subst₂ BoxEndsInside computed_is given_is h, λ h. subst₂ BoxEndsInside (sym computed_is) (sym given_is) h)

  module _ (counts : List ℤ) (numbers : counts ≡ drop 4 (nth_line g.certificate.targets k).numbers) where
    counts_rule : EncloseBox value (counts_in counts 0) (counts_in counts 2)
        ↔ EncloseBox (nth_target (accounting_of g).targets k).box (given_counts g.certificate k).re (given_counts g.certificate k).im
    counts_rule =
        let at = counts_at g.certificate k counts numbers in (
          λ h. subst (λ b. EncloseBox b (given_counts g.certificate k).re (given_counts g.certificate k).im) given_is (subst₂ (EncloseBox value) at.0 at.1 h),
          λ h. subst₂ (EncloseBox value) (sym at.0) (sym at.1) (subst (λ b. EncloseBox b (given_counts g.certificate k).re (given_counts g.certificate k).im) (sym given_is) h),
        )

    pub same_rule : (BoxEndsInside computed value → EncloseBox value (counts_in counts 0) (counts_in counts 2) → TargetHolds g.points g.certificate k)
        × (TargetHolds g.points g.certificate k → BoxEndsInside computed value × EncloseBox value (counts_in counts 0) (counts_in counts 2))
    same_rule = (λ a b. record { box = inside_rule.0 a; counts = counts_rule.0 b }, λ h. (inside_rule.1 h.box, counts_rule.1 h.counts))

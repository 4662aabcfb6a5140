-- Where all rules hold of a certificate, those of the accounting that it gives hold, and so its counts are sound.
use Rattle.std.proofs.Common.{ℕ, zero, suc, ◌≡◌, ◌<◌, ◌≤◌, Bool, true, false, inl, inr, ◌⊎◌, max, [], length, get_or, refl, sym, ap, ap₂, ◌∙◌, subst, arith}
use Rattle.std.specs.Prelude.{All, pos}
use Rattle.std.proofs.lemmas.Bool.{cases_lt}
use Rattle.std.proofs.lemmas.List.{get_or-map, length-map}
use Rattle.std.proofs.lemmas.List.Elements.{All-map, All-from_get_or, All-weaker}
use Rattle.std.proofs.lemmas.List.Folds.{list_any_at}
use Rattle.exact_math.specs.Ends.{zero_box}
use Rattle.exact_math.specs.Gaussian.{Gaussian, gaussian}
use Rattle.exact_math.proofs.Orders.{order_bounds}
use Rattle.accounting_text.specs.Given.{given_entry}
use Rattle.cert_text.specs.Certificate.{Certificate, IsCertificate}
use Rattle.cert_text.specs.Lines.{line}
use Rattle.cert_text.proofs.Places.{lines_in}
use Rattle.cert_text.specs.declared.section.Section.{Section}
use Rattle.cert_text.specs.declared.section.Section.TheVariants.{Node, At, Multipole, Entry, Local, Target}
use Rattle.letters.specs.declared.Letter.{Letter}
use Rattle.letters.specs.declared.Letter.TheVariants.{U, V, W, X}
use Rattle.near_field.specs.DirectSum.{direct_sum}
use Rattle.points.specs.Points.{place}
use Rattle.points.specs.declared.Points.{Points}
use Rattle.row_recursions.proofs.Geometry.{held_places}
use Rattle.soundness.specs.Accounts.{Accounting, LeafSource, LeafTarget, is_leaf, under, points_of}
use Rattle.soundness.specs.Counts.{CountsHold}
use Rattle.soundness.specs.Rules.{Apart, IsTiled, SourceStands, TargetStands, MultipoleHolds, BoxHolds, Rules}
use Rattle.soundness.specs.Squares.{IsIn, IsQuarterOf}
use Rattle.soundness.proofs.Counts.{counts-contain}
use Rattle.soundness.proofs.Nodes.{under-self}
use Rattle.soundness.proofs.Targets.{boxes_contain}
use Rattle.certificate_rules.specs.Laws.{CountsAreSound}
use Rattle.certificate_rules.specs.LineRules.{presented, node_of, targets_of, nth_place, nth_target, given_counts, HeadHolds, IsFit, TargetHolds}
use Rattle.certificate_rules.specs.Verdicts.{line_number, SectionHolds, HoldEverywhere}
use Rattle.certificate_rules.proofs.GivenPoints.{sources_hold, targets_hold, sources_are, targets_are, direct_sum-sources}
use Rattle.certificate_rules.proofs.Numbers.{numbered}
use Rattle.certificate_rules.proofs.Ranges.{at_in_nodes, entry_in_nodes, root_parent, parent_less}

one_is_large : (m n : ℕ) → 2 ≤ max m n → (2 ≤ m) ⊎ (2 ≤ n)
one_is_large m n h = elim (cases_lt m 2) [ inl lt ↦ inr (omega (arith, h, lt)) | inr le ↦ inl le ]

-- a node has a place: it is a leaf of the accounting, and its square has the place
record Stands (A : Accounting) (z : Gaussian) (n : ℕ) : Type 0 where
  in_range : n < A.nodes
  leaf : is_leaf A n ≡ true
  held : IsIn (A.cell n) z

module _ (points : Points) (c : Certificate) (is : IsCertificate c) (everywhere : HoldEverywhere points c) where
  abbrev A : Accounting
  A = presented points c

  -- the rules of a line of a section
  rules_of : (section : Section) (n rule : ℕ) → n < lines_in c.head section → SectionHolds points c section n rule
  rules_of section n rule lt = (numbered points c section n rule lt).0 (everywhere (line_number c.head section n) rule)

  head : HeadHolds points c
  head = everywhere 1 8 refl

  as_many : length c.ats ≡ length points.list
  as_many = is.ats_are ∙ head.point_count

  as_many_targets : length c.targets ≡ length (targets_of points.list)
  as_many_targets = is.targets_are ∙ head.target_count

  -- ---- points
  stands : (k : ℕ) → k < length points.list → Stands A (nth_place points.list k) (node_of points c k)
  stands k lt =
      let below : k < c.head.points = omega (arith, lt, head.point_count) in
      let point = rules_of At k 1 below refl in
      record { in_range = at_in_nodes c is k below; leaf = point.leaf; held = held_places _ _ _ point.held }

  target_stands : All (λ (t : LeafTarget). Stands A t.place t.leaf) A.targets
  target_stands = targets_hold (Stands A) points.list c.ats c.targets as_many stands

  sources : All (SourceStands A) A.sources
  sources = All-weaker (λ (x : LeafSource). Stands A (place x.point) x.leaf) (SourceStands A) (λ x h. record { in_range = h.in_range; leaf = h.leaf; held = h.held }) A.sources
      (sources_hold (Stands A) points.list c.ats as_many stands)

  targets : All (TargetStands A) A.targets
  targets = All-weaker (λ (t : LeafTarget). Stands A t.place t.leaf) (TargetStands A) (λ t h. record { in_range = h.in_range; held = h.held }) A.targets target_stands

  -- ---- entries
  in_range : All (λ e. e.c < A.nodes) A.entries
  in_range = All-map (λ e. e.c < A.nodes) given_entry c.entries
      (All-from_get_or (λ l. (given_entry l).c < A.nodes) c.entries (line [] []) (λ k lt. (entry_in_nodes c is k (omega (arith, lt, is.entries_are))).1))

  apart_of : (letter : Letter) (b d : ℕ) → IsFit points c letter b d → Apart A letter b d
  apart_of U b d h = tt
  apart_of V b d h = record { grid = refl; level = h.0; apart = one_is_large _ _ h.1.at_least_two }
  apart_of W b d h = h.1
  apart_of X b d h = h.1

  apart : All (λ e. Apart A e.letter e.b e.c) A.entries
  apart = All-map (λ e. Apart A e.letter e.b e.c) given_entry c.entries
      (All-from_get_or (λ l. let e = given_entry l in Apart A e.letter e.b e.c) c.entries (line [] [])
      (λ k lt. apart_of _ _ _ (rules_of Entry k 5 (omega (arith, lt, is.entries_are)) refl)))

  tiled : All (λ t. IsTiled A t.leaf) A.targets
  tiled k d lt =
      let t = get_or A.targets k d in
      let s = target_stands k d lt in
      let here = list_any_at (λ t'. under A.parent t'.leaf t.leaf) A.targets k d lt (under-self A.parent (root_parent c is) (parent_less c is) t.leaf) in
      (rules_of Local t.leaf 6 s.in_range).1 refl s.leaf here

  -- ---- rows
  multipole : (n : ℕ) → n < A.nodes → (b : Bool) → is_leaf A n ≡ b → MultipoleHolds c.head.order A n
  multipole n lt true e = (rules_of Multipole n 2 lt).0 refl e
  multipole n lt false e = (rules_of Multipole n 3 lt).1 refl e

  -- ---- targets
  target_count : length A.targets ≡ c.head.targets
  target_count = sym (length-map A.targets (λ t. t.place)) ∙ ap length (targets_are points.list c.ats c.targets as_many as_many_targets)
      ∙ length-map (targets_of points.list) place ∙ sym head.target_count

  abbrev no_target : LeafTarget
  no_target = record { place = gaussian (pos 0) (pos 0); leaf = 0; box = zero_box }

  target : (k : ℕ) → k < length A.targets → TargetHolds points c k
  target k lt = rules_of Target k 7 (omega (arith, lt, target_count)) refl

  pub rules_met : Rules c.head.order A
  rules_met = record {
    root = root_parent c is;
    parents = parent_less c is;
    quarters = λ n positive lt. quarter n positive lt;
    sources = sources;
    targets = targets;
    in_range = in_range;
    apart = apart;
    tiled = tiled;
    multipoles = λ n lt. multipole n lt (is_leaf A n) refl;
    locals = λ n lt u. (rules_of Local n 4 lt).0 refl u;
    boxes = All-from_get_or (BoxHolds c.head.order A) A.targets no_target (λ k lt. (target k lt).box);
  }
    where
      quarter : (n : ℕ) → 0 < n → n < A.nodes → IsQuarterOf (A.cell n) (A.cell (A.parent n))
      quarter zero positive lt = absurd (omega (arith, positive))
      quarter (suc n) positive lt = rules_of Node (suc n) 1 lt refl

  -- ---- counts
  pub counts_sound : (k : ℕ) → k < length (targets_of points.list) → CountsHold (given_counts c k).re (given_counts c k).im (direct_sum (nth_place (targets_of points.list) k) points.list)
  counts_sound k lt =
      let t = nth_target A.targets k in
      let below : k < length A.targets = omega (arith, lt, target_count, head.target_count) in
      let order = (order_bounds c.head.order is.head_is.order.is_order).0 in
      let at : t.place ≡ nth_place (targets_of points.list) k =
      sym (get_or-map (λ (t : LeafTarget). t.place) A.targets k no_target (gaussian (pos 0) (pos 0)) below) ∙ ap (λ zs. get_or zs k (gaussian (pos 0) (pos 0))) (targets_are points.list c.ats c.targets as_many as_many_targets) in
      let sum : direct_sum t.place (points_of A.sources) ≡ direct_sum (nth_place (targets_of points.list) k) points.list =
      ap₂ direct_sum at (sources_are points.list c.ats as_many) ∙ direct_sum-sources (nth_place (targets_of points.list) k) points.list in
      subst (CountsHold (given_counts c k).re (given_counts c k).im) sum
      (counts-contain t.box (given_counts c k).re (given_counts c k).im (direct_sum t.place (points_of A.sources)) (target k below).counts (boxes_contain c.head.order A order rules_met k no_target below))

pub counts_are_sound : CountsAreSound
counts_are_sound points c is everywhere = counts_sound points c is everywhere

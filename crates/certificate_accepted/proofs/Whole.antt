-- The certificate of a field meets the rules, section by section.
use Rattle.std.proofs.Common.{ℕ, zero, suc, ◌≡◌, ◌<◌, ◌≤◌, inl, inr, List, [], length, map, cond, get_or, true, refl, sym, ap, ◌∙◌, subst, arith}
use Rattle.std.specs.Prelude.{pos, All}
use Rattle.std.proofs.lemmas.Bool.{cases_lt, le-ltb}
use Rattle.std.proofs.lemmas.List.{get_or-map, get_or_past, length-map}
use Rattle.std.proofs.lemmas.List.Elements.{Contains-get_or}
use Rattle.std.proofs.lemmas.List.FromFn.{length-map-range_with_len}
use Rattle.exact_math.specs.Ends.{BoxEnds, zero_box}
use Rattle.exact_math.specs.Gaussian.{Gaussian, gaussian}
use Rattle.accounting_text.specs.Given.{AreSame, number_at, given_entry}
use Rattle.accounting_text.specs.Written.{at_line, node_line, box_counts}
use Rattle.accounting_text.proofs.Same.{counts_given, written_given}
use Rattle.cell_name.specs.Apart.{AreTwoOrThreeSidesApart}
use Rattle.cell_name.specs.Square.{Square, parent, Holds}
use Rattle.cert_text.specs.Certificate.{Certificate, nth_line}
use Rattle.cert_text.specs.Lines.{Line, line}
use Rattle.cert_text.specs.declared.section.Section.{Section}
use Rattle.cert_text.specs.declared.section.Section.TheVariants.{Node, At, Multipole, Entry, Local, Target, End}
use Rattle.cert_text.proofs.Places.{lines_in}
use Rattle.certificate_rules.specs.LineRules.{presented, node_of, nth_place, nth_target, given_counts, HeadHolds, NodeHolds, PointHolds, IsFit, EntryHolds, TilingHolds, TargetHolds}
use Rattle.certificate_rules.specs.Verdicts.{SectionHolds, HoldEverywhere}
use Rattle.certificate_rules.proofs.Lines.{hold_everywhere}
use Rattle.field_certificate.specs.FieldCertificate.{field_certificate}
use Rattle.field_certificate.proofs.FieldNumbers.{leaves-numbers}
use Rattle.field_certificate.proofs.OfPoints.{field_of_points}
use Rattle.letters.specs.declared.Entry as entries
use Rattle.letters.specs.declared.Letter.{Letter}
use Rattle.letters.specs.declared.Letter.TheVariants.{U, V, W, X}
use Rattle.limits.specs.Limits.{grid_of}
use Rattle.limits.proofs.Grids.{version_has_grid, grid_positive}
use Rattle.points.specs.Limits.{WithinLimits}
use Rattle.points.specs.Points.{place}
use Rattle.points.specs.declared.Kind.TheVariants as kinds
use Rattle.points.specs.declared.Point.{Point}
use Rattle.points.specs.declared.Points.{Points}
use Rattle.quadtree.specs.Tree.{AreInGrid}
use Rattle.quadtree.proofs.Limits.{in_grid}
use Rattle.soundness.specs.Accounts.{Accounting, LeafSource, LeafTarget, is_leaf, under, has_target_under}
use Rattle.soundness.specs.Counts.{EncloseBox}
use Rattle.soundness.specs.Rules.{Apart, Rules, IsTiled}
use Rattle.soundness.specs.Squares.{IsFarFrom}
use Rattle.tree_field.specs.Accounting.{accounting, above, cell_at, leaf_number, leaf_target, number_among}
use Rattle.tree_field.specs.Field.{targets}
use Rattle.tree_field.specs.Lists.{TreeLists, AreTreeLists}
use Rattle.tree_field.proofs.Numbers.{first_is_root}
use Rattle.tree_field.proofs.Whole.{rules_met}
use Rattle.certificate_accepted.specs.Laws.{FieldIsAccepted}
use Rattle.certificate_accepted.proofs.Carried.{over_nodes, over_same_nodes, quarters, multipoles, locals, boxes}
use Rattle.certificate_accepted.proofs.Counts.{counts_enclose}
use Rattle.certificate_accepted.proofs.FieldLeaves.{EntryStands, leaf_in_range, stands_in_leaf, held_by_leaf, leaves_tiled, entries_stand}

module _ (points : Points) (cap P : ℕ) (lists : TreeLists) (limits : WithinLimits points) (are : AreTreeLists (grid_of points.version) points.list cap lists) where
  abbrev grid : ℕ
  grid = grid_of points.version

  abbrev ps : List Point
  ps = points.list

  abbrev c : Certificate
  c = field_certificate points cap P lists

  -- of the field, and what the certificate gives
  abbrev of_field : Accounting
  of_field = accounting grid ps cap P lists

  abbrev B : Accounting
  B = presented points c

  abbrev A : Accounting
  A = over_nodes B of_field

  positive : 0 < grid
  positive = grid_positive grid (version_has_grid points.version)

  inside : AreInGrid grid ps
  inside = in_grid grid ps limits.within.range

  given_back : AreSame P of_field B
  given_back = written_given points P of_field (field_of_points points cap P lists positive inside are)

  -- past the last node all parents are 0
  parents_same : (n : ℕ) → above lists.cells n ≡ B.parent n
  parents_same n = elim (cases_lt n (length lists.cells)) [
    | inl lt ↦ given_back.parent n lt
    | inr le ↦ ap (λ b. cond b (number_among lists.cells (parent (cell_at lists.cells n))) 0) (le-ltb n (length lists.cells) le) ∙ sym (ap (λ l. number_at l 0) (past n le))
  ]
    where
      past : (n : ℕ) → length lists.cells ≤ n → nth_line c.nodes n ≡ line [] []
      past n le = get_or_past c.nodes n (line [] []) (omega (arith, le, length-map-range_with_len (λ n. node_line (of_field.parent n) (of_field.cell n)) 0 (length lists.cells)))

  path : of_field ≡ A
  path = over_same_nodes P of_field B given_back parents_same

  same : AreSame P A B
  same = subst (λ C. AreSame P C B) path given_back

  rules : Rules P A
  rules = subst (Rules P) path (rules_met grid ps cap P lists positive inside are)

  -- ---- line 1
  head : HeadHolds points c
  head = record { version = refl; point_count = refl; target_count = length-map (targets ps) (leaf_target grid ps cap P lists) }

  -- ---- nodes
  node : (n : ℕ) → n < B.nodes → NodeHolds points c n
  node zero lt = sym (given_back.cell 0 lt) ∙ first_is_root grid ps cap lists.cells positive inside are.cells_are lt
  node (suc n) lt = quarters P of_field B same rules n lt

  -- ---- points
  abbrev origin : Point
  origin = record { x = pos 0; y = pos 0; kind = kinds.Target }

  leaf_same : (n : ℕ) → is_leaf of_field n ≡ is_leaf B n
  leaf_same n = ap (λ C. is_leaf C n) path

  point : (k : ℕ) → k < length ps → PointHolds points c k
  point k lt =
      let p : Point = get_or ps k origin in
      let listed = Contains-get_or ps k origin lt in
      let n : ℕ = leaf_number grid ps cap lists p in
      let at : node_of points c k ≡ n = numbers in
      let here : of_field.cell n ≡ B.cell (node_of points c k) = given_back.cell n (leaf_in_range grid ps cap P lists positive inside are p listed) ∙ ap B.cell (sym at) in
      let stands : nth_place ps k ≡ place p = get_or-map place ps k origin (gaussian (pos 0) (pos 0)) lt in
      record {
        leaf = ap (is_leaf B) at ∙ sym (leaf_same n) ∙ stands_in_leaf grid ps cap P lists positive inside are p listed;
        held = subst (λ (z : Gaussian). Holds (B.cell (node_of points c k)) z.re z.im) (sym stands)
            (subst (λ s. Holds s p.x p.y) here (held_by_leaf grid ps cap P lists positive inside are p listed));
      }
    where
      numbers : node_of points c k ≡ leaf_number grid ps cap lists (get_or ps k origin)
      numbers =
          ap (λ ns. number_at (nth_line (map at_line ns) k) 0) (leaves-numbers grid ps cap P lists positive inside are)
          ∙ ap (λ l. number_at l 0) (get_or-map at_line (map (leaf_number grid ps cap lists) ps) k 0 (line [] []) (omega (arith, lt, length-map ps (leaf_number grid ps cap lists))))
          ∙ get_or-map (leaf_number grid ps cap lists) ps k origin 0 lt

  -- ---- entries
  fit : (letter : Letter) (b d : ℕ) → EntryStands of_field letter b d → Apart A letter b d → IsFit points c letter b d
  fit U b d h a = (sym (leaf_same b) ∙ h.leaves.0, sym (leaf_same d) ∙ h.leaves.1)
  fit V b d h a =
      let at_b : of_field.cell b ≡ B.cell b = given_back.cell b h.b_in_range in
      let at_d : of_field.cell d ≡ B.cell d = given_back.cell d h.c_in_range in (
        ap (λ (s : Square). s.level) (sym at_b) ∙ a.level ∙ ap (λ (s : Square). s.level) at_d,
        subst (λ s. AreTwoOrThreeSidesApart s (B.cell d)) at_b (subst (AreTwoOrThreeSidesApart (of_field.cell b)) at_d h.leaves),
      )
  fit W b d h a =
      (sym (leaf_same b) ∙ h.leaves, subst (λ s. All (λ (t : LeafTarget). under B.parent t.leaf b ≡ true → IsFarFrom s t.place) B.targets) (given_back.cell d h.c_in_range) a)
  fit X b d h a =
      (sym (leaf_same d) ∙ h.leaves, subst (λ s. All (λ (x : LeafSource). under B.parent x.leaf d ≡ true → IsFarFrom s (place x.point)) B.sources) (given_back.cell b h.b_in_range) a)

  entry : (k : ℕ) → k < length of_field.entries → EntryHolds points c k
  entry k lt =
      let none : Line = line [] [] in
      let stand : All (λ e. EntryStands of_field e.letter e.b e.c) B.entries = subst (All (λ e. EntryStands of_field e.letter e.b e.c)) given_back.entries (entries_stand grid ps cap P lists positive inside are) in
      let many : length of_field.entries ≡ length B.entries = ap length given_back.entries in
      let below : k < length B.entries = omega (arith, lt, many) in
      let this : get_or B.entries k (given_entry none) ≡ given_entry (nth_line c.entries k) = get_or-map given_entry c.entries k none (given_entry none) (omega (arith, below, length-map c.entries given_entry)) in
      subst (λ (e : entries.Entry). IsFit points c e.letter e.b e.c) this (fit _ _ _ (stand k (given_entry none) below) (rules.apart k (given_entry none) below))

  -- ---- leaves with a target
  tiling : (n : ℕ) → n < B.nodes → TilingHolds points c n
  tiling n lt leaf some = subst (λ C. IsTiled C n) path
      (leaves_tiled grid ps cap P lists positive inside are n lt (leaf_same n ∙ leaf) (ap (λ C. has_target_under C n) path ∙ some))

  -- ---- targets
  abbrev no_target : LeafTarget
  no_target = record { place = gaussian (pos 0) (pos 0); leaf = 0; box = zero_box }

  target : (k : ℕ) → k < length of_field.targets → TargetHolds points c k
  target k lt =
      let many : length of_field.targets ≡ length B.targets = ap length given_back.targets in
      record {
        box = boxes P of_field B same rules k no_target (omega (arith, lt, many));
        counts = subst (λ (g : BoxEnds). EncloseBox (nth_target B.targets k).box g.re g.im) (sym counts) (counts_enclose (nth_target B.targets k).box);
      }
    where
      counts : given_counts c k ≡ box_counts (nth_target B.targets k).box
      counts =
          counts_given points P of_field k lt
          ∙ ap box_counts (get_or-map (λ (t : LeafTarget). t.box) of_field.targets k no_target zero_box lt ∙ ap (λ ts. (nth_target ts k).box) given_back.targets)

  -- ---- all sections
  section : (section : Section) (n rule : ℕ) → n < lines_in c.head section → SectionHolds points c section n rule
  section Node n rule lt = λ e. node n lt
  section At n rule lt = λ e. point n lt
  section Multipole n rule lt = (λ e leaf. multipoles P of_field B same rules n lt, λ e inner. multipoles P of_field B same rules n lt)
  section Entry n rule lt = λ e. entry n lt
  section Local n rule lt = (λ e some. locals P of_field B same rules n lt some, λ e. tiling n lt)
  section Target n rule lt = λ e. target n lt
  section End n rule lt = tt

  pub accepted : HoldEverywhere points c
  accepted = hold_everywhere points c head section

pub field_accepted : FieldIsAccepted
field_accepted = accepted

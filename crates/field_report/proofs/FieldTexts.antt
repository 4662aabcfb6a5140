-- The lines of targets, one point after another, and the report in its pieces.
use Rattle.std.proofs.Common.{◌≡◌, ◌∙◌, sym, ap, subst, refl, arith, ℕ, ◌+◌, ◌≤◌, ◌<◌, not, true, false, Result, List, [], ◌∷◌, ◌++◌, codes, length, take, drop, get_or, map, append_assoc, ap₂, to_z, of_z, to_z-of_z, w64, SFits}
use Rattle.std.proofs.Math.Seq.{get_or-append_seam}
use Rattle.std.proofs.lemmas.List.{append-nil, take_more, take-append-drop, map-append, length-append, length-take, get_or-map, length-map}
use Rattle.std.proofs.lemmas.List.Concat.{flat_map-append}
use Rattle.std.proofs.lemmas.List.Elements.{filter-append}
use Rattle.std.proofs.lemmas.List.Filters.{length-filter_both}
use Rattle.std.proofs.lemmas.Int.{ints}
use Rattle.std.proofs.KnownBytes.{Appends-trans}
use Rattle.std.specs.Io.KnownBytes.{Appends}
use Rattle.std.specs.List.{flat_map}
use Rattle.std.specs.declared.option.Option.{Option}
use Rattle.complex_box.specs.Box.{box_ends}
use Rattle.complex_box.specs.Rows.{at, zero_cbox}
use Rattle.complex_box.specs.declared.CBox.{CBox}
use Rattle.io_ports.specs.Bytes.{AppendsPrefix, Writes}
use Rattle.limits.proofs.Grids.{in_widest, within_widest}
use Rattle.limits.specs.Limits.{IsGrid, most_box, most_printed}
use Rattle.points.specs.Points.{is_source, place}
use Rattle.points.specs.Limits.{InRange}
use Rattle.points.specs.declared.Mode.{Mode}
use Rattle.points.specs.declared.Point.{Point}
use Rattle.points.specs.declared.Points.{Points}
use Rattle.tree_field.specs.Field.{targets, target_box, target_boxes}
use Rattle.tree_field.specs.Lists.{TreeLists, AreTreeLists}
use Rattle.tree_field.specs.Work.{translations, pairs}
use Rattle.report_lines.specs.Counts.{target_counts}
use Rattle.field_report.specs.FieldText.{field_line, field_text, target_text}
use Rattle.report_lines.specs.Report.{report_head, target_line, work_line}
use Rattle.field_report.proofs.Pieces.{AppendsPrefix-then, AppendsPrefix-front, Writes-then}

targets-append : (xs ys : List Point) → targets (xs ++ ys) ≡ targets xs ++ targets ys
targets-append xs ys = filter-append (λ p. not (is_source p.kind)) xs ys

target-alone : (p : Point) (rest : List Point) → not (is_source p.kind) ≡ true → targets (p ∷ rest) ≡ p ∷ targets rest
target-alone p rest h = rw h refl

source-alone : (p : Point) (rest : List Point) → not (is_source p.kind) ≡ false → targets (p ∷ rest) ≡ targets rest
source-alone p rest h = rw h refl

pub targets-most : (xs : List Point) (i : ℕ) → length (targets (take i xs)) ≤ i
targets-most xs i =
    let both = length-filter_both (λ p. not (is_source p.kind)) (λ p. not (not (is_source p.kind))) (λ p. refl) (take i xs) in
    let few = length-take i xs in
    omega arith

-- ---- the point at a position, which is a target or not
module _ (xs : List Point) (i : ℕ) (d : Point) (lt : i < length xs) where
  more : take (i + 1) xs ≡ take i xs ++ get_or xs i d ∷ []
  more = take_more xs i d lt

  pub count-target : not (is_source (get_or xs i d).kind) ≡ true → length (targets (take (i + 1) xs)) ≡ length (targets (take i xs)) + 1
  count-target h = ap (λ ps. length (targets ps)) more ∙ ap length (targets-append (take i xs) (get_or xs i d ∷ []) ∙ ap (λ ps. targets (take i xs) ++ ps) (target-alone (get_or xs i d) [] h))
      ∙ length-append (targets (take i xs)) (get_or xs i d ∷ [])

  pub count-source : not (is_source (get_or xs i d).kind) ≡ false → length (targets (take (i + 1) xs)) ≡ length (targets (take i xs))
  count-source h = ap (λ ps. length (targets ps)) more ∙ ap length (targets-append (take i xs) (get_or xs i d ∷ []) ∙ ap (λ ps. targets (take i xs) ++ ps) (source-alone (get_or xs i d) [] h) ∙ append-nil (targets (take i xs)))

  -- its place among the targets
  seam : not (is_source (get_or xs i d).kind) ≡ true → targets xs ≡ targets (take i xs) ++ get_or xs i d ∷ targets (drop (i + 1) xs)
  seam h =
      ap targets (sym (take-append-drop (i + 1) xs) ∙ ap (λ ps. ps ++ drop (i + 1) xs) more ∙ append_assoc (take i xs) (get_or xs i d ∷ []) (drop (i + 1) xs))
      ∙ targets-append (take i xs) (get_or xs i d ∷ drop (i + 1) xs)
      ∙ ap (λ ps. targets (take i xs) ++ ps) (target-alone (get_or xs i d) (drop (i + 1) xs) h)

  pub target-in_range : not (is_source (get_or xs i d).kind) ≡ true → length (targets (take i xs)) < length (targets xs)
  target-in_range h = let e = ap length (seam h) ∙ length-append (targets (take i xs)) (get_or xs i d ∷ targets (drop (i + 1) xs)) in omega arith

  pub target-at : not (is_source (get_or xs i d).kind) ≡ true → get_or (targets xs) (length (targets (take i xs))) d ≡ get_or xs i d
  target-at h = ap (λ ps. get_or ps (length (targets (take i xs))) d) (seam h) ∙ get_or-append_seam (targets (take i xs)) (get_or xs i d) (targets (drop (i + 1) xs)) d

-- ---- the lines of the targets
module _ (mode : Mode) (points : List Point) (cap P : ℕ) (lists : TreeLists) where
  text-of : (xs ys : List Point) → targets xs ≡ targets ys → target_text mode points cap P lists xs ≡ target_text mode points cap P lists ys
  text-of xs ys e = ap (λ ts. flat_map (target_line mode) (map (field_line mode points cap P lists) ts)) e

  text-append : (xs ys : List Point) → target_text mode points cap P lists (xs ++ ys) ≡ target_text mode points cap P lists xs ++ target_text mode points cap P lists ys
  text-append xs ys =
      ap (λ ts. flat_map (target_line mode) (map (field_line mode points cap P lists) ts)) (targets-append xs ys)
      ∙ ap (flat_map (target_line mode)) (map-append (field_line mode points cap P lists) (targets xs) (targets ys))
      ∙ flat_map-append (target_line mode) (map (field_line mode points cap P lists) (targets xs)) (map (field_line mode points cap P lists) (targets ys))

  line-alone : (p : Point) → not (is_source p.kind) ≡ true → target_text mode points cap P lists (p ∷ []) ≡ target_line mode (field_line mode points cap P lists p)
  line-alone p h = ap (λ ts. flat_map (target_line mode) (map (field_line mode points cap P lists) ts)) (target-alone p [] h) ∙ append-nil (target_line mode (field_line mode points cap P lists p))

  -- the step of the loop, and its exits
  module _ (xs : List Point) (i : ℕ) (d : Point) (lt : i < length xs) where
    text-more : not (is_source (get_or xs i d).kind) ≡ true
        → target_text mode points cap P lists (take (i + 1) xs) ≡ target_text mode points cap P lists (take i xs) ++ target_line mode (field_line mode points cap P lists (get_or xs i d))
    text-more h =
        ap (target_text mode points cap P lists) (more xs i d lt) ∙ text-append (take i xs) (get_or xs i d ∷ [])
        ∙ ap (λ ts. target_text mode points cap P lists (take i xs) ++ ts) (line-alone (get_or xs i d) h)

    pub text-source : not (is_source (get_or xs i d).kind) ≡ false → target_text mode points cap P lists (take (i + 1) xs) ≡ target_text mode points cap P lists (take i xs)
    text-source h = text-of (take (i + 1) xs) (take i xs)
        (ap targets (more xs i d lt) ∙ targets-append (take i xs) (get_or xs i d ∷ []) ∙ ap (λ ps. targets (take i xs) ++ ps) (source-alone (get_or xs i d) [] h) ∙ append-nil (targets (take i xs)))

    pub text-step : not (is_source (get_or xs i d).kind) ≡ true → (before mid after : Option (List ℕ)) → Appends before mid (target_text mode points cap P lists (take i xs))
        → Appends mid after (target_line mode (field_line mode points cap P lists (get_or xs i d))) → Appends before after (target_text mode points cap P lists (take (i + 1) xs))
    text-step h before mid after p q = subst (Appends before after) (sym (text-more h)) (Appends-trans before mid after _ _ p q)

    pub text-exit : not (is_source (get_or xs i d).kind) ≡ true → (before mid after : Option (List ℕ)) → Appends before mid (target_text mode points cap P lists (take i xs))
        → AppendsPrefix mid after (target_line mode (field_line mode points cap P lists (get_or xs i d))) → AppendsPrefix before after (target_text mode points cap P lists xs)
    text-exit h before mid after p q =
        subst (AppendsPrefix before after) (sym (ap (target_text mode points cap P lists) (sym (take-append-drop (i + 1) xs)) ∙ text-append (take (i + 1) xs) (drop (i + 1) xs)))
        (AppendsPrefix-front before after _ (target_text mode points cap P lists (drop (i + 1) xs)) (subst (AppendsPrefix before after) (sym (text-more h)) (AppendsPrefix-then before mid after _ _ p q)))

  -- the box of the target at a position, from the boxes of all
  pub value-at : (values : List CBox) (i k : ℕ) (d : Point) → i < length points → not (is_source (get_or points i d).kind) ≡ true → k ≡ length (targets (take i points))
      → map box_ends values ≡ target_boxes points cap P lists → box_ends (at values k) ≡ target_box points cap P lists (place (get_or points i d))
  value-at values i k d lt h count e =
      let few = target-in_range points i d lt h in
      let b = box_ends zero_cbox in
      let len : length values ≡ length (targets points) = sym (length-map values box_ends) ∙ ap length e ∙ length-map (targets points) (λ p. target_box points cap P lists (place p)) in
      sym (get_or-map box_ends values k zero_cbox b (omega arith))
      ∙ ap (λ bs. get_or bs k b) e
      ∙ get_or-map (λ p. target_box points cap P lists (place p)) (targets points) k d b (omega arith)
      ∙ ap (λ p. target_box points cap P lists (place p)) (ap (λ n. get_or (targets points) n d) count ∙ target-at points i d lt h)

  -- there is a box for each target
  pub value-in_range : (values : List CBox) (i k : ℕ) (d : Point) → i < length points → not (is_source (get_or points i d).kind) ≡ true → k ≡ length (targets (take i points))
      → map box_ends values ≡ target_boxes points cap P lists → k < length values
  value-in_range values i k d lt h count e =
      let few = target-in_range points i d lt h in
      let len : length values ≡ length (targets points) = sym (length-map values box_ends) ∙ ap length e ∙ length-map (targets points) (λ p. target_box points cap P lists (place p)) in
      omega arith

  -- the line of a target as it is written
  abbrev written : Point → CBox → List ℕ
  written p v = target_line mode (record { x = to_z w64 (of_z w64 p.x); y = to_z w64 (of_z w64 p.y); counts = target_counts mode (box_ends v) })

  written-line : (grid : ℕ) (p : Point) (v : CBox) → IsGrid grid → InRange grid p → box_ends v ≡ target_box points cap P lists (place p) → written p v ≡ target_line mode (field_line mode points cap P lists p)
  written-line grid p v is range e =
      let inside = in_widest grid p.x p.y is range.place in
      let f : SFits w64 p.x = omega (arith, ints, inside) in
      let g : SFits w64 p.y = omega (arith, ints, inside) in
      rw (to_z-of_z f, to_z-of_z g) (ap (λ b. target_line mode (record { x = p.x; y = p.y; counts = target_counts mode b })) e)

  -- one target more is written, or a part of its line
  module _ (values : List CBox) (i k : ℕ) (d : Point) (v : CBox) (lt : i < length points) (h : not (is_source (get_or points i d).kind) ≡ true) (count : k ≡ length (targets (take i points)))
      (values_are : map box_ends values ≡ target_boxes points cap P lists) (grid : ℕ) (is : IsGrid grid) (range : InRange grid (get_or points i d)) (value_is : v ≡ at values k) (before mid after : Option (List ℕ))
      (held : Appends before mid (target_text mode points cap P lists (take i points)))
    where
      line : written (get_or points i d) v ≡ target_line mode (field_line mode points cap P lists (get_or points i d))
      line = written-line grid (get_or points i d) v is range (ap box_ends value_is ∙ value-at values i k d lt h count values_are)

      pub written-step : Appends mid after (written (get_or points i d) v) → Appends before after (target_text mode points cap P lists (take (i + 1) points))
      written-step q = text-step points i d lt h before mid after held (subst (Appends mid after) line q)

      pub written-exit : AppendsPrefix mid after (written (get_or points i d) v) → AppendsPrefix before after (target_text mode points cap P lists points)
      written-exit q = text-exit points i d lt h before mid after held (subst (AppendsPrefix mid after) line q)

-- the boxes of each grid are small enough to be printed
pub box_printed : (grid : ℕ) → IsGrid grid → most_box grid ≤ most_printed
box_printed grid is = let w = within_widest grid is in omega (arith, w.box)

-- the lists of one grid are those of another that is the same
pub on_grid : (grid other : ℕ) (points : List Point) (cap : ℕ) (lists : TreeLists) → grid ≡ other → AreTreeLists grid points cap lists → AreTreeLists other points cap lists
on_grid grid other points cap lists e are = subst (λ n. AreTreeLists n points cap lists) e are

-- what is said of the lines of a list with a capacity, said of those that are equal to them
pub of-same : (mode : Mode) (grid : ℕ) (list points : List Point) (limit cap P : ℕ) (lists : TreeLists) (F : List ℕ → Type 0) → list ≡ points → limit ≡ cap → (AreTreeLists grid list limit lists → F (target_text mode list limit P lists list))
    → AreTreeLists grid points cap lists → F (target_text mode points cap P lists points)
of-same mode grid list points limit cap P lists F e k h =
    subst (λ n. AreTreeLists grid points n lists → F (target_text mode points n P lists points)) k
    (subst (λ ps. AreTreeLists grid ps limit lists → F (target_text mode ps limit P lists ps)) e h)

-- ---- the whole report, in three pieces
module _ (points : Points) (order cap : ℕ) (lists : TreeLists) (made summed : ℕ) (made_is : made ≡ translations points.list lists) (summed_is : summed ≡ pairs points.list lists) where
  whole : report_head points.mode order cap ++ (target_text points.mode points.list cap order lists points.list ++ (work_line made summed ++ codes "end\n")) ≡ field_text points order cap lists
  whole =
      ap₂ (λ m n. report_head points.mode order cap ++ (target_text points.mode points.list cap order lists points.list ++ (work_line m n ++ codes "end\n"))) made_is summed_is
      ∙ sym (append_assoc (report_head points.mode order cap) _ _)
      ∙ sym (append_assoc (report_head points.mode order cap ++ target_text points.mode points.list cap order lists points.list) (work_line (translations points.list lists) (pairs points.list lists)) (codes "end\n"))

  pub head-exit : (before after : Option (List ℕ)) → AppendsPrefix before after (report_head points.mode order cap) → AppendsPrefix before after (field_text points order cap lists)
  head-exit before after p = subst (AppendsPrefix before after) whole (AppendsPrefix-front before after (report_head points.mode order cap) (target_text points.mode points.list cap order lists points.list ++ (work_line made summed ++ codes "end\n")) p)

  pub targets-exit : (before mid after : Option (List ℕ)) → Appends before mid (report_head points.mode order cap) → AppendsPrefix mid after (target_text points.mode points.list cap order lists points.list)
      → AppendsPrefix before after (field_text points order cap lists)
  targets-exit before mid after p q = subst (AppendsPrefix before after) whole
      (AppendsPrefix-then before mid after (report_head points.mode order cap) (target_text points.mode points.list cap order lists points.list ++ (work_line made summed ++ codes "end\n")) p
      (AppendsPrefix-front mid after (target_text points.mode points.list cap order lists points.list) (work_line made summed ++ codes "end\n") q))

  pub end-written : {T E : Type 0} (result : Result T E) (before first second after : Option (List ℕ)) → Appends before first (report_head points.mode order cap) → Appends first second (target_text points.mode points.list cap order lists points.list)
      → Writes result second after (work_line made summed ++ codes "end\n") → Writes result before after (field_text points order cap lists)
  end-written result before first second after p q r = subst (Writes result before after) whole
      (Writes-then result before first after (report_head points.mode order cap) (target_text points.mode points.list cap order lists points.list ++ (work_line made summed ++ codes "end\n")) p
      (Writes-then result first second after (target_text points.mode points.list cap order lists points.list) (work_line made summed ++ codes "end\n") q r))

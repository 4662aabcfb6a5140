-- A report is certified: the printed counts contain the exact direct sums, and one entry accounts for each target and source.
use Rattle.std.proofs.Common.{◌≡◌, ◌∙◌, ◌≤◌, ap, append-nil, length, refl, subst, sym, Some, None, IfSome, ℕ, List, [], ◌∷◌, ◌++◌, map, pos, ◌^◌, ℤ, arith, neg_ℤ, ◌-ℤ◌, ◌*ℤ◌, ◌≤ℤ◌}
use Rattle.std.specs.Prelude.{All}
use Rattle.std.proofs.lemmas.Int.{ints}
use Rattle.std.proofs.KnownBytes.{Appends-kept}
use Rattle.std.proofs.lemmas.List.Elements.{All-cons, All-tail, recursion_from_All}
use Rattle.std.specs.Io.KnownBytes.{Consumes, Keeps}
use Rattle.std.specs.List.{AllZip, AllByRecursion}
use Rattle.std.specs.declared.option.Option.{Option}
use Rattle.exact_math.specs.Ends.{Ends, BoxEnds, BoxEndsContain, neg_ends}
use Rattle.exact_math.specs.Orders.{IsOrder}
use Rattle.exact_math.proofs.Orders.{order_bounds}
use Rattle.report_lines.proofs.Bounds.{CountsContain-box}
use Rattle.report_lines.specs.Counts.{count_ends, target_counts}
use Rattle.cert_text.specs.Certificate.{SpellsCert}
use Rattle.field_certificate.proofs.FieldRanges.{field_text_spells}
use Rattle.field_certificate.specs.FieldCertificate.{field_certificate}
use Rattle.field_report.specs.FieldText.{field_line}
use Rattle.field_widths.proofs.PrintedWidths.{printed_counts_narrow}
use Rattle.field_widths.specs.Bound.{NoWider, PrintsNoWider, width_bound}
use Rattle.limits.proofs.Grids.{grid_positive, version_has_grid}
use Rattle.limits.specs.Limits.{grid_of, most_certificate}
use Rattle.near_field.specs.DirectSum.{direct_sum}
use Rattle.points.specs.Points.{place}
use Rattle.points.specs.declared.Mode.{Mode}
use Rattle.points.specs.declared.Mode.TheVariants.{Field, Velocity}
use Rattle.points.specs.declared.Point.{Point}
use Rattle.points.specs.declared.Points.{Points}
use Rattle.quadtree.proofs.Limits.{in_grid}
use Rattle.quadtree.specs.Tree.{AreInGrid}
use Rattle.tree_field.proofs.Whole.{field_contains}
use Rattle.tree_field.proofs.Work.{translations_are_few}
use Rattle.tree_field.specs.Field.{targets, target_box}
use Rattle.tree_field.specs.Lists.{TreeLists}
use Rattle.fmm_program.proofs.EntryLines.{one_entry_line}
use Rattle.fmm_program.specs.Answers.{IsCertified, IsReported, LineContains, LineIsNarrow, SolveAnswers}
use Rattle.fmm_program.specs.Endings.{IsEnding, Flow, Output, flow}
use Rattle.fmm_program.specs.Runs.{CertifiedRun, SolveRun}
use Rattle.fmm_program.specs.declared.status.Status.{Status}
use Rattle.fmm_program.specs.declared.status.Status.TheVariants.{Done}

lines_contain : (points : Points) (cap P : ℕ) (lists : TreeLists) (some : List Point)
    → AllByRecursion (λ t. BoxEndsContain (pos (2 ^ 40)) (target_box points.list cap P lists (place t)) (direct_sum (place t) points.list)) some
    → AllZip (LineContains points) some (map (field_line points.mode points.list cap P lists) some)
lines_contain points cap P lists [] h = tt
lines_contain points cap P lists (t ∷ some) h = (
  (refl, refl, CountsContain-box points.mode (target_box points.list cap P lists (place t)) (direct_sum (place t) points.list) h.0),
  lines_contain points cap P lists some h.1,
)

-- the counts of `v` are as far apart as those of the imaginary part
neg_no_wider : (P s : ℕ) (points : List Point) (counts : Ends) → NoWider P s points counts → NoWider P s points (neg_ends counts)
neg_no_wider P s points counts h = subst (λ d. (pos s *ℤ d) ≤ℤ pos (width_bound P s points)) (apart counts.lo counts.hi) h
  where
    apart : (lo hi : ℤ) → hi -ℤ lo ≡ neg_ℤ lo -ℤ neg_ℤ hi
    apart lo hi = omega (arith, ints)

counts_narrow : (P s : ℕ) (points : List Point) (mode : Mode) (b : BoxEnds) → PrintsNoWider P s points b
    → NoWider P s points (target_counts mode b).first × NoWider P s points (target_counts mode b).second
counts_narrow P s points Field b h = (h.re, h.im)
counts_narrow P s points Velocity b h = (h.re, neg_no_wider P s points (count_ends b.im) h.im)

lines_narrow : (points : Points) (cap P s : ℕ) (lists : TreeLists) (some : List Point) → All (PrintsNoWider P s points.list) (map (λ t. target_box points.list cap P lists (place t)) some)
    → All (LineIsNarrow P s points.list) (map (field_line points.mode points.list cap P lists) some)
lines_narrow points cap P s lists [] h = λ k d lt. absurd (omega (arith, lt))
lines_narrow points cap P s lists (t ∷ some) h =
    let box = λ (t : Point). target_box points.list cap P lists (place t) in
    All-cons (LineIsNarrow P s points.list) (field_line points.mode points.list cap P lists t) (map (field_line points.mode points.list cap P lists) some) (counts_narrow P s points.list points.mode (box t) (h 0 (box t) (omega arith))) (lines_narrow points cap P s lists some (All-tail (PrintsNoWider P s points.list) (box t) (map box some) h))

pub certified : (order cap : ℕ) (input : List ℕ) (output : Output) → IsOrder order → IsReported order cap input output → IsCertified order cap input output
certified order cap input output is_order s =
    let points = s.depth.points in
    let grid = grid_of points.version in
    let some = grid_positive grid (version_has_grid points.version) in
    let inside : AreInGrid grid points.list = in_grid grid points.list s.depth.read.1.limits.within.range in
    let boxes = field_contains grid points.list cap order s.lists some (order_bounds order is_order).0 inside s.lists_are in
    record {
      points = points;
      read = s.depth.read;
      has_order = s.depth.has_order;
      lists = s.lists;
      lists_are = s.lists_are;
      lines = map (field_line points.mode points.list cap order s.lists) (targets points.list);
      report = s.report;
      contain = lines_contain points cap order s.lists (targets points.list) (recursion_from_All _ (targets points.list) boxes);
      narrow = λ side smallest. lines_narrow points cap order side s.lists (targets points.list) (printed_counts_narrow grid points.list cap order s.lists (version_has_grid points.version) is_order inside s.lists_are side smallest);
      certificate = field_certificate points cap order s.lists;
      cert_text = s.certificate;
      spelled = λ short. subst (λ t. SpellsCert t (field_certificate points cap order s.lists)) (sym s.certificate)
          (field_text_spells points cap order s.lists (record {
            limits = s.depth.read.1.limits;
            order = record { is_order = is_order; most = s.depth.has_order };
            tree = s.depth.has_tree;
            lists_are = s.lists_are;
            short = subst (λ t. length t ≤ most_certificate grid) s.certificate short;
          }));
      one_entry = one_entry_line points cap order s.lists some inside s.lists_are;
      few = translations_are_few points.list s.lists;
    }

-- all that the source told came
pub whole : (left rest : Option (List ℕ)) (input : List ℕ) → Consumes left rest input → IfSome left (λ _. rest ≡ Some []) → IfSome left (λ l. (l ≡ input) × (rest ≡ Some []))
whole None rest input p h = tt
whole (Some l) None input p h = absurd p
whole (Some l) (Some r) input p h = (p ∙ ap (λ x. input ++ x) nothing ∙ append-nil input, h)
  where
    nothing : r ≡ []
    nothing = cc

-- a run of `solve` that was carried out, where nothing was left, and then a flush
pub certified_flushed : (order cap : ℕ) (left rest : Option (List ℕ)) (r s : ℕ) (before mid after : Option (List ℕ)) (cert : Flow) → Keeps mid after → (b m a : ℕ) (status : Status) → IsOrder order → status ≡ Done
    → IfSome left (λ _. rest ≡ Some []) → SolveRun order cap status (flow left rest r s) (flow before mid b m) cert → CertifiedRun order cap (flow left rest r s) (flow before after b a) cert
certified_flushed order cap left rest r s before mid after cert kept b m a status is_order done nothing run =
    let came = run.came in
    let e = subst (λ s. IsEnding (SolveAnswers order cap came.0) s (flow before mid b m) cert) done came.2 in
    record {
      input = came.0;
      output = e.0;
      consumed = came.1;
      whole = whole left rest came.0 came.1 nothing;
      certified = certified order cap came.0 e.0 is_order e.1;
      written = Appends-kept before mid after e.0.out e.2 kept;
      cert_written = e.3;
    }

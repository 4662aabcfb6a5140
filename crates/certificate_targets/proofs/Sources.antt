-- The sources of a certificate over a list within its limits.
use Rattle.std.proofs.Common.{ℕ, ◌≡◌, ◌<◌, ◌≤◌, List, length, map, Bool, ◌==◌, filter, sym, ap, ◌∙◌, subst, arith}
use Rattle.std.specs.Prelude.{All}
use Rattle.std.proofs.lemmas.List.{get_or-map, length-map}
use Rattle.std.proofs.lemmas.List.Elements.{All-filter, All-map, All-weaker}
use Rattle.std.proofs.lemmas.List.Sums.{length-filter, count_by-le-length}
use Rattle.cert_text.specs.Certificate.{Certificate, IsCertificate}
use Rattle.certificate_nodes.specs.AtNodes.{sources_at}
use Rattle.certificate_rules.specs.LineRules.{HeadHolds, presented}
use Rattle.certificate_rules.proofs.GivenPoints.{sources_hold, sources_are}
use Rattle.certificate_rules.proofs.Ranges.{at_in_nodes}
use Rattle.limits.proofs.Grids.{version_has_grid, within_widest}
use Rattle.limits.specs.Limits.{IsGrid, grid_of, most_points, widest_grid}
use Rattle.points.proofs.Ranges.{range_in_widest}
use Rattle.points.specs.Limits.{InRange, WithinLimits}
use Rattle.points.specs.Points.{is_source}
use Rattle.points.specs.declared.Point.{Point}
use Rattle.points.specs.declared.Points.{Points}
use Rattle.soundness.specs.Accounts.{Accounting, LeafSource}
use Rattle.soundness.specs.Computed.{point_of}

kept_less : {X : Type 0} (p : X → Bool) (xs : List X) → length (filter p xs) ≤ length xs
kept_less p xs = let f = length-filter p xs in let g = count_by-le-length p xs in omega (arith, f, g)

of_images : {X Y : Type 0} (P : Y → Type 0) (f : X → Y) (xs : List X) → All P (map f xs) → All (λ x. P (f x)) xs
of_images P f xs all k d lt = subst P (get_or-map f xs k d (f d) lt) (all k (f d) (omega (arith, lt, length-map xs f)))

module _ (points : Points) (c : Certificate) (is : IsCertificate c) (within : WithinLimits points) (head : HeadHolds points c) where
  abbrev A : Accounting
  A = presented points c

  as_many : length c.ats ≡ length points.list
  as_many = is.ats_are ∙ head.point_count

  -- ---- of all
  pub sources_in_nodes : All (λ (x : LeafSource). x.leaf < A.nodes) A.sources
  sources_in_nodes = sources_hold (λ z n. n < c.head.cells) points.list c.ats as_many (λ k lt. at_in_nodes c is k (omega (arith, lt, head.point_count)))

  known : IsGrid (grid_of points.version)
  known = version_has_grid points.version

  in_range : All (λ (x : LeafSource). InRange widest_grid x.point) A.sources
  in_range = of_images (InRange widest_grid) point_of A.sources
      (subst (All (InRange widest_grid)) (sym (sources_are points.list c.ats as_many))
      (All-filter (λ p. is_source p.kind) (InRange widest_grid) points.list (All-weaker (InRange (grid_of points.version)) (InRange widest_grid) (λ p r. range_in_widest (grid_of points.version) p known r) points.list within.within.range)))

  few : length A.sources ≤ most_points widest_grid
  few =
      let images = length-map A.sources point_of in
      let same = ap length (sources_are points.list c.ats as_many) in
      let kept = kept_less (λ (p : Point). is_source p.kind) points.list in
      omega (arith, images, same, kept, within.within.count, (within_widest (grid_of points.version) known).points)

  -- ---- of a node
  pub range_at : (n : ℕ) → All (InRange widest_grid) (sources_at A n)
  range_at n = All-map (InRange widest_grid) point_of (filter (λ (x : LeafSource). x.leaf == n) A.sources) (All-filter (λ (x : LeafSource). x.leaf == n) (λ (x : LeafSource). InRange widest_grid x.point) A.sources in_range)

  pub few_at : (n : ℕ) → length (sources_at A n) ≤ most_points widest_grid
  few_at n =
      let images = length-map (filter (λ (x : LeafSource). x.leaf == n) A.sources) point_of in
      let kept = kept_less (λ (x : LeafSource). x.leaf == n) A.sources in
      omega (arith, images, kept, few)

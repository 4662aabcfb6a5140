-- What stands in the leaves of a presented accounting, where the lines of its points hold.
use Rattle.std.proofs.Common.{ℕ, zero, suc, ◌≡◌, ◌<◌, ◌≤◌, ◌+◌, Bool, true, false, ◌||◌, List, [], ◌∷◌, length, get_or, map, filter, refl, sym, ap, ◌∙◌, subst, arith}
use Rattle.std.specs.Prelude.{All, ◌==◌, not, sum_by}
use Rattle.std.specs.List.{range_with_len}
use Rattle.std.proofs.lemmas.Bool.{and_from, eq-eqb, eqb-true, lt-ltb, true≢false, false_from_ne_true}
use Rattle.std.proofs.lemmas.List.Elements.{All-map, All-filter, filter_passes}
use Rattle.std.proofs.lemmas.List.Filters.{length-filter_both}
use Rattle.std.proofs.lemmas.List.Sums.{sum_by-cons}
use Rattle.std.proofs.lemmas.List.Folds.{list_any_at}
use Rattle.std.proofs.lemmas.List.FromFn.{get_or-range_with_len, length-range_with_len}
use Rattle.exact_math.specs.Gaussian.{Gaussian}
use Rattle.exact_math.proofs.Lists.{filter_same}
use Rattle.cell_name.specs.Square.{Holds}
use Rattle.cert_text.specs.Certificate.{Certificate, IsCertificate}
use Rattle.limits.proofs.Grids.{version_has_grid, within_widest}
use Rattle.limits.specs.Limits.{grid_of, most_weight, widest_grid}
use Rattle.points.specs.Limits.{WithinLimits, weight64, total_weight}
use Rattle.points.specs.Points.{place, is_source}
use Rattle.points.specs.declared.Point.{Point}
use Rattle.points.specs.declared.Points.{Points}
use Rattle.soundness.specs.Accounts.{Accounting, LeafSource, is_leaf, names_parent, under, sources_under}
use Rattle.soundness.specs.Computed.{point_of}
use Rattle.soundness.proofs.Nodes.{strong, under-root, under-parent}
use Rattle.certificate_nodes.proofs.Sums.{sum_by-kept}
use Rattle.certificate_rules.specs.LineRules.{presented, node_of, nth_place, HeadHolds, PointHolds}
use Rattle.certificate_rules.proofs.GivenPoints.{sources_hold, sources_are}
use Rattle.certificate_rules.proofs.Ranges.{at_in_nodes, root_parent, parent_less}

-- ---- lists
pub sum_by-map : {X Y : Type 0} (f : Y → ℕ) (h : X → Y) (xs : List X) → sum_by f (map h xs) ≡ sum_by (λ x. f (h x)) xs
sum_by-map f h [] = refl
sum_by-map f h (x ∷ xs) = sum_by-cons f (h x) (map h xs) ∙ ap (λ n. f (h x) + n) (sum_by-map f h xs) ∙ sym (sum_by-cons (λ x. f (h x)) x xs)

pub fewer : {X : Type 0} (p : X → Bool) (xs : List X) → length (filter p xs) ≤ length xs
fewer p xs = omega (arith, length-filter_both p (λ x. not (p x)) (λ x. refl) xs)

or_false : (a : Bool) → a || false ≡ a
or_false true = refl
or_false false = refl

or_no : (a b : Bool) → (b ≡ true → ⊥) → a || b ≡ a
or_no a b never = ap (λ c. a || c) (false_from_ne_true b never) ∙ or_false a

-- ---- a leaf
module _ (A : Accounting) where
  -- the sources in a node, and under it
  abbrev pub in_node : ℕ → List LeafSource
  in_node n = filter (λ x. x.leaf == n) A.sources

  child_seen : (n d : ℕ) → d < A.nodes → 0 < d → A.parent d ≡ n → is_leaf A n ≡ true → ⊥
  child_seen n d lt positive e leaf =
      let inside : d < length (range_with_len 0 A.nodes) = omega (arith, lt, length-range_with_len 0 A.nodes) in
      let at : get_or (range_with_len 0 A.nodes) d 0 ≡ d = omega (arith, get_or-range_with_len 0 A.nodes d 0 lt) in
      let names : names_parent A n d ≡ true = and_from _ _ (lt-ltb 0 d positive) (eq-eqb (A.parent d) n e) in
      let any = list_any_at (names_parent A n) (range_with_len 0 A.nodes) d 0 inside (subst (λ m. names_parent A n m ≡ true) (sym at) names) in
      true≢false (sym leaf ∙ ap not any)

  module _ (root : A.parent 0 ≡ 0) (parents : (n : ℕ) → 0 < n → A.parent n < n) (n : ℕ) (leaf : is_leaf A n ≡ true) where
    -- nothing but itself is under a leaf
    pub under_leaf : (m : ℕ) → m < A.nodes → under A.parent m n ≡ (m == n)
    under_leaf = strong (λ m. m < A.nodes → under A.parent m n ≡ (m == n)) step
      where
        step : (m : ℕ) → ((k : ℕ) → k < m → k < A.nodes → under A.parent k n ≡ (k == n)) → m < A.nodes → under A.parent m n ≡ (m == n)
        step zero ih lt = under-root A.parent root parents n
        step (suc m) ih lt =
            let less = parents (suc m) (omega arith) in
            let e = under-parent A.parent root parents (suc m) n (omega arith) in
            let above = ih (A.parent (suc m)) less (omega (arith, less, lt)) in
            e ∙ ap (λ b. (suc m == n) || b) above ∙ or_no (suc m == n) (A.parent (suc m) == n) (λ h. child_seen n (suc m) lt (omega arith) (eqb-true _ _ h) leaf)

    pub under_is_in : All (λ x. x.leaf < A.nodes) A.sources → sources_under A n ≡ in_node n
    under_is_in stand = filter_same (λ x. under A.parent x.leaf n) (λ x. x.leaf == n) A.sources (λ k d lt. under_leaf (get_or A.sources k d).leaf (stand k d lt))

-- a node that a point names is a leaf of the accounting, and its square holds the place
pub record StandsIn (A : Accounting) (z : Gaussian) (n : ℕ) : Type 0 where
  pub in_range : n < A.nodes
  pub leaf : is_leaf A n ≡ true
  pub held : Holds (A.cell n) z.re z.im

-- ---- the sources of a list that is within its limits
module _ (points : Points) (c : Certificate) (is : IsCertificate c) (within : WithinLimits points) (head : HeadHolds points c) where
  abbrev A : Accounting
  A = presented points c

  as_many : length c.ats ≡ length points.list
  as_many = is.ats_are ∙ head.point_count

  points_are : map point_of A.sources ≡ filter (λ p. is_source p.kind) points.list
  points_are = sources_are points.list c.ats as_many

  -- those that a test keeps
  module _ (p : LeafSource → Bool) where
    abbrev kept : List Point
    kept = map point_of (filter p A.sources)

    pub kept_light : total_weight kept ≤ most_weight widest_grid
    kept_light =
        let a = sum_by-map weight64 point_of (filter p A.sources) in
        let b = sum_by-kept p (λ x. weight64 x.point) A.sources in
        let d = sum_by-map weight64 point_of A.sources in
        let e = ap (sum_by weight64) points_are in
        let f = sum_by-kept (λ p. is_source p.kind) weight64 points.list in
        let most = (within_widest (grid_of points.version) (version_has_grid points.version)).weight in
        omega (arith, a, b, d, e, f, within.within.weight, most)

  module _ (each : (k : ℕ) → k < c.head.points → PointHolds points c k) where
    stands : (k : ℕ) → k < length points.list → StandsIn A (nth_place points.list k) (node_of points c k)
    stands k lt =
        let below : k < c.head.points = omega (arith, lt, head.point_count) in
        record { in_range = at_in_nodes c is k below; leaf = (each k below).leaf; held = (each k below).held }

    pub sources_stand : All (λ x. StandsIn A (place x.point) x.leaf) A.sources
    sources_stand = sources_hold (StandsIn A) points.list c.ats as_many stands

    pub in_leaf : (n : ℕ) → is_leaf A n ≡ true → sources_under A n ≡ in_node A n
    in_leaf n leaf = under_is_in A (root_parent c is) (parent_less c is) n leaf (λ k d lt. (sources_stand k d lt).in_range)

    pub held_in : (n : ℕ) → All (λ p. Holds (A.cell n) p.x p.y) (map point_of (in_node A n))
    held_in n = All-map (λ p. Holds (A.cell n) p.x p.y) point_of (in_node A n) (λ k d lt.
        let stand = All-filter (λ x. x.leaf == n) (λ x. StandsIn A (place x.point) x.leaf) A.sources sources_stand k d lt in
        let here = eqb-true _ _ (filter_passes (λ x. x.leaf == n) A.sources k d lt) in
        subst (λ m. Holds (A.cell m) (get_or (in_node A n) k d).point.x (get_or (in_node A n) k d).point.y) here stand.held)

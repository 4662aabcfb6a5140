-- What has to be far from a cell for an entry with a leaf is what stands in the leaf.
use Rattle.std.proofs.Common.{ℕ, ◌≡◌, ◌<◌, Bool, true, false, cond, List, [], ◌∷◌, length, map, filter, refl, sym, ap, ◌∙◌, subst, subst₂, arith}
use Rattle.std.specs.Prelude.{All, IsTrue, ◌==◌, ◌↔◌}
use Rattle.std.proofs.lemmas.Bool.{true≢false}
use Rattle.std.proofs.lemmas.List.Elements.{All-nil, All-cons, All-head, All-tail, All-map, All-filter, All-weaker, filter_passes}
use Rattle.exact_math.specs.Gaussian.{Gaussian}
use Rattle.cell_name.specs.Square.{Square}
use Rattle.certificate_lines.specs.Known.{IsKnown}
use Rattle.certificate_nodes.specs.Presented.{PresentedModel, accounting_of}
use Rattle.certificate_rules.specs.LineRules.{node_of}
use Rattle.certificate_rules.proofs.GivenPoints.{sources_hold, targets_hold}
use Rattle.certificate_rules.proofs.Ranges.{at_in_nodes, root_parent, parent_less}
use Rattle.letters.specs.declared.Letter.TheVariants.{W, X}
use Rattle.limits.specs.Grid.{IsInGrid}
use Rattle.limits.specs.Limits.{grid_of}
use Rattle.points.specs.Limits.{InRange}
use Rattle.points.specs.Points.{place}
use Rattle.points.specs.declared.Point.{Point}
use Rattle.soundness.specs.Accounts.{Accounting, LeafSource, LeafTarget, is_leaf, under}
use Rattle.soundness.specs.Computed.{point_of}
use Rattle.soundness.specs.Rules.{Apart}
use Rattle.soundness.specs.Squares.{IsFarFrom}
use Rattle.certificate_nodes.specs.AtNodes.{sources_at, places_at}
use Rattle.certificate_lines.proofs.Leaves.{sources_in_leaf, targets_in_leaf}

-- ---- lists
unmapped : {X Y : Type 0} (Q : Y → Type 0) (f : X → Y) (xs : List X) → All Q (map f xs) → All (λ x. Q (f x)) xs
unmapped Q f [] h = All-nil (λ x. Q (f x))
unmapped Q f (x ∷ xs) h = All-cons (λ x. Q (f x)) x xs (All-head Q (f x) (map f xs) h) (unmapped Q f xs (All-tail Q (f x) (map f xs) h))

unfiltered : {X : Type 0} (test : X → Bool) (Q : X → Type 0) (xs : List X) → All Q (filter test xs) → All (λ x. test x ≡ true → Q x) xs
unfiltered test Q [] h = All-nil (λ x. test x ≡ true → Q x)
unfiltered {X} test Q (x ∷ xs) h = one (unfiltered test Q xs) (test x) refl h
  where
    one : (All Q (filter test xs) → All (λ x. test x ≡ true → Q x) xs)
        → (b : Bool) → test x ≡ b → All Q (cond b (x ∷ filter test xs) (filter test xs)) → All (λ x. test x ≡ true → Q x) (x ∷ xs)
    one rest true e h = All-cons (λ x. test x ≡ true → Q x) x xs (λ yes. All-head Q x (filter test xs) h) (rest (All-tail Q x (filter test xs) h))
    one rest false e h = All-cons (λ x. test x ≡ true → Q x) x xs (λ yes. absurd (true≢false (sym yes ∙ e))) (rest h)

filtered : {X : Type 0} (test : X → Bool) (Q : X → Type 0) (xs : List X) → All (λ x. test x ≡ true → Q x) xs → All Q (filter test xs)
filtered test Q xs h k d lt = All-filter test (λ x. test x ≡ true → Q x) xs h k d lt (filter_passes test xs k d lt)

-- what holds of all that pass a test holds of the images of what a test that agrees keeps
images_of : {X Y : Type 0} (test same : X → Bool) (f : X → Y) (Q : Y → Type 0) (xs : List X) → filter test xs ≡ filter same xs
    → All Q (map f (filter same xs)) ↔ All (λ x. test x ≡ true → Q (f x)) xs
images_of test same f Q xs e = (
  λ h. unfiltered test (λ x. Q (f x)) xs (subst (All (λ x. Q (f x))) (sym e) (unmapped Q f (filter same xs) h)),
  λ h. All-map Q f (filter same xs) (subst (All (λ x. Q (f x))) e (filtered test (λ x. Q (f x)) xs h)),
)

pub chain : (b : Bool) (P Q : Type 0) → IsTrue b ↔ P → P ↔ Q → IsTrue b ↔ Q
chain b P Q f g = (λ t. g.0 (f.0 t), λ q. f.1 (g.1 q))

-- ---- a certificate's points
module _ (g : PresentedModel) (known : IsKnown g) where
  abbrev A : Accounting
  A = accounting_of g

  as_many : length g.certificate.ats ≡ length g.points.list
  as_many = known.certificate.ats_are ∙ known.head.point_count

  -- the node of each point is one of the cells
  below : (k : ℕ) → k < length g.points.list → node_of g.points g.certificate k < A.nodes
  below k lt = at_in_nodes g.certificate known.certificate k (omega (arith, lt, known.head.point_count))

  sources_below : All (λ (x : LeafSource). x.leaf < A.nodes) A.sources
  sources_below = sources_hold (λ z n. n < A.nodes) g.points.list g.certificate.ats as_many below

  targets_below : All (λ (t : LeafTarget). t.leaf < A.nodes) A.targets
  targets_below = targets_hold (λ z n. n < A.nodes) g.points.list g.certificate.ats g.certificate.targets as_many below

  -- points in range of the list's version are in the grid of the cell of a node
  pub in_grid : (n bits : ℕ) (ps : List Point) → bits ≡ (A.cell n).grid → All (InRange (grid_of g.points.version)) ps → All (λ p. IsInGrid bits p.x p.y) ps
  in_grid n bits ps e range = All-weaker (InRange (grid_of g.points.version)) (λ p. IsInGrid bits p.x p.y)
      (λ p r. subst (λ b. IsInGrid b p.x p.y) (ap grid_of (sym known.head.version) ∙ sym e) r.place) ps range

  -- ---- entries
  pub sources_apart : (b n : ℕ) (s : Square) (ps : List Point) → s ≡ A.cell b → ps ≡ sources_at A n → is_leaf A n ≡ true
      → All (λ p. IsFarFrom s (place p)) ps ↔ Apart A X b n
  sources_apart b n s ps e same leaf =
      subst₂ (λ s ps. All (λ p. IsFarFrom s (place p)) ps ↔ Apart A X b n) (sym e) (sym same)
      (images_of (λ (x : LeafSource). under A.parent x.leaf n) (λ x. x.leaf == n) point_of (λ p. IsFarFrom (A.cell b) (place p)) A.sources
      (sources_in_leaf A (root_parent g.certificate known.certificate) (parent_less g.certificate known.certificate) n leaf sources_below))

  far_places : (s : Square) (ps : List Point) (zs : List Gaussian) → map place ps ≡ zs → All (λ p. IsFarFrom s (place p)) ps ↔ All (IsFarFrom s) zs
  far_places s ps zs e = (λ h. subst (All (IsFarFrom s)) e (All-map (IsFarFrom s) place ps h), λ h. unmapped (IsFarFrom s) place ps (subst (All (IsFarFrom s)) (sym e) h))

  pub targets_apart : (n d : ℕ) (s : Square) (ps : List Point) → s ≡ A.cell d → map place ps ≡ places_at A n → is_leaf A n ≡ true
      → All (λ p. IsFarFrom s (place p)) ps ↔ Apart A W n d
  targets_apart n d s ps e same leaf =
      let there = far_places (A.cell d) ps (places_at A n) same in
      let under_it = images_of (λ (t : LeafTarget). under A.parent t.leaf n) (λ t. t.leaf == n) (λ t. t.place) (IsFarFrom (A.cell d)) A.targets
      (targets_in_leaf A (root_parent g.certificate known.certificate) (parent_less g.certificate known.certificate) n leaf targets_below) in
      subst (λ s. All (λ p. IsFarFrom s (place p)) ps ↔ Apart A W n d) (sym e) (λ h. under_it.0 (there.0 h), λ h. there.1 (under_it.1 h))

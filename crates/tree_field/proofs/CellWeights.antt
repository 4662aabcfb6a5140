-- What the sources of a cell weigh, and that its quarters weigh no more together.
use Rattle.std.proofs.Common.{ℕ, ◌≡◌, ◌≢◌, ◌<◌, ◌≤◌, List, Bool, true, false, ◌&&◌, filter, refl, sym, ap, ap₂, ◌∙◌, subst, arith}
use Rattle.std.specs.Prelude.{All, AllPairs, sum_by}
use Rattle.std.proofs.lemmas.Bool.{and_parts, and_from}
use Rattle.std.proofs.lemmas.List.Elements.{All-weaker, All-from_recursion, filter_agree}
use Rattle.std.proofs.lemmas.List.Sums.{sum_by-le-sum_by}
use Rattle.cell_name.specs.Square.{Square, child, Holds, holds_test}
use Rattle.cell_name.proofs.Cells.{Holds-parent}
use Rattle.cell_name.proofs.HoldsTest.{Holds-from_test, test-from_Holds}
use Rattle.cell_name.proofs.Quarters.{lies_in_one_child, IsQuarter, quarters_are, quarters_differ}
use Rattle.points.specs.Points.{is_source, pole, dipole}
use Rattle.points.specs.Limits.{weight64, total_weight}
use Rattle.points.specs.declared.Point.{Point}
use Rattle.cell_name.specs.Quarters.{quarters}
use Rattle.quadtree.proofs.Distinct.{Contains-filter}
use Rattle.row_recursions.proofs.Points.{weight-le-weight64}
use Rattle.tree_field.specs.Field.{sources_in}
use Rattle.exact_math.proofs.Lists.{All-from_members, AllPairs-both, filter-filter}
use Rattle.soundness.proofs.Sums.{sum_by-same}
use Rattle.tree_field.proofs.CellSources.{sum_by-filter}
use Rattle.tree_field.proofs.Disjoint.{sum_by-disjoint}
use Rattle.tree_field.specs.Sizes.{WeightSizes}
use Rattle.exact_math.specs.Sizes.{weight_at}
use Rattle.quadtree.specs.Tree.{is_source_in}

abbrev pub weight64_in : List Point → Square → ℕ
weight64_in points c = sum_by weight64 (sources_in points c)

pub weight64_in-light : (points : List Point) (c : Square) → weight64_in points c ≤ total_weight points
weight64_in-light points c = sum_by-filter weight64 (is_source_in c) points

-- ---- the weights of the quarters
-- a quarter by its halves
record IsHalved (c q : Square) : Type 0 where
  right : ℕ
  top : ℕ
  is : q ≡ child c right top

halved : (c : Square) → All (IsHalved c) (quarters c)
halved c = All-from_recursion (IsHalved c) (quarters c) (by 0 0, (by 0 1, (by 1 0, (by 1 1, tt))))
  where
    by : (right top : ℕ) → IsHalved c (child c right top)
    by right top = record { right = right; top = top; is = refl }

-- the point is a source in one of two cells at most
abbrev NotInBoth : Point → Square → Square → Type 0
NotInBoth p a b = is_source_in a p ≡ true → is_source_in b p ≡ true → ⊥

module _ (c : Square) (lt : c.level < c.grid) where
  -- a quarter holds no more than its cell
  source_above : (q : Square) → IsQuarter c q → (p : Point) → is_source_in q p ≡ true → is_source_in c p ≡ true
  source_above q is p t =
      let both = and_parts (is_source p.kind) (holds_test q p.x p.y) t in
      let up : Holds c p.x p.y = subst (λ d. Holds d p.x p.y) is.parent_is (Holds-parent q p.x p.y (omega (arith, is.level)) (omega (arith, is.level, is.of_grid)) (Holds-from_test q p.x p.y both.1)) in
      and_from (is_source p.kind) (holds_test c p.x p.y) both.0 (test-from_Holds c p.x p.y up)

  sources_of_quarter : (points : List Point) (q : Square) → IsQuarter c q → filter (is_source_in q) (sources_in points c) ≡ sources_in points q
  sources_of_quarter points q is =
      filter-filter (is_source_in q) (is_source_in c) points
      ∙ filter_agree (λ p. is_source_in c p && is_source_in q p) (is_source_in q) (λ p. implied (is_source_in c p) (is_source_in q p) (source_above q is p)) points
    where
      implied : (a b : Bool) → (b ≡ true → a ≡ true) → (a && b) ≡ b
      implied true b h = refl
      implied false false h = refl
      implied false true h = h refl

  -- two quarters with a source in common are one
  same_quarter : (p : Point) → is_source_in c p ≡ true → (a b : Square) → IsHalved c a → IsHalved c b → is_source_in a p ≡ true → is_source_in b p ≡ true → a ≡ b
  same_quarter p t a b h k ta tb =
      let one = lies_in_one_child c p.x p.y lt (Holds-from_test c p.x p.y (and_parts (is_source p.kind) (holds_test c p.x p.y) t).1) in
      let held : (d : Square) → is_source_in d p ≡ true → Holds d p.x p.y = λ d e. Holds-from_test d p.x p.y (and_parts (is_source p.kind) (holds_test d p.x p.y) e).1 in
      let u = one.no_other h.right h.top (subst (λ d. Holds d p.x p.y) h.is (held a ta)) in
      let v = one.no_other k.right k.top (subst (λ d. Holds d p.x p.y) k.is (held b tb)) in
      h.is ∙ ap₂ (child c) (u.0 ∙ sym v.0) (u.1 ∙ sym v.1) ∙ sym k.is

  quarters_apart : (p : Point) → is_source_in c p ≡ true → AllPairs (NotInBoth p) (quarters c)
  quarters_apart p t = AllPairs-both (IsHalved c) (λ a b. a ≢ b) (NotInBoth p) (quarters c) (halved c) (quarters_differ c)
      (λ a b h k differ ta tb. differ (same_quarter p t a b h k ta tb))

  pub quarters_weight : (points : List Point) → sum_by (weight64_in points) (quarters c) ≤ weight64_in points c
  quarters_weight points =
      let inside : List Point = sources_in points c in
      let e = sum_by-same (λ q. sum_by weight64 (filter (is_source_in q) inside)) (weight64_in points) (quarters c)
      (All-weaker (IsQuarter c) (λ q. sum_by weight64 (filter (is_source_in q) inside) ≡ weight64_in points q) (λ q is. ap (sum_by weight64) (sources_of_quarter points q is)) (quarters c) (quarters_are c)) in
      let h = sum_by-disjoint is_source_in weight64 (quarters c) inside
      (All-from_members (λ p. AllPairs (NotInBoth p) (quarters c)) inside (λ p m. quarters_apart p (Contains-filter (is_source_in c) points p m).1)) in
      omega (arith, e, h)

-- ---- the weights at an order
abbrev pub weighs : ℕ → Point → ℕ
weighs P p = weight_at P (pole p.kind) (dipole p.kind)

pub weighs-light : (P : ℕ) (points : List Point) → P ≤ 32 → sum_by (weighs P) points ≤ total_weight points
weighs-light P points few = sum_by-le-sum_by (weighs P) weight64 points (λ p. weight-le-weight64 P p few)

pub weight_sizes : WeightSizes
weight_sizes points P c few =
    let a = sum_by-filter (weighs P) (is_source_in c) points in
    let b = weighs-light P points few in
    omega (arith, a, b)

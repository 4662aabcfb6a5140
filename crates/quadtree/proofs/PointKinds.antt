-- The points of a cell, by their positions, and their kinds.
use Rattle.std.proofs.Common.{ℕ, ◌≡◌, ◌<◌, List, length, get_or, Option, Some, None, Bool, true, refl, sym, ap, ◌∙◌, arith}
use Rattle.std.specs.Prelude.{Contains, IsTrue, ◌↔◌, slice_get}
use Rattle.std.specs.List.{list_any, range_with_len}
use Rattle.std.proofs.lemmas.Bool.{false≢true}
use Rattle.std.proofs.lemmas.List.Folds.{Any-from_list_any, list_any-from_Any}
use Rattle.std.proofs.lemmas.List.FromFn.{get_or-range_with_len, length-range_with_len}
use Rattle.std.proofs.lemmas.Option.{slice_get-get_or, slice_get_within, get_or_from_slice_get}
use Rattle.points.specs.declared.Point.{Point}
use Rattle.cell_name.specs.Square.{Square, Holds}
use Rattle.quadtree.specs.Members.{holds_point, holds_position, members_of}
use Rattle.quadtree.specs.Nodes.{is_target_at, is_source_at}
use Rattle.quadtree.specs.Tree.{has_source, has_target}
use Rattle.cell_name.proofs.HoldsTest.{Holds-from_test, test-from_Holds}
use Rattle.quadtree.proofs.Occupants.{target_in, target_there, source_in, source_there}
use Rattle.quadtree.proofs.Distinct.{Contains-filter, Contains-into_filter}

-- the point at a position
pub record IsPointAt (points : List Point) (k : ℕ) (p : Point) : Type 0 where
  pub inside : k < length points
  pub here : get_or points k p ≡ p

pub point_at : (points : List Point) (k : ℕ) (p : Point) → slice_get points k ≡ Some p → IsPointAt points k p
point_at points k p e = record { inside = slice_get_within points k p e; here = get_or_from_slice_get points k p p e }

pub slice_get-at : (points : List Point) (k : ℕ) (p : Point) → IsPointAt points k p → slice_get points k ≡ Some p
slice_get-at points k p h = slice_get-get_or points k p h.inside ∙ ap Some h.here

-- a cell's member is the position of a point that the cell holds
pub record IsMember (points : List Point) (c : Square) (k : ℕ) (p : Point) : Type 0 where
  pub point_is : slice_get points k ≡ Some p
  pub held : Holds c p.x p.y

pub member_point : (points : List Point) (c : Square) (k : ℕ) → Contains (members_of points c) k → (p : Point) × IsMember points c k p
member_point points c k h = by_point (slice_get points k) refl (Contains-filter (λ j. holds_position c points j) (range_with_len 0 (length points)) k h).1
  where
    by_point : (o : Option Point) → slice_get points k ≡ o → holds_point c o ≡ true → (p : Point) × IsMember points c k p
    by_point (Some p) e t = (p, record { point_is = e; held = Holds-from_test c p.x p.y t })
    by_point None e t = absurd (false≢true t)

pub Contains-members_of : (points : List Point) (c : Square) (k : ℕ) (p : Point) → IsMember points c k p → Contains (members_of points c) k
Contains-members_of points c k p h =
    let at = point_at points k p h.point_is in
    let inside : k < length (range_with_len 0 (length points)) = omega (arith, at.inside, length-range_with_len 0 (length points)) in
    let e : get_or (range_with_len 0 (length points)) k k ≡ k = get_or-range_with_len 0 (length points) k k at.inside ∙ omega arith in
    Contains-into_filter (λ j. holds_position c points j) (range_with_len 0 (length points)) k (k, inside, e) (ap (holds_point c) h.point_is ∙ test-from_Holds c p.x p.y h.held)

-- a member is the position of a listed point
member_listed : (points : List Point) (c : Square) (k : ℕ) (p : Point) → IsMember points c k p → Contains points p
member_listed points c k p h = let at = point_at points k p h.point_is in (k, at.inside, at.here)

-- and a listed point has a position
member_of_listed : (points : List Point) (c : Square) (p : Point) → Contains points p → Holds c p.x p.y → (k : ℕ) × IsMember points c k p
member_of_listed points c p h held = (h.0, record { point_is = slice_get-at points h.0 p (record { inside = h.1; here = h.2 }); held = held })

pub has_target_is : (points : List Point) (c : Square) (b : Bool) → b ≡ list_any (λ k. is_target_at (slice_get points k)) (members_of points c) → IsTrue b ↔ IsTrue (has_target points c)
has_target_is points c b e = (
  λ t.
      let found = Any-from_list_any (λ k. is_target_at (slice_get points k)) (members_of points c) (sym e ∙ t) in
      let m = member_point points c found.1 (found.0, found.2, found.3) in
      target_there points c (record { point = m.0; listed = member_listed points c found.1 m.0 m.1; held = m.1.held; passes = sym (ap is_target_at m.1.point_is) ∙ found.4 }),
  λ h.
      let o = target_in points c h in
      let m = member_of_listed points c o.point o.listed o.held in
      let at = Contains-members_of points c m.0 o.point m.1 in
      e ∙ list_any-from_Any (λ k. is_target_at (slice_get points k)) (members_of points c) (at.0, m.0, at.1, at.2, ap is_target_at m.1.point_is ∙ o.passes),
)

pub has_source_is : (points : List Point) (c : Square) (b : Bool) → b ≡ list_any (λ k. is_source_at (slice_get points k)) (members_of points c) → IsTrue b ↔ IsTrue (has_source points c)
has_source_is points c b e = (
  λ t.
      let found = Any-from_list_any (λ k. is_source_at (slice_get points k)) (members_of points c) (sym e ∙ t) in
      let m = member_point points c found.1 (found.0, found.2, found.3) in
      source_there points c (record { point = m.0; listed = member_listed points c found.1 m.0 m.1; held = m.1.held; passes = sym (ap is_source_at m.1.point_is) ∙ found.4 }),
  λ h.
      let o = source_in points c h in
      let m = member_of_listed points c o.point o.listed o.held in
      let at = Contains-members_of points c m.0 o.point m.1 in
      e ∙ list_any-from_Any (λ k. is_source_at (slice_get points k)) (members_of points c) (at.0, m.0, at.1, at.2, ap is_source_at m.1.point_is ∙ o.passes),
)

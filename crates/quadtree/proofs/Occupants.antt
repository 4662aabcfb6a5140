-- The sources and the targets of a cell, from the tests and back.
use Rattle.std.proofs.Common.{ℕ, ◌≡◌, ◌<◌, ◌≤◌, List, Bool, true, not, ap, ◌∙◌}
use Rattle.std.specs.Prelude.{Contains, ◌&&◌}
use Rattle.std.specs.List.{list_any}
use Rattle.std.proofs.lemmas.Bool.{and_parts, and_from}
use Rattle.std.proofs.lemmas.List.Folds.{Any-from_list_any, list_any-from_Any}
use Rattle.cell_name.specs.Square.{Square, Holds, parent, holds_test}
use Rattle.cell_name.proofs.Cells.{Holds-parent}
use Rattle.cell_name.proofs.HoldsTest.{Holds-from_test, test-from_Holds}
use Rattle.points.specs.Points.{is_source}
use Rattle.points.specs.declared.Point.{Point}
use Rattle.quadtree.specs.Tree.{count_in, has_source, has_target}
use Rattle.quadtree.proofs.Counts.{count_by-listed}

-- a point of the list that lies in the cell and passes a test
pub record Occupant (test : Point → Bool) (points : List Point) (c : Square) : Type 0 where
  pub point : Point
  pub listed : Contains points point
  pub held : Holds c point.x point.y
  pub passes : test point ≡ true

module _ (test : Point → Bool) (points : List Point) (c : Square) where
  pub occupant : list_any (λ p. test p && holds_test c p.x p.y) points ≡ true → Occupant test points c
  occupant e =
      let f = Any-from_list_any (λ p. test p && holds_test c p.x p.y) points e in
      let parts = and_parts (test f.1) (holds_test c f.1.x f.1.y) f.4 in
      record { point = f.1; listed = (f.0, f.2, f.3); held = Holds-from_test c f.1.x f.1.y parts.1; passes = parts.0 }

  pub occupied : Occupant test points c → list_any (λ p. test p && holds_test c p.x p.y) points ≡ true
  occupied o = list_any-from_Any (λ p. test p && holds_test c p.x p.y) points
      (o.listed.0, o.point, o.listed.1, o.listed.2, and_from (test o.point) (holds_test c o.point.x o.point.y) o.passes (test-from_Holds c o.point.x o.point.y o.held))

abbrev pub is_target : Point → Bool
is_target p = not (is_source p.kind)

pub target_in : (points : List Point) (c : Square) → has_target points c ≡ true → Occupant is_target points c
target_in points c e = occupant is_target points c e

pub target_there : (points : List Point) (c : Square) → Occupant is_target points c → has_target points c ≡ true
target_there points c o = occupied is_target points c o

pub source_in : (points : List Point) (c : Square) → has_source points c ≡ true → Occupant (λ p. is_source p.kind) points c
source_in points c e = occupant (λ p. is_source p.kind) points c e

pub source_there : (points : List Point) (c : Square) → Occupant (λ p. is_source p.kind) points c → has_source points c ≡ true
source_there points c o = occupied (λ p. is_source p.kind) points c o

-- a cell with a source has a point
pub occupied_from_source : (points : List Point) (c : Square) → has_source points c ≡ true → 1 ≤ count_in points c
occupied_from_source points c e =
    let o = source_in points c e in
    count_by-listed (λ p. holds_test c p.x p.y) points o.point o.listed (test-from_Holds c o.point.x o.point.y o.held)

-- the parent of a cell with a target has one
pub has_target-parent : (points : List Point) (b : Square) → 0 < b.level → b.level ≤ b.grid → has_target points b ≡ true → has_target points (parent b) ≡ true
has_target-parent points b lo hi e =
    let o = target_in points b e in
    target_there points (parent b) (record { point = o.point; listed = o.listed; held = Holds-parent b o.point.x o.point.y lo hi o.held; passes = o.passes })

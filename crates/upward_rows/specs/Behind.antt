-- The places of the last cells of a tree.
use Rattle.std.specs.Prelude.{ℕ, ◌-◌, ◌≤◌, List, length, All}
use Rattle.field_basis.specs.FieldPlaces.{IsMultipolePlace}
use Rattle.field_basis.specs.Place.{PlaceModel, place_at}
use Rattle.points.specs.declared.Point.{Point}
use Rattle.quadtree.specs.TreeModel.{TreeModel, size}

-- the number of the first cell that has a place behind
abbrev pub first_behind : TreeModel → List PlaceModel → ℕ
first_behind tree behind = size tree - length behind

-- the cell has a place behind, which holds its multipole row
pub record IsBehind (P : ℕ) (points : List Point) (tree : TreeModel) (behind : List PlaceModel) (n : ℕ) : Type 0 where
  pub is_behind : first_behind tree behind ≤ n
  pub row : IsMultipolePlace P points tree n (place_at behind (n - first_behind tree behind))

-- each of some cells does
pub record AreBehind (P : ℕ) (points : List Point) (tree : TreeModel) (behind : List PlaceModel) (cells : List ℕ) : Type 0 where
  pub few : length behind ≤ size tree
  pub each : All (IsBehind P points tree behind) cells

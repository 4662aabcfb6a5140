-- What a finished place holds: what it is of its cell or its target, and the work that was done for it.
use Rattle.std.specs.Prelude.{ℕ, ◌≡◌, List}
use Rattle.exact_math.specs.Units.{unit}
use Rattle.complex_box.specs.Box.{BoxContains, BoxWithin}
use Rattle.limits.specs.Limits.{most_box}
use Rattle.near_field.specs.DirectSum.{direct_sum}
use Rattle.points.specs.declared.Point.{Point}
use Rattle.quadtree.specs.TreeModel.{TreeModel}
use Rattle.field_basis.specs.Basis.{BasisModel, target_place}
use Rattle.field_basis.specs.Counts.{pairs_of_target, shifts_into, translations_into}
use Rattle.field_basis.specs.FieldPlaces.{IsLocalPlace, IsMultipolePlace, IsTargetBox}
use Rattle.field_basis.specs.Place.{PlaceModel}
use Rattle.field_basis.specs.Target.{TargetModel}

-- the multipole row of cell n, and the rows that were shifted into it
pub record IsMadeUp (P : ℕ) (points : List Point) (tree : TreeModel) (n : ℕ) (place : PlaceModel) : Type 0 where
  pub place_is : IsMultipolePlace P points tree n place
  pub translations_are : place.translations ≡ shifts_into points tree n

-- the local row and the radius of cell n, and the translations into it
pub record IsMadeLocal (P : ℕ) (b : BasisModel) (n : ℕ) (place : PlaceModel) : Type 0 where
  pub place_is : IsLocalPlace P b n place
  pub translations_are : place.translations ≡ translations_into b n

-- the box of the k-th target, which contains the direct sum there, and the pairs that were summed for it
pub record IsMadeTarget (P : ℕ) (b : BasisModel) (k : ℕ) (place : TargetModel) : Type 0 where
  pub value_is : IsTargetBox P b k place.value
  pub contains : BoxContains unit place.value (direct_sum (target_place b k) b.points)
  pub small : BoxWithin (most_box b.tree.grid) place.value
  pub pairs_are : place.pairs ≡ pairs_of_target b k

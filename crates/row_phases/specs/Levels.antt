-- Which levels of a tree are finished.
use Rattle.std.specs.Prelude.{ℕ, ◌≡◌, ◌<◌, ◌≤◌, List, length}
use Rattle.field_basis.specs.Basis.{BasisModel}
use Rattle.field_basis.specs.MadePlaces.{IsMadeLocal, IsMadeTarget, IsMadeUp}
use Rattle.field_basis.specs.Place.{PlaceModel, place_at}
use Rattle.field_basis.specs.Target.{TargetModel, target_at}
use Rattle.quadtree.specs.TreeModel.{size, square_of}

-- there is a place for each cell, and the multipole rows of all levels from this one on are made
pub record AreMadeFrom (P : ℕ) (b : BasisModel) (level : ℕ) (places : List PlaceModel) : Type 0 where
  pub as_many : length places ≡ size b.tree
  pub each : (n : ℕ) → n < size b.tree → level ≤ (square_of b.tree n).level → IsMadeUp P b.points b.tree n (place_at places n)

-- there is a place for each cell, and the local rows of all levels before this one are made
pub record AreMadeBefore (P : ℕ) (b : BasisModel) (level : ℕ) (places : List PlaceModel) : Type 0 where
  pub as_many : length places ≡ size b.tree
  pub each : (n : ℕ) → n < size b.tree → (square_of b.tree n).level < level → IsMadeLocal P b n (place_at places n)

-- ---- all of a phase's kind
-- the multipole rows of all cells
pub record AreAllMadeUp (P : ℕ) (b : BasisModel) (places : List PlaceModel) : Type 0 where
  pub as_many : length places ≡ size b.tree
  pub each : (n : ℕ) → n < size b.tree → IsMadeUp P b.points b.tree n (place_at places n)

-- the local rows of all cells
pub record AreAllMadeLocal (P : ℕ) (b : BasisModel) (places : List PlaceModel) : Type 0 where
  pub as_many : length places ≡ size b.tree
  pub each : (n : ℕ) → n < size b.tree → IsMadeLocal P b n (place_at places n)

-- the boxes of all targets
pub record AreAllMadeTargets (P : ℕ) (b : BasisModel) (places : List TargetModel) : Type 0 where
  pub as_many : length places ≡ length b.targets
  pub each : (k : ℕ) → k < length b.targets → IsMadeTarget P b k (target_at places k)

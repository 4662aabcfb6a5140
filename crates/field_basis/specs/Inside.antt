-- How a basis is kept.
use Rattle.std.specs.Prelude.{ℕ}
use Rattle.field_basis.specs.Basis.{BasisModel, IsBasis}
use Rattle.field_basis.specs.declared.basis.Basis.TheInside.{Inside}

abbrev pub basis_seen : {P : ℕ} → Inside P → BasisModel
basis_seen b = record { points = b.points.items; cap = b.cap; tree = b.tree; lists = b.lists; weights = b.weights.items; targets = b.targets.items }

abbrev pub stands : {P : ℕ} → Inside P → Type 0
stands {P} b = IsBasis P (basis_seen b)

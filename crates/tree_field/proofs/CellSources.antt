-- The sources of a cell, and what is summed over those that a test keeps.
use Rattle.std.proofs.Common.{ℕ, ◌≤◌, List, Bool, not, filter, refl, arith}
use Rattle.std.specs.Prelude.{All, sum_by}
use Rattle.std.proofs.lemmas.Bool.{and_parts}
use Rattle.std.proofs.lemmas.List.Elements.{Contains-get_or}
use Rattle.std.proofs.lemmas.List.Filters.{sum_by-filter_both}
use Rattle.cell_name.specs.Square.{Square, Holds}
use Rattle.cell_name.proofs.HoldsTest.{Holds-from_test}
use Rattle.points.specs.declared.Point.{Point}
use Rattle.quadtree.proofs.Distinct.{Contains-filter}
use Rattle.tree_field.specs.Field.{sources_in}
use Rattle.quadtree.specs.Tree.{is_source_in}

abbrev pub IsHeld : Square → Point → Type 0
IsHeld c p = Holds c p.x p.y

pub sources_held : (points : List Point) (c : Square) → All (IsHeld c) (sources_in points c)
sources_held points c i d lt =
    let kept = Contains-filter (is_source_in c) points _ (Contains-get_or (sources_in points c) i d lt) in
    Holds-from_test c _ _ (and_parts _ _ kept.1).1

pub sum_by-filter : {X : Type 0} (f : X → ℕ) (p : X → Bool) (xs : List X) → sum_by f (filter p xs) ≤ sum_by f xs
sum_by-filter f p xs = omega (arith, sum_by-filter_both p (λ x. not (p x)) (λ x. refl) f xs)

-- Sums over the sources of a cell: of a constant and a multiple of each, and that a cell with a source has one at least.
use Rattle.std.proofs.Common.{ℕ, ◌≡◌, ◌+◌, ◌*◌, ◌≤◌, List, [], ◌∷◌, length, true, ap, ◌∙◌, arith}
use Rattle.std.specs.Prelude.{sum_by}
use Rattle.std.proofs.lemmas.Bool.{and_from}
use Rattle.std.proofs.lemmas.List.Sums.{sum_by-cons}
use Rattle.cell_name.specs.Square.{Square}
use Rattle.cell_name.proofs.HoldsTest.{test-from_Holds}
use Rattle.points.specs.Points.{is_source}
use Rattle.points.specs.declared.Point.{Point}
use Rattle.quadtree.specs.Tree.{has_source, is_source_in}
use Rattle.quadtree.proofs.Distinct.{Contains-into_filter}
use Rattle.quadtree.proofs.Occupants.{source_in}
use Rattle.field_widths.specs.Laws.{source_count}

-- a multiple of each member and a constant
pub sum_by-affine : {A : Type 0} (m k : ℕ) (w : A → ℕ) (xs : List A) → sum_by (λ x. m * w x + k) xs ≡ m * sum_by w xs + length xs * k
sum_by-affine m k w [] = omega arith
sum_by-affine m k w (x ∷ xs) =
    sum_by-cons (λ x. m * w x + k) x xs ∙ omega (arith, sum_by-affine m k w xs, ap (λ n. m * n) (sum_by-cons w x xs))

-- a cell with a source has at least one
pub some_source : (points : List Point) (c : Square) → has_source points c ≡ true → 1 ≤ source_count points c
some_source points c e =
    let o = source_in points c e in
    let h = Contains-into_filter (is_source_in c) points o.point o.listed (and_from (is_source o.point.kind) _ o.passes (test-from_Holds c o.point.x o.point.y o.held)) in
    omega (arith, h.1)

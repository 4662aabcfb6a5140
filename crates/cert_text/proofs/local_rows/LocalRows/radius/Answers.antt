-- A row with no ends has the radius 0.
use Rattle.std.proofs.Common.{◌≡◌, ◌<◌, ℤ, List, length, to_z, of_z, ap, ◌∙◌, arith, tests}
use Rattle.std.proofs.lemmas.Int.{ints}
use Rattle.std.specs.Int.{w128}
use Rattle.cert_text.specs.Certificate.{nth_number}
use Rattle.cert_text.specs.Rows.{row_at}
use Rattle.cert_text.proofs.StoredRows.{local_length, no_radius, numbers_length, radius_at}
use Rattle.cert_text.proofs.local_rows.LocalRows.radius.Goals as goal

pub row-requires : goal.row-requires
row-requires c =
    let count = local_length c.self.inside.radii.items c.self.inside.rows c.self.invariant in
    omega (arith, c.requires, ap (λ (l : List (List ℤ)). length l) c.self.view_is, count, c.self.invariant)

pub index-requires : goal.index-requires
index-requires c =
    let count = local_length c.self.inside.radii.items c.self.inside.rows c.self.invariant in
    omega (arith, c.requires, ap (λ (l : List (List ℤ)). length l) c.self.view_is, count, c.self.inside.radii.ok.0)

pub returns-then-is_empty : goal.returns-then-is_empty
returns-then-is_empty c =
    let none : length (row_at c.self.inside.rows c.args.n) ≡ 0 = grind (arith, tests, numbers_length c.row.result.now, ap (λ (zs : List ℤ). length zs) c.row.ensures) in
    no_radius c.self.inside.radii.items c.self.inside.rows c.args.n c.self.invariant none ∙ ap (λ (l : List (List ℤ)). nth_number (row_at l c.args.n) 0) c.self.view_is

pub returns-else-is_empty : goal.returns-else-is_empty
returns-else-is_empty c =
    let count = local_length c.self.inside.radii.items c.self.inside.rows c.self.invariant in
    let some : 0 < length (row_at c.self.inside.rows c.args.n) = grind (arith, tests, numbers_length c.row.result.now, ap (λ (zs : List ℤ). length zs) c.row.ensures) in
    let held : to_z w128 (of_z w128 c.index.result.now) ≡ c.index.result.now = omega (arith, ints) in
    let inside : c.args.n < length c.self.inside.radii.items = omega (arith, c.requires, ap (λ (l : List (List ℤ)). length l) c.self.view_is, count) in
    held ∙ radius_at c.self.inside.radii.items c.self.inside.rows c.args.n c.index.result.now c.self.invariant inside some c.index.ensures ∙ ap (λ (l : List (List ℤ)). nth_number (row_at l c.args.n) 0) c.self.view_is

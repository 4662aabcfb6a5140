use Rattle.std.proofs.Common.{◌≡◌, arith, to_z, of_z, w64}
use Rattle.std.specs.Prelude.{◌+ℤ◌, ◌≤ℤ◌}
use Rattle.std.proofs.lemmas.Int.{ints}
use Rattle.cell_name.proofs.Comparisons.{last_of_two}
use Rattle.cell_name.proofs.cell.meet.Goals as goal

pub returns-then-a-b : goal.returns-then-a-b
returns-then-a-b c =
    let e : to_z w64 (of_z w64 c.args.b) ≡ c.args.b = omega (arith, ints) in
    let f : to_z w64 (of_z w64 (to_z w64 (of_z w64 c.args.a) +ℤ to_z w64 (of_z w64 c.args.s))) ≡ c.args.a +ℤ c.args.s = omega (arith, ints) in
    let first : c.args.a ≤ℤ (c.args.b +ℤ c.args.t) = omega (arith, ints) in
    last_of_two _ c.args.b (c.args.a +ℤ c.args.s) _ _ e f first

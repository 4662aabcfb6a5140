-- A side is at most that of the widest grid.
use Rattle.std.proofs.Common.{arith, ◌≤◌, ◌-◌, ◌^◌}
use Rattle.std.proofs.lemmas.Int.{ints}
use Rattle.std.proofs.Math.Pow.{pow_mono}
use Rattle.limits.proofs.Grids.{within_widest}
use Rattle.cell_name.proofs.cell.Cell.side.Goals as goal

pub returns-clause-at_most : goal.returns-clause-at_most
returns-clause-at_most c =
    let few = (within_widest c.args.self.grid c.args.self.known_grid).bits in
    let le : c.args.self.grid - c.args.self.level ≤ 20 = omega (arith, few) in
    let power : 2 ^ (c.args.self.grid - c.args.self.level) ≤ 2 ^ 20 = pow_mono le in
    omega (arith, ints, power)

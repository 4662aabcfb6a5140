use Rattle.std.proofs.Common.{arith}
use Rattle.truncation.proofs.Tails.{pair_tail_le, single_tail_le}
use Rattle.row_tests.proofs.radii.radii.Goals as goal

pub add_single-requires-clause-room : goal.add_single-requires-clause-room
add_single-requires-clause-room g c = let small = single_tail_le 4 in let none = c.new-one.ensures in omega (arith, small, none)

pub add_single-requires-2-clause-room : goal.add_single-requires-2-clause-room
add_single-requires-2-clause-room g c = let small = single_tail_le 4 in let none = c.new-nine.ensures in omega (arith, small, none)

pub add_pair-requires-clause-room : goal.add_pair-requires-clause-room
add_pair-requires-clause-room g c = let small = pair_tail_le 4 in let none = c.new-seen.ensures in omega (arith, small, none)

pub add_pair-requires-2-clause-room : goal.add_pair-requires-2-clause-room
add_pair-requires-2-clause-room g c =
    let small = pair_tail_le 4 in let smaller = pair_tail_le 8 in
    let none = c.new-seen.ensures in let first = c.add_pair.ensures.added in
    omega (arith, small, smaller, none, first)

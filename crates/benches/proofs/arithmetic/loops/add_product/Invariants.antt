use Rattle.std.proofs.Common.{◌*◌, ◌^◌}
use Rattle.exact_math.specs.Ends.{BoxEndsWithin}
use Rattle.benches.proofs.arithmetic.loops.add_product.Given as goal

abbrev pub invariant-loop-k : goal.invariant-loop-k
invariant-loop-k l = BoxEndsWithin (l.k * 2 ^ 97) l.acc

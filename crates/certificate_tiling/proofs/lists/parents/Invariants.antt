use Rattle.std.proofs.Common.{◌≡◌, map}
use Rattle.std.specs.List.{range_with_len}
use Rattle.certificate_nodes.specs.Presented.{accounting_of}
use Rattle.certificate_tiling.proofs.lists.parents.Given as goal

abbrev pub invariant-loop-n : goal.invariant-loop-n
invariant-loop-n l = l.parents.items ≡ map (accounting_of l.given).parent (range_with_len 0 l.n)

use Rattle.std.proofs.Common.{◌≡◌, map}
use Rattle.std.specs.List.{range_with_len}
use Rattle.certificate_nodes.specs.Keys.{parent_at}
use Rattle.certificate_nodes.proofs.keys.parents.Given as goal

abbrev pub invariant-loop-n : goal.invariant-loop-n
invariant-loop-n l = l.parents.items ≡ map (parent_at l.cert) (range_with_len 0 l.n)

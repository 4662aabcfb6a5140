use Rattle.std.proofs.Common.{◌≡◌, map}
use Rattle.std.specs.List.{range_with_len}
use Rattle.certificate_nodes.specs.Keys.{key_at}
use Rattle.certificate_nodes.proofs.keys.point_keys.Given as goal

abbrev pub invariant-loop-k : goal.invariant-loop-k
invariant-loop-k l = l.keys.items ≡ map (key_at l.cert l.sources l.points) (range_with_len 0 l.k)

use Rattle.std.proofs.Common.{◌≡◌, map}
use Rattle.std.specs.List.{range_with_len}
use Rattle.certificate_nodes.specs.Keys.{child_key}
use Rattle.certificate_nodes.proofs.keys.child_keys.Given as goal

abbrev pub invariant-loop-n : goal.invariant-loop-n
invariant-loop-n l = l.keys.items ≡ map (child_key l.cert) (range_with_len 0 l.n)

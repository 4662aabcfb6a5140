use Rattle.std.proofs.Common.{◌≡◌, map}
use Rattle.std.specs.List.{range_with_len}
use Rattle.certificate_nodes.specs.Keys.{entry_key}
use Rattle.certificate_nodes.proofs.keys.entry_keys.Given as goal

abbrev pub invariant-loop-e : goal.invariant-loop-e
invariant-loop-e l = l.keys.items ≡ map (entry_key l.cert) (range_with_len 0 l.e)

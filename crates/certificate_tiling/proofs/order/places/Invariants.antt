use Rattle.std.proofs.Common.{◌≡◌, length}
use Rattle.std.specs.List.{range_with_len}
use Rattle.certificate_tiling.specs.Order.{nodes_of}
use Rattle.certificate_tiling.proofs.order.places.Given as goal

abbrev pub invariant-loop-n : goal.invariant-loop-n
invariant-loop-n l = record {
  nodes : nodes_of l.visits.items ≡ range_with_len 0 l.n;
  next_len : length l.next.items ≡ length l.parents;
}

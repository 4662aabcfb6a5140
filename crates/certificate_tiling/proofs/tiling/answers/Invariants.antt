use Rattle.std.proofs.Common.{ℕ, ◌≡◌, ◌<◌, length, get_or}
use Rattle.certificate_nodes.specs.Presented.{accounting_of, node_count}
use Rattle.certificate_tiling.specs.Order.{nodes_of}
use Rattle.certificate_tiling.specs.Walk.{CoversAt, Tells}
use Rattle.certificate_tiling.proofs.tiling.answers.Given as goal

abbrev pub invariant-loop-visit : goal.invariant-loop-visit
invariant-loop-visit l = record {
  at : CoversAt (accounting_of l.given) l.at l.cover;
  at_inside : l.at < node_count l.given;
  len : length l.tiled.items ≡ node_count l.given;
  told : (k : ℕ) → k < l.visit-index → Tells (accounting_of l.given) l.tiled.items (get_or (nodes_of l.order) k 0);
}

use Rattle.std.proofs.Common.{◌≡◌, ◌++◌, map, drop}
use Rattle.accounting_text.specs.Given.{given_sources}
use Rattle.certificate_nodes.specs.Presented.{accounting_of}
use Rattle.certificate_tiling.specs.Walk.{leaves_of}
use Rattle.certificate_tiling.proofs.lists.leaves.Given as goal

abbrev pub invariant-loop-k : goal.invariant-loop-k
invariant-loop-k l = l.leaves.items ++ map (λ x. x.leaf) (given_sources (drop l.k l.given.points.list) (drop l.k l.given.certificate.ats)) ≡ leaves_of (accounting_of l.given)

-- A sort keeps what it sorts.
use Rattle.std.proofs.Common.{subst}
use Rattle.std.specs.Prelude.{IsPermutation}
use Rattle.std.proofs.lemmas.List.Sorted.{IsPermutation-map}
use Rattle.certificate_tiling.specs.declared.order.Visit.{Visit}
use Rattle.certificate_tiling.specs.Order.{nodes_of}
use Rattle.certificate_tiling.proofs.order.visits.Goals as goal

pub returns : goal.returns
returns c = subst (λ ns. IsPermutation ns (nodes_of c.sort_unstable.new.self.items)) c.in_ok-visits.ensures
    (IsPermutation-map (λ (v : Visit). v.node) c.in_ok-visits.visits.items c.sort_unstable.new.self.items c.sort_unstable.ensures.permutation)

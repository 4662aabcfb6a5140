-- The order in which the nodes are visited.
use Rattle.std.specs.Prelude.{ℕ, List, map}
use Rattle.certificate_tiling.specs.declared.order.Visit.{Visit}

abbrev pub nodes_of : List Visit → List ℕ
nodes_of visits = map (λ (v : Visit). v.node) visits

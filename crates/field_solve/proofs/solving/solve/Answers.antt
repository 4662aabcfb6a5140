use Rattle.std.proofs.Common.{List, map, subst}
use Rattle.complex_box.specs.Box.{box_ends}
use Rattle.field_widths.specs.Bound.{PrintNoWider}
use Rattle.points.specs.declared.Point.{Point}
use Rattle.quadtree.specs.TreeModel.{squares}
use Rattle.field_solve.proofs.solving.solve.Goals as goal

pub returns-clause-narrow : goal.returns-clause-narrow
returns-clause-narrow g c = subst (λ (ps : List Point). PrintNoWider g.row.P ps (squares c.filled.result.basis.tree) (map box_ends c.filled.result.values)) c.in_ok-prepared.ensures.points c.filled.ensures.narrow

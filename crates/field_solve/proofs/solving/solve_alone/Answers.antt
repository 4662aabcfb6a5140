use Rattle.std.proofs.Common.{List, map, subst}
use Rattle.complex_box.specs.Box.{box_ends}
use Rattle.field_widths.specs.Bound.{PrintNoWider}
use Rattle.points.specs.declared.Point.{Point}
use Rattle.quadtree.specs.TreeModel.{squares}
use Rattle.field_solve.proofs.solving.solve_alone.Goals as goal

pub returns-clause-narrow : goal.returns-clause-narrow
returns-clause-narrow g c = subst (λ (ps : List Point). PrintNoWider g.row.P ps (squares c.filled_alone.result.basis.tree) (map box_ends c.filled_alone.result.values)) c.in_ok-prepare.ensures.points c.filled_alone.ensures.narrow

use Rattle.std.proofs.Common.{◌∙◌, ◌^◌, ap, pos}
use Rattle.exact_math.specs.Ends.{BoxEnds, quot_box}
use Rattle.exact_math.proofs.EndsBridges.{BoxEndsContain-quot}
use Rattle.fixed_interval.proofs.Division.{power_positive}
use Rattle.complex_box.proofs.Ends.{contains_by}
use Rattle.complex_box.proofs.acc.Acc.finish_shift.Goals as goal

pub returns-clause-ends : goal.returns-clause-ends
returns-clause-ends c = c.quot_shift.ensures.ends ∙ ap (λ (b : BoxEnds). quot_box b (pos (2 ^ c.args.k))) c.self.view_is

pub returns-clause-contains : goal.returns-clause-contains
returns-clause-contains c u z p = contains_by (returns-clause-ends c) (BoxEndsContain-quot p (pos (2 ^ c.args.k)) (power_positive c.args.k))

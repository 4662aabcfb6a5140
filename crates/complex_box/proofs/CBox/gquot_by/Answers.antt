use Rattle.std.proofs.Common.{◌∙◌, ap, to_z-of_z}
use Rattle.exact_math.specs.Ends.{BoxEnds, quot_box}
use Rattle.exact_math.proofs.EndsBridges.{BoxEndsContain-gquot}
use Rattle.complex_box.specs.Box.{number}
use Rattle.complex_box.proofs.Ends.{contains_by}
use Rattle.complex_box.proofs.CBox.gquot_by.Goals as goal

pub returns-clause-ends : goal.returns-clause-ends
returns-clause-ends c =
    let f = c.ranges.n in
    (simp to_z-of_z at c.quot_by.ensures.ends) ∙ ap (λ (b : BoxEnds). quot_box b c.args.n) c.gscale.ensures.ends

pub returns-clause-contains : goal.returns-clause-contains
returns-clause-contains c u z p = contains_by (returns-clause-ends c) (BoxEndsContain-gquot p (number c.args.g) c.args.n c.requires.divisor)

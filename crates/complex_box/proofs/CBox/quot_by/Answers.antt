use Rattle.std.proofs.Common.{to_z-of_z}
use Rattle.exact_math.proofs.EndsBridges.{BoxEndsContain-quot}
use Rattle.complex_box.proofs.Ends.{parts-same, contains_by}
use Rattle.complex_box.proofs.CBox.quot_by.Goals as goal

pub returns-clause-ends : goal.returns-clause-ends
returns-clause-ends c =
    let f = c.ranges.n in
    parts-same (simp to_z-of_z at c.quot_by.ensures.ends) (simp to_z-of_z at c.quot_by-2.ensures.ends)

pub returns-clause-contains : goal.returns-clause-contains
returns-clause-contains c u z p = contains_by (returns-clause-ends c) (BoxEndsContain-quot p c.args.n c.requires)

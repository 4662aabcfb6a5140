use Rattle.std.proofs.Common.{◌∙◌, ◌^◌, ap, sym, subst, pos}
use Rattle.exact_math.specs.Ends.{BoxEndsWithin, quot_box}
use Rattle.complex_box.specs.Box.{box_ends, number}
use Rattle.multipole.proofs.SourcePowers.{step_fits, step_within}
use Rattle.multipole.proofs.moments.next_power.Goals as goal

pub gscale-requires : goal.gscale-requires
gscale-requires c = step_fits c.args.shift (box_ends c.args.power) (number c.args.o) c.requires.most c.requires.near c.requires.size

pub returns-clause-ends : goal.returns-clause-ends
returns-clause-ends c = c.quot_shift.ensures.ends ∙ ap (λ b. quot_box b (pos (2 ^ c.args.shift))) c.gscale.ensures.ends

pub returns-clause-size : goal.returns-clause-size
returns-clause-size c = subst (BoxEndsWithin (2 ^ 60)) (sym (returns-clause-ends c)) (step_within (2 ^ 60) c.args.shift (box_ends c.args.power) (number c.args.o) c.requires.least c.requires.near c.requires.size)

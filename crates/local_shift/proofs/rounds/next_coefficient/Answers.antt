use Rattle.std.proofs.Common.{◌∙◌, ◌^◌, ap, ap₂, sym, subst, pos}
use Rattle.exact_math.specs.Ends.{BoxEndsWithin, add_box, quot_box}
use Rattle.complex_box.specs.Box.{box_ends}
use Rattle.local_shift.proofs.RoundSteps.{next_fits}
use Rattle.local_shift.proofs.rounds.next_coefficient.Goals as goal

pub add-requires : goal.add-requires
add-requires c = subst (BoxEndsWithin (2 ^ 126)) (sym (ap₂ add_box c.turned.ensures c.doubled.ensures))
    (next_fits c.args.q (box_ends c.args.own) (box_ends c.args.lower) c.requires.own c.requires.lower)

pub returns : goal.returns
returns c = c.quot_shift.ensures.ends ∙ ap (λ b. quot_box b (pos 4)) (c.add.ensures.ends ∙ ap₂ add_box c.turned.ensures c.doubled.ensures)

use Rattle.std.proofs.Common.{◌∙◌, ◌^◌, ap, sym, subst, pos}
use Rattle.exact_math.specs.Ends.{BoxEndsWithin, add_box, quot_box}
use Rattle.complex_box.specs.Box.{box_ends}
use Rattle.local_shift.proofs.RoundSteps.{first_fits}
use Rattle.local_shift.proofs.rounds.first_coefficient.Goals as goal

pub add-requires : goal.add-requires
add-requires c = subst (λ b. BoxEndsWithin (2 ^ 126) (add_box (box_ends c.args.taken) b)) (sym (c.quot_shift.ensures.ends ∙ ap (λ b. quot_box b (pos 4)) c.turned.ensures))
    (first_fits c.args.q (box_ends c.args.taken) (box_ends c.args.own) c.requires.taken c.requires.own)

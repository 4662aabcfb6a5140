use Rattle.std.proofs.Common.{◌∙◌, ◌/◌, ap, arith, to_z-of_z, SFits, w64}
use Rattle.std.proofs.lemmas.Int.{ints}
use Rattle.point_sample.specs.Generator.{next_state, state_after}
use Rattle.point_sample.proofs.Points.{point_of_draws}
use Rattle.point_sample.proofs.generator.Generator.next_point.Goals as goal

pub returns-clause-state : goal.returns-clause-state
unfolding state_after
returns-clause-state c =
    c.draw-other.ensures.state
    ∙ ap next_state (c.draw-strength.ensures.state
    ∙ ap next_state (c.draw-choice.ensures.state ∙ ap next_state (c.draw-second.ensures.state ∙ ap next_state c.draw-first.ensures.state)))

pub returns-clause-point : goal.returns-clause-point
unfolding state_after
returns-clause-point c =
    let s1 = c.draw-first.ensures.state in
    let s2 = c.draw-second.ensures.state ∙ ap next_state s1 in
    let s3 = c.draw-choice.ensures.state ∙ ap next_state s2 in
    let s4 = c.draw-strength.ensures.state ∙ ap next_state s3 in
    let s5 = c.draw-other.ensures.state ∙ ap next_state s4 in
    let f : SFits w64 c.coordinate.result = omega (arith, ints) in
    let g : SFits w64 c.coordinate-2.result = omega (arith, ints) in
    point_of_draws c.args.self.now.state _ _ _ _ _ _ _ _
    (c.draw-first.ensures.value ∙ ap (λ s. s / 65536) s1)
    (c.draw-second.ensures.value ∙ ap (λ s. s / 65536) s2)
    (c.draw-choice.ensures.value ∙ ap (λ s. s / 65536) s3)
    (c.draw-strength.ensures.value ∙ ap (λ s. s / 65536) s4)
    (c.draw-other.ensures.value ∙ ap (λ s. s / 65536) s5)
    (to_z-of_z f ∙ c.coordinate.ensures)
    (to_z-of_z g ∙ c.coordinate-2.ensures)
    c.kind_of.ensures

use Rattle.std.proofs.Common.{◌≡◌, ◌∙◌, ◌++◌, ◌∷◌, [], ap, sym, subst, zero-add, arith}
use Rattle.std.proofs.lemmas.List.FromFn.{map-range_with_len_more}
use Rattle.points.specs.declared.Mode.TheVariants.{Field}
use Rattle.points.specs.Limits.{WithinLimits}
use Rattle.point_sample.specs.Generator.{state_after}
use Rattle.point_sample.specs.Sample.{next_point}
use Rattle.point_sample.proofs.Draws.{five_more}
use Rattle.point_sample.proofs.Points.{sample_list, sample_point}
use Rattle.point_sample.proofs.Within.{sample_within}
use Rattle.point_sample.proofs.sample_points.Goals as goal

pub points-init : goal.points-init
unfolding state_after
points-init c = record { state = c.new-generator.ensures; list = c.new-list.ensures }

pub points-preserved : goal.points-preserved
points-preserved c =
    let made = c.next_point.ensures.point ∙ ap next_point c.points.invariant.state in
    let more = map-range_with_len_more (sample_point c.args.seed) 0 c.points.counter c.points.counter (zero-add c.points.counter) in
    record {
      state = c.next_point.ensures.state ∙ ap (λ s. state_after s 5) c.points.invariant.state ∙ five_more c.args.seed c.points.counter;
      list = c.in_ok-push.ensures.pushed ∙ (λ i. c.points.invariant.list i ++ made i ∷ []) ∙ sym more;
    }

pub returns-clause-sample : goal.returns-clause-sample
returns-clause-sample c =
    let all : c.points.counter ≡ c.args.n = omega arith in
    let list = c.points.invariant.list ∙ ap (sample_list c.args.seed) all in
    λ i. record { version = 1; mode = Field; list = list i }

pub returns-clause-within : goal.returns-clause-within
returns-clause-within c = subst WithinLimits (sym (returns-clause-sample c)) (sample_within c.args.seed c.args.n c.requires)

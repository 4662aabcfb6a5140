use Rattle.std.proofs.Common.{◌∙◌, ap, sym, arith}
use Rattle.exact_math.specs.Ends.{add_box}
use Rattle.complex_box.specs.Box.{box_ends}
use Rattle.complex_box.proofs.Sizes.{add_box_within, box_wider}
use Rattle.points.specs.Points.{place}
use Rattle.target_values.proofs.PairSums.{ends_at, pairs_at, sum_of_one, pair_counted, weight-most}
use Rattle.target_values.proofs.u_entries.with_pair.Goals as goal

pub add-requires : goal.add-requires
add-requires c = box_wider _ _ _ (let w = weight-most c.args.p.now c.requires.range in omega arith) (add_box_within _ _ (box_ends c.args.sum) (box_ends c.pair.result) c.requires.sum c.pair.ensures.size)

pub returns-clause-ends : goal.returns-clause-ends
returns-clause-ends c =
    c.add.ensures.ends ∙ ap (λ b. add_box (box_ends c.args.sum) b) (ends_at _ _ c.args.p.now c.requires.in_grid c.pair.ensures.ends)
    ∙ sum_of_one (place c.args.target.now) c.args.p.now (box_ends c.args.sum) (sym c.if-not-is_source.ensures)

pub returns-clause-size : goal.returns-clause-size
returns-clause-size c n h =
    rw c.add.ensures.ends (box_wider _ _ _ (let w = weight-most c.args.p.now c.requires.range in omega arith) (add_box_within n _ (box_ends c.args.sum) (box_ends c.pair.result) h c.pair.ensures.size))

pub returns-clause-work : goal.returns-clause-work
returns-clause-work c = pair_counted (place c.args.target.now) c.args.p.now c.args.work.now _ (sym c.if-not-is_source.ensures) (pairs_at _ _ c.args.p.now _ c.requires.in_grid c.pair.ensures.pairs) c.pair.ensures.translations

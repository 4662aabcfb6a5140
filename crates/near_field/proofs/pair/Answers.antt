use Rattle.exact_math.specs.Gaussian.{gaussian}
use Rattle.near_field.proofs.PairCall.{tested, term_is, denominator_positive, is_pair_box, contains_term, box_narrow, box_within, same_place}
use Rattle.near_field.proofs.pair.Goals as goal

pub returns-then-stands_at-clause-size : goal.returns-then-stands_at-clause-size
returns-then-stands_at-clause-size c = box_within (gaussian c.args.x c.args.y) c.args.p.now (same_place (gaussian c.args.x c.args.y) c.args.p.now (tested c.args.x c.args.y c.args.p.now c.ranges.x c.ranges.y c.if-stands_at.ensures) c.zero.ensures.ends)

pub enclosed-requires : goal.enclosed-requires
enclosed-requires c = denominator_positive (gaussian c.args.x c.args.y) c.args.p.now (tested c.args.x c.args.y c.args.p.now c.ranges.x c.ranges.y c.if-stands_at.ensures) (term_is c.args.x c.args.y c.args.p.now c.requires.in_grid c.requires.range c.contribution.ensures)

pub returns-clause-ends : goal.returns-clause-ends
returns-clause-ends c = is_pair_box (gaussian c.args.x c.args.y) c.args.p.now (tested c.args.x c.args.y c.args.p.now c.ranges.x c.ranges.y c.if-stands_at.ensures) (term_is c.args.x c.args.y c.args.p.now c.requires.in_grid c.requires.range c.contribution.ensures) c.enclosed.ensures

pub returns-clause-contains : goal.returns-clause-contains
returns-clause-contains c apart = contains_term (gaussian c.args.x c.args.y) c.args.p.now apart (term_is c.args.x c.args.y c.args.p.now c.requires.in_grid c.requires.range c.contribution.ensures) c.enclosed.ensures

pub returns-clause-narrow : goal.returns-clause-narrow
returns-clause-narrow c = box_narrow (gaussian c.args.x c.args.y) c.args.p.now (returns-clause-ends c)

pub returns-clause-size : goal.returns-clause-size
returns-clause-size c = box_within (gaussian c.args.x c.args.y) c.args.p.now (returns-clause-ends c)

pub returns-clause-pairs : goal.returns-clause-pairs
returns-clause-pairs c = rw (tested c.args.x c.args.y c.args.p.now c.ranges.x c.ranges.y c.if-stands_at.ensures) c.raise_pairs.ensures.raised

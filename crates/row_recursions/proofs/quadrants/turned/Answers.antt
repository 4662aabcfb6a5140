use Rattle.std.proofs.Common.{◌^◌}
use Rattle.fixed_interval.specs.Interval.{ends_of}
use Rattle.row_recursions.proofs.Turns.{signed_within, difference_fits, sum_fits}
use Rattle.row_recursions.proofs.quadrants.turned.Goals as goal

pub sub-requires : goal.sub-requires
sub-requires c = difference_fits (ends_of c.signed.result) (ends_of c.signed-2.result)
    (signed_within (2 ^ 120) c.args.q.right (ends_of c.args.b.re) _ c.signed.ensures c.requires.re) (signed_within (2 ^ 120) c.args.q.top (ends_of c.args.b.im) _ c.signed-2.ensures c.requires.im)

pub add-requires : goal.add-requires
add-requires c = sum_fits (ends_of c.signed-3.result) (ends_of c.signed-4.result)
    (signed_within (2 ^ 120) c.args.q.top (ends_of c.args.b.re) _ c.signed-3.ensures c.requires.re) (signed_within (2 ^ 120) c.args.q.right (ends_of c.args.b.im) _ c.signed-4.ensures c.requires.im)

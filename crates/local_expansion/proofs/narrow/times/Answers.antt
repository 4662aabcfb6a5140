use Rattle.fixed_interval.proofs.Order.{ordered_cast, product_ends_ordered, within_cast}
use Rattle.local_expansion.proofs.NarrowEnds.{wider}
use Rattle.local_expansion.proofs.narrow.times.Goals as goal

pub invariant_of-result : goal.invariant_of-result
invariant_of-result c = record {
  ordered = ordered_cast _ _ (wider _ c.lower_end.ensures.size) (wider _ c.upper_end.ensures.size) c.lower_end.ensures.value c.upper_end.ensures.value (product_ends_ordered c.args.x.lo c.args.x.hi c.args.y.lo c.args.y.hi);
  low_end = within_cast _ (wider _ c.lower_end.ensures.size);
  high_end = within_cast _ (wider _ c.upper_end.ensures.size);
}

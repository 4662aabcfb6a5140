use Rattle.std.proofs.Common.{◌*◌, ◌^◌, lit≤}
use Rattle.complex_box.proofs.Sizes.{box_wider}
use Rattle.row_tests.proofs.ZeroRows.{zero_row}
use Rattle.row_tests.proofs.order_32.moments_of_nine.Goals as goal

pub add_source-requires-clause-sum : goal.add_source-requires-clause-sum
add_source-requires-clause-sum c = zero_row 32 (2 ^ 80) c.zero-row.result c.zero-row.ensures.ends

pub returns : goal.returns
returns c = λ k h. box_wider (2 ^ 40 * 9) (2 ^ 79) _ (lit≤ tt) (c.add_source.ensures.size 0 (zero_row 32 0 c.zero-row.result c.zero-row.ensures.ends) k h)

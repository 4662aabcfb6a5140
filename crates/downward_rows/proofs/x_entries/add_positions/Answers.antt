use Rattle.std.proofs.Common.{◌+◌, ◌*◌, ◌^◌, arith}
use Rattle.cell_name.specs.Cell.{square}
use Rattle.soundness.proofs.RowTotals.{wider}
use Rattle.row_recursions.specs.Rows.{row_of}
use Rattle.downward_rows.specs.Entries.{far_row_at}
use Rattle.downward_rows.proofs.Totals.{none_added, one_added}
use Rattle.downward_rows.proofs.x_entries.add_positions.Goals as goal

pub loop-k-init : goal.loop-k-init
loop-k-init g c = record {
  len = c.requires.len;
  adds = none_added g.row.P (far_row_at c.args.points.now (square c.args.cell)) c.args.list.now (row_of c.args.into.now);
  size = λ n h. wider g.row.P n (n + 2 ^ 67 * 0) (row_of c.args.into.now) (omega arith) h;
}

pub add_position-requires-clause-sum : goal.add_position-requires-clause-sum
add_position-requires-clause-sum g c =
    wider g.row.P (2 ^ 109 + 2 ^ 67 * c.loop-k.k-index) (2 ^ 110) (row_of c.loop-k.into) (omega (arith, c.requires.length, c.loop-k-test.true)) (c.loop-k.invariant.size (2 ^ 109) c.requires.sum)

pub loop-k-preserved : goal.loop-k-preserved
loop-k-preserved g c = record {
  len = c.add_position.ensures.len;
  adds = one_added g.row.P (far_row_at c.args.points.now (square c.args.cell)) c.args.list.now c.loop-k.k-index 0 (row_of c.args.into.now) (row_of c.loop-k.into) (row_of c.add_position.new.into) c.loop-k-test.true c.loop-k.invariant.adds c.add_position.ensures.adds;
  size = λ n h. wider g.row.P (n + 2 ^ 67 * c.loop-k.k-index + 2 ^ 67) (n + 2 ^ 67 * (c.loop-k.k-index + 1)) (row_of c.add_position.new.into) (omega arith) (c.add_position.ensures.size (n + 2 ^ 67 * c.loop-k.k-index) (c.loop-k.invariant.size n h));
}

pub returns-clause-size : goal.returns-clause-size
returns-clause-size g c = λ n h. wider g.row.P (n + 2 ^ 67 * c.loop-k.k-index) (n + 2 ^ 84) (row_of c.loop-k.into) (omega (arith, c.requires.length, c.loop-k.auto.k-index-end)) (c.loop-k.invariant.size n h)

use Rattle.std.proofs.Common.{◌+◌, ◌*◌, ◌^◌, get_or, take, arith}
use Rattle.std.proofs.lemmas.List.Sums.{sum_by_more, sum_by-take-le}
use Rattle.cell_name.specs.Cell.{square}
use Rattle.points.proofs.Slices.{first_point}
use Rattle.points.specs.Limits.{weight64, total_weight}
use Rattle.points.specs.declared.Point.{Point}
use Rattle.row_recursions.specs.Cells.{far_coefficients_in}
use Rattle.row_recursions.specs.Rows.{row_of}
use Rattle.soundness.proofs.RowTotals.{wider}
use Rattle.certificate_rows.proofs.Totals.{none_added, one_added}
use Rattle.certificate_rows.proofs.x_entries.add_far_sources.Goals as goal

pub loop-p-init : goal.loop-p-init
loop-p-init g c = record {
  len = c.requires.len;
  adds = none_added g.row.P (far_coefficients_in (square c.args.cell)) c.args.sources.now (row_of c.args.into.now);
  size = λ n h. wider g.row.P n (n + 0) (row_of c.args.into.now) (omega arith) h;
}

pub add_far_source-requires-clause-sum : goal.add_far_source-requires-clause-sum
add_far_source-requires-clause-sum g c =
    let i = c.loop-p.p-index in
    let light = sum_by-take-le weight64 c.args.sources.now i in
    wider g.row.P (2 ^ 109 + 2 ^ 40 * total_weight (take i c.args.sources.now)) (2 ^ 110) (row_of c.loop-p.into) (omega (arith, light, c.requires.weight)) (c.loop-p.invariant.size (2 ^ 109) c.requires.sum)

pub loop-p-preserved : goal.loop-p-preserved
loop-p-preserved g c =
    let i = c.loop-p.p-index in
    let xs = c.args.sources.now in
    let p : Point = get_or xs i first_point in
    let more = sum_by_more weight64 xs i first_point c.loop-p-test.true in
    record {
      len = c.add_far_source.ensures.len;
      adds = one_added g.row.P (far_coefficients_in (square c.args.cell)) xs i first_point (row_of c.args.into.now) (row_of c.loop-p.into) (row_of c.add_far_source.new.into) c.loop-p-test.true c.loop-p.invariant.adds c.add_far_source.ensures.adds;
      size = λ n h. wider g.row.P (n + 2 ^ 40 * total_weight (take i xs) + 2 ^ 40 * weight64 p) (n + 2 ^ 40 * total_weight (take (i + 1) xs)) (row_of c.add_far_source.new.into) (omega (arith, more))
          (c.add_far_source.ensures.size (n + 2 ^ 40 * total_weight (take i xs)) (c.loop-p.invariant.size n h));
    }

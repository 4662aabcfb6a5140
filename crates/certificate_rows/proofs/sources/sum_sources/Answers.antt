use Rattle.std.proofs.Common.{◌+◌, ◌*◌, ◌^◌, get_or, take, arith}
use Rattle.std.proofs.lemmas.List.Sums.{sum_by_more, sum_by-take-le}
use Rattle.cell_name.specs.Cell.{square}
use Rattle.points.proofs.Slices.{first_point}
use Rattle.points.specs.Limits.{weight64, total_weight}
use Rattle.points.specs.declared.Point.{Point}
use Rattle.row_recursions.specs.Cells.{moments_in}
use Rattle.row_recursions.specs.Rows.{row_of}
use Rattle.soundness.proofs.RowTotals.{wider}
use Rattle.certificate_rows.proofs.Totals.{total_more}
use Rattle.certificate_rows.proofs.sources.sum_sources.Goals as goal

pub add_source-requires-clause-sum : goal.add_source-requires-clause-sum
add_source-requires-clause-sum g c =
    let i = c.loop-p.p-index in
    let light = sum_by-take-le weight64 c.args.sources.now i in
    wider g.row.P (2 ^ 40 * total_weight (take i c.args.sources.now)) (2 ^ 80) (row_of c.loop-p.row) (omega (arith, light, c.requires.weight)) c.loop-p.invariant.size

pub loop-p-preserved : goal.loop-p-preserved
loop-p-preserved g c =
    let i = c.loop-p.p-index in
    let xs = c.args.sources.now in
    let p : Point = get_or xs i first_point in
    let more = sum_by_more weight64 xs i first_point c.loop-p-test.true in
    record {
      len = c.add_source.ensures.len;
      row = λ k h. total_more (moments_in (square c.args.cell)) xs i first_point k _ _ c.loop-p-test.true (c.loop-p.invariant.row k h) (c.add_source.ensures.adds k h);
      size = wider g.row.P (2 ^ 40 * total_weight (take i xs) + 2 ^ 40 * weight64 p) (2 ^ 40 * total_weight (take (i + 1) xs)) (row_of c.add_source.new.row) (omega (arith, more))
          (c.add_source.ensures.size (2 ^ 40 * total_weight (take i xs)) c.loop-p.invariant.size);
    }

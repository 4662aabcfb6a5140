use Rattle.std.proofs.Common.{subst, w64}
use Rattle.std.proofs.lemmas.Int.{to_z-of_z}
use Rattle.complex_box.specs.Box.{box_ends}
use Rattle.io_ports.specs.Bytes.{Writes}
use Rattle.report_lines.proofs.Bounds.{CountsContain-box}
use Rattle.report_lines.proofs.Lines.{line_of_counts}
use Rattle.report_lines.proofs.line.write_target.Goals as goal

pub returns-clause-bytes : goal.returns-clause-bytes
returns-clause-bytes g c =
    let x = to_z-of_z w64 c.args.x c.ranges.x in
    let y = to_z-of_z w64 c.args.y c.ranges.y in
    subst (Writes c.put_line.result (g.S.Sink.held c.args.sink.now) (g.S.Sink.held c.put_line.new.sink))
    (line_of_counts c.args.mode (box_ends c.args.v) c.args.x c.args.y _ _ _ _ c.of-first.ensures.lo c.of-first.ensures.hi c.second_counts-second.ensures.lo c.second_counts-second.ensures.hi)
    (rw (x, y) at c.put_line.ensures.bytes)

pub returns-clause-contains : goal.returns-clause-contains
returns-clause-contains g c = CountsContain-box c.args.mode (box_ends c.args.v)

use Rattle.std.proofs.Common.{◌≡◌, ◌-◌, arith}
use Rattle.std.proofs.lemmas.Option.{get_or_from_slice_get}
use Rattle.complex_box.specs.Rows.{at, zero_cbox}
use Rattle.field_certificate.proofs.Texts.{row_grows}
use Rattle.field_certificate.proofs.lines.prepend_row.Goals as goal

pub loop-k-preserved : goal.loop-k-preserved
loop-k-preserved g c =
    let here : at c.args.row.cells.now (c.loop-k.k - 1) ≡ c.get.result = get_or_from_slice_get c.args.row.cells.now (c.loop-k.k - 1) c.get.result zero_cbox c.get.ensures in
    record {
      text = row_grows c.args.row.cells.now c.get.result g.row.P c.loop-k.k (c.loop-k.k - 1) c.args.line.now c.loop-k.line c.prepend_box.new.line (omega arith) c.loop-k.invariant.most here c.loop-k.invariant.text c.prepend_box.ensures.text;
      size = omega (arith, c.prepend_box.ensures.length, c.loop-k.invariant.size);
      most = omega (arith, c.loop-k.invariant.most);
    }

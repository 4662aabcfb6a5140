use Rattle.std.proofs.Common.{◌∙◌, ap₂, sym, max, arith}
use Rattle.complex_box.specs.Box.{box_ends}
use Rattle.sample_summary.specs.Summary.{width}
use Rattle.sample_summary.proofs.Greatest.{greatest_box-more}
use Rattle.sample_summary.proofs.widths.Widest.of.Goals as goal

pub loop-k-preserved : goal.loop-k-preserved
loop-k-preserved g c =
    let values = c.args.field.now.values in
    let k = c.loop-k.k in
    record {
      re = c.with-widest.ensures.re ∙ ap₂ (λ m v. max m (width (box_ends v).re)) c.loop-k.invariant.re c.value.ensures.value
          ∙ sym (greatest_box-more (λ b. width b.re) values k (omega (arith, c.targets-k-end.ensures)));
      im = c.with-widest.ensures.im ∙ ap₂ (λ m v. max m (width (box_ends v).im)) c.loop-k.invariant.im c.value.ensures.value
          ∙ sym (greatest_box-more (λ b. width b.im) values k (omega (arith, c.targets-k-end.ensures)));
    }

use Rattle.std.proofs.Common.{◌∙◌, sym, subst}
use Rattle.io_ports.specs.Bytes.{Writes}
use Rattle.limits.specs.Limits.{first_grid}
use Rattle.sample_summary.specs.Summary.{summary_text}
use Rattle.tree_field.specs.Lists.{AreTreeLists}
use Rattle.sample_summary.proofs.write.write_summary.Goals as goal

pub returns-clause-bytes : goal.returns-clause-bytes
returns-clause-bytes g c lists given =
    let same = c.points.ensures in
    let a = subst (λ ps. AreTreeLists first_grid ps c.args.cap lists) (sym same) given in
    let text = c.as_bytes.ensures ∙ c.summary_text-text.ensures lists a ∙ (λ i. summary_text c.args.seed (same i) g.row.P c.args.cap lists) in
    subst (Writes c.put.result (g.S.Sink.held c.args.sink.now) (g.S.Sink.held c.put.new.sink)) text c.put.ensures.bytes

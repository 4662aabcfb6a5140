use Rattle.std.proofs.Common.{◌==◌, length, ap, ◌∙◌}
use Rattle.certificate_nodes.proofs.Seen.{leaf_is}
use Rattle.certificate_nodes.specs.Presented.{accounting_of}
use Rattle.certificate_nodes.proofs.presented.Presented.is_leaf.Goals as goal

pub returns : goal.returns
returns c = c.is_empty.ensures ∙ ap (λ l. length l == 0) c.children.ensures ∙ leaf_is (accounting_of c.args.self.now) c.args.n

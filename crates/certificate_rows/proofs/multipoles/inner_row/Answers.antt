use Rattle.std.proofs.Common.{sym, subst, ◌<◌}
use Rattle.std.specs.Prelude.{All}
use Rattle.cert_text.specs.Certificate.{Certificate}
use Rattle.certificate_rows.specs.Given.{cell_at}
use Rattle.certificate_rows.proofs.MultipoleRules.{children_in_range, children_below, children_few}
use Rattle.certificate_rows.proofs.multipoles.inner_row.Goals as goal

pub sum_children-requires-clause-nodes : goal.sum_children-requires-clause-nodes
sum_children-requires-clause-nodes g c =
    let Q : Certificate → Type 0 = λ d. All (λ m. m < d.head.cells) c.children.result.now in
    subst Q (sym c.certificate.ensures.certificate) (children_in_range c.args.given.now c.certificate.ensures.over c.args.n c.children.result.now c.children.ensures)

pub sum_children-requires-clause-below : goal.sum_children-requires-clause-below
sum_children-requires-clause-below g c =
    let Q : Certificate → Type 0 = λ d. All (λ m. 0 < (cell_at d m).level) c.children.result.now in
    subst Q (sym c.certificate.ensures.certificate) (children_below c.args.given.now c.certificate.ensures.over c.args.n c.requires.nodes c.children.result.now c.children.ensures)

pub sum_children-requires-clause-few : goal.sum_children-requires-clause-few
sum_children-requires-clause-few g c = children_few c.args.given.now c.certificate.ensures.over c.args.n c.children.result.now c.children.ensures

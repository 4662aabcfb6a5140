use Rattle.std.proofs.Common.{ap, ◌∙◌}
use Rattle.cell_name.specs.Cell.{square}
use Rattle.certificate_rows.specs.Given.{cell_at}
use Rattle.certificate_rows.proofs.MultipoleRules.{sources_in_range, sources_light, sources_held, leaf_row_is}
use Rattle.certificate_rows.proofs.multipoles.leaf_row.Goals as goal

pub sum_sources-requires-clause-range : goal.sum_sources-requires-clause-range
sum_sources-requires-clause-range g c = sources_in_range c.args.given.now c.sources.result.now c.sources.ensures.range

pub sum_sources-requires-clause-held : goal.sum_sources-requires-clause-held
sum_sources-requires-clause-held g c =
    sources_held c.args.given.now c.certificate.ensures.over c.args.n c.requires.points c.sources.result.now (square c.node_at.result.1) c.sources.ensures.sources
    (c.node_at.ensures.cell ∙ ap (λ d. cell_at d c.args.n) c.certificate.ensures.certificate)

pub sum_sources-requires-clause-weight : goal.sum_sources-requires-clause-weight
sum_sources-requires-clause-weight g c = sources_light c.args.given.now c.certificate.ensures.over c.args.n c.sources.result.now c.sources.ensures.sources

pub returns-clause-row : goal.returns-clause-row
returns-clause-row g c = λ k h.
    leaf_row_is c.args.given.now c.certificate.ensures.over c.args.n c.requires.points c.requires.leaf c.sources.result.now (square c.node_at.result.1) c.sources.ensures.sources
    (c.node_at.ensures.cell ∙ ap (λ d. cell_at d c.args.n) c.certificate.ensures.certificate) k
    ∙ c.sum_sources.ensures.row k h

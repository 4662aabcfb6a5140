use Rattle.std.proofs.Common.{◌+◌, ◌*◌, ◌^◌, sym, ap, ◌∙◌, arith}
use Rattle.exact_math.specs.Ends.{add_box}
use Rattle.cell_name.specs.Cell.{square}
use Rattle.points.specs.Limits.{total_weight}
use Rattle.row_recursions.specs.Rows.{row_of}
use Rattle.soundness.proofs.RowTotals.{wider}
use Rattle.certificate_rows.proofs.MultipoleRules.{sources_light}
use Rattle.certificate_rows.proofs.XEntries.{x_sources_in_range, x_sources_far, x_row_is}
use Rattle.certificate_rows.proofs.x_entries.add_x_entry.Goals as goal

pub add_far_sources-requires-clause-range : goal.add_far_sources-requires-clause-range
add_far_sources-requires-clause-range g c = x_sources_in_range c.args.given.now c.certificate-cert.ensures.over c.args.n (square c.args.b) c.requires.cell c.sources.result.now c.sources.ensures.range

pub add_far_sources-requires-clause-far : goal.add_far_sources-requires-clause-far
add_far_sources-requires-clause-far g c =
    x_sources_far c.args.given.now c.certificate-cert.ensures.over c.requires.points c.args.n c.args.entry c.requires.fits (sym c.is_x.ensures ∙ c.if-is_x.true) c.sources.result.now c.sources.ensures.sources (square c.args.b) c.requires.cell

pub add_far_sources-requires-clause-weight : goal.add_far_sources-requires-clause-weight
add_far_sources-requires-clause-weight g c = sources_light c.args.given.now c.certificate-cert.ensures.over c.args.entry.c c.sources.result.now c.sources.ensures.sources

pub returns-then-is_x-clause-adds : goal.returns-then-is_x-clause-adds
returns-then-is_x-clause-adds g c = λ k h.
    c.add_far_sources.ensures.adds k h
    ∙ ap (add_box (row_of c.args.into.now k))
    (x_row_is c.args.given.now c.certificate-cert.ensures.over c.requires.points c.args.n c.args.entry c.requires.fits (sym c.is_x.ensures ∙ c.if-is_x.true) c.sources.result.now c.sources.ensures.sources (square c.args.b) c.requires.cell k)

pub returns-then-is_x-clause-size : goal.returns-then-is_x-clause-size
returns-then-is_x-clause-size g c = λ m h.
    let light = sources_light c.args.given.now c.certificate-cert.ensures.over c.args.entry.c c.sources.result.now c.sources.ensures.sources in
    wider g.row.P (m + 2 ^ 40 * total_weight c.sources.result.now) (m + 2 ^ 76) (row_of c.add_far_sources.new.into) (omega (arith, light)) (c.add_far_sources.ensures.size m h)

pub returns-else-is_x-clause-size : goal.returns-else-is_x-clause-size
returns-else-is_x-clause-size g c = λ m h. wider g.row.P m (m + 2 ^ 76) (row_of c.args.into.now) (omega arith) h

use Rattle.std.proofs.Common.{ap}
use Rattle.cell_name.specs.Cell.{square}
use Rattle.certificate_lines.proofs.Apart.{in_grid, sources_apart, chain}
use Rattle.certificate_lines.proofs.given.sources_are_far.Goals as goal

pub are_far-requires : goal.are_far-requires
are_far-requires c = in_grid c.args.given.now c.cell_at.ensures.known c.args.b c.cell_at.result.grid c.sources.result.now (ap (λ s. s.grid) c.cell_at.ensures.cell) c.sources.ensures.range

pub returns : goal.returns
returns c =
    let g = c.args.given.now in
    chain c.are_far.result _ _ c.are_far.ensures (sources_apart g c.cell_at.ensures.known c.args.b c.args.leaf (square c.cell_at.result) c.sources.result.now c.cell_at.ensures.cell c.sources.ensures.sources c.requires.leaf)

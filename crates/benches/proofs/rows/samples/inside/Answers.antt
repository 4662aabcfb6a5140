use Rattle.std.proofs.Common.{rules}
use Rattle.points.proofs.Ranges.{kind_of_widest}
use Rattle.benches.proofs.rows.samples.inside.Goals as goal

pub returns-clause-range : goal.returns-clause-range
returns-clause-range c = record { place = search rules; kind = kind_of_widest c.args.kind; strength = c.requires }

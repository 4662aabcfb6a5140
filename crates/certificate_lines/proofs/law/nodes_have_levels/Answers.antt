use Rattle.certificate_lines.proofs.Levels as levels
use Rattle.certificate_lines.proofs.law.nodes_have_levels.Goals as goal

pub returns : goal.returns
returns c = levels.nodes_have_levels

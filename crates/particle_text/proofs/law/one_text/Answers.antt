use Rattle.particle_text.specs.Text.{text_of}
use Rattle.particle_text.proofs.Printing.{text_spelled, one_text}
use Rattle.particle_text.proofs.law.one_text.Goals as goal

pub returns-clause-text : goal.returns-clause-text
returns-clause-text c = text_spelled

pub returns-clause-only : goal.returns-clause-only
returns-clause-only c = λ bytes points spells. one_text bytes (text_of points) points spells (text_spelled points spells.limits)

use Rattle.particle_text.proofs.OneFault.{one_fault, never_both}
use Rattle.particle_text.proofs.OneText.{one_list}
use Rattle.particle_text.proofs.law.one_reading.Goals as goal

pub returns-clause-points : goal.returns-clause-points
returns-clause-points c = one_list

pub returns-clause-line : goal.returns-clause-line
returns-clause-line c = λ bytes line other kind what first second. (one_fault bytes line other kind what first second).lines

pub returns-clause-kind : goal.returns-clause-kind
returns-clause-kind c = λ bytes line other kind what first second. (one_fault bytes line other kind what first second).kinds

pub returns-clause-never_both : goal.returns-clause-never_both
returns-clause-never_both c = never_both

use Rattle.certificate_accepted.proofs.Whole.{field_accepted}
use Rattle.certificate_accepted.proofs.law.field_is_accepted.Goals as goal

pub returns : goal.returns
returns c = record { accepted = field_accepted }

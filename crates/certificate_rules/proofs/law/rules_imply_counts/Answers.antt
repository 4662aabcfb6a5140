use Rattle.certificate_rules.proofs.Numbers.{lines_numbered, one_verdict}
use Rattle.certificate_rules.proofs.Presented.{counts_are_sound}
use Rattle.certificate_rules.proofs.Some.{some_verdict}
use Rattle.certificate_rules.proofs.law.rules_imply_counts.Goals as goal

pub returns : goal.returns
returns c = record { counts = counts_are_sound; numbered = lines_numbered; some = some_verdict; one = one_verdict }

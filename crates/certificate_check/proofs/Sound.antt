-- What a yes says.
use Rattle.std.proofs.Common.{◌≡◌, subst}
use Rattle.std.specs.Prelude.{Result, Ok, IfOk}
use Rattle.cert_text.specs.Certificate.{Certificate, IsCertificate}
use Rattle.certificate_check.specs.Answers.{CountsContain, IsVerdict}
use Rattle.certificate_check.specs.declared.verdict.Verdict.{Verdict}
use Rattle.certificate_check.specs.declared.verdict.Verdict.TheVariants.{Yes}
use Rattle.certificate_rules.proofs.Presented.{counts_are_sound}
use Rattle.points.specs.declared.Points.{Points}

pub sound : {E : Type 0} (points : Points) (c : Certificate) (result : Result Verdict E) → IsCertificate c → IfOk result (IsVerdict points c) → result ≡ Ok Yes → CountsContain points c
sound points c result is verdict e = counts_are_sound points c is (subst (λ r. IfOk r (IsVerdict points c)) e verdict)

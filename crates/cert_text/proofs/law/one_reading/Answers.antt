use Rattle.cert_text.proofs.Readings.{one_certificate, one_fault, never_both, nothing_behind}
use Rattle.cert_text.proofs.law.one_reading.Goals as goal

pub returns-clause-certificate : goal.returns-clause-certificate
returns-clause-certificate c = one_certificate

pub returns-clause-line : goal.returns-clause-line
returns-clause-line c = λ bytes number other kind what first second. (one_fault bytes number other kind what first second).lines

pub returns-clause-kind : goal.returns-clause-kind
returns-clause-kind c = λ bytes number other kind what first second. (one_fault bytes number other kind what first second).kinds

pub returns-clause-never_both : goal.returns-clause-never_both
returns-clause-never_both c = never_both

pub returns-clause-whole : goal.returns-clause-whole
returns-clause-whole c = nothing_behind

-- What `check` answers to the bytes of two inputs, points and a certificate, and what goes out with each answer.
use Rattle.std.specs.Prelude.{ℕ, ◌<◌, ◌≤◌, ◌≡◌, ◌⊎◌, List, [], ◌++◌, length, codes, decimal}
use Rattle.cert_text.specs.Certificate.{Certificate, SpellsCert}
use Rattle.cert_text.specs.Faults.{FirstCertFault}
use Rattle.cert_text.specs.declared.fault.CertKind.{CertKind}
use Rattle.cert_text.specs.declared.fault.CertKind.TheVariants.{Syntax, Range}
use Rattle.certificate_rules.specs.LineRules.{targets_of}
use Rattle.certificate_rules.specs.Verdicts.{HoldEverywhere, IsFirstFailure}
use Rattle.limits.specs.Limits.{grid_of, most_certificate}
use Rattle.points.specs.declared.Points.{Points}
use Rattle.fmm_program.specs.Answers.{IsRead, RefusesText}
use Rattle.fmm_program.specs.Endings.{Output}
use Rattle.fmm_program.specs.declared.status.Status.{Status}
use Rattle.fmm_program.specs.declared.status.Status.TheVariants.{Done, Refused, Rejected}

-- ---- the lines
abbrev pub accepted_line : ℕ → List ℕ
accepted_line targets = codes "accepted targets " ++ decimal targets ++ codes "\n"

abbrev pub cert_kind_word : CertKind → List ℕ
cert_kind_word Syntax = codes "syntax"
cert_kind_word Range = codes "range"

abbrev pub fault_rejected_line : CertKind → ℕ → List ℕ
fault_rejected_line kind line = codes "rejected " ++ cert_kind_word kind ++ codes " line " ++ decimal line ++ codes "\n"

abbrev pub rule_rejected_line : ℕ → ℕ → List ℕ
rule_rejected_line rule line = codes "rejected c" ++ decimal rule ++ codes " line " ++ decimal line ++ codes "\n"

-- ---- what each answer means
-- the points are read, and the certificate is no longer than their version allows
pub record AreRead (input text : List ℕ) (points : Points) : Type 0 where
  pub read : IsRead input points
  pub short : length text ≤ most_certificate (grid_of points.version)

-- all rules hold of the certificate over the points, and the line says how many targets they have
pub record IsAccepted (input text line : List ℕ) : Type 0 where
  pub points : Points
  pub are_read : AreRead input text points
  pub certificate : Certificate
  pub spelled : SpellsCert text certificate
  pub hold : HoldEverywhere points certificate
  pub line_is : line ≡ accepted_line (length (targets_of points.list))

-- the points can't be read, or they are read and the certificate is too long
abbrev pub RefusesInputs : List ℕ → List ℕ → List ℕ → Type 0
RefusesInputs input text line =
    RefusesText input line ⊎ ((points : Points) × IsRead input points × (most_certificate (grid_of points.version) < length text) × (line ≡ codes "refused long\n"))

-- Why a certificate over points is rejected, and the line that says so: it is none, and the line names its first fault; or a rule fails, and the line names the first line at
-- which one does and the least rule that fails there.
abbrev pub Rejects : Points → List ℕ → List ℕ → Type 0
Rejects points text line =
    ((number : ℕ) × (kind : CertKind) × FirstCertFault text number kind × (line ≡ fault_rejected_line kind number))
    ⊎ ((c : Certificate) × (rule : ℕ) × (number : ℕ) × SpellsCert text c × IsFirstFailure points c rule number × (line ≡ rule_rejected_line rule number))

-- the answer to these inputs, and what goes out with it
abbrev pub CheckAnswers : List ℕ → List ℕ → Status → Output → Type 0
CheckAnswers input text Done output = IsAccepted input text output.out × (output.cert ≡ [])
CheckAnswers input text Refused output = RefusesInputs input text output.out × (output.cert ≡ [])
CheckAnswers input text Rejected output = ((points : Points) × AreRead input text points × Rejects points text output.out) × (output.cert ≡ [])
CheckAnswers input text _ output = ⊥

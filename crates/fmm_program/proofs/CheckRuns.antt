-- How runs of `check` end: from what the calls answered to the facts of a run.
use Rattle.std.proofs.Common.{◌≡◌, ◌∙◌, ◌⊎◌, [], subst, sym, refl, ℕ, ◌+◌, ◌≤◌, ◌<◌, List, append-nil, codes, length, length-append, ap, arith, inl, inr, Some, None, IfSome}
use Rattle.std.specs.Io.KnownBytes.{Consumes, Keeps}
use Rattle.std.specs.declared.option.Option.{Option}
use Rattle.cert_text.specs.Certificate.{Certificate, SpellsCert}
use Rattle.cert_text.specs.Faults.{FirstCertFault}
use Rattle.cert_text.specs.declared.fault.CertKind.{CertKind}
use Rattle.certificate_rules.specs.LineRules.{targets_of}
use Rattle.certificate_rules.specs.Verdicts.{HoldEverywhere, IsFirstFailure}
use Rattle.io_ports.specs.Bytes.{GivesAll}
use Rattle.io_ports.specs.Faults.{Rose}
use Rattle.limits.specs.Limits.{grid_of, most_certificate}
use Rattle.particle_text.specs.Faults.{FirstFault}
use Rattle.particle_text.specs.declared.TextKind.{TextKind}
use Rattle.points.specs.declared.Points.{Points}
use Rattle.fmm_program.proofs.CheckComplete.{completes}
use Rattle.fmm_program.proofs.FlushedEnds.{IsEnding-line, IsEnding-map, flushed_ends, plain, with_cert}
use Rattle.fmm_program.proofs.SolveRuns.{all_came, told_all, told_any}
use Rattle.fmm_program.specs.Answers.{IsRead, RefusesText, fault_line, most_input}
use Rattle.fmm_program.specs.CheckAnswers.{AreRead, CheckAnswers, accepted_line, fault_rejected_line, rule_rejected_line}
use Rattle.fmm_program.specs.CheckRuns.{AnswersBoth, AnswersSecond, CheckRun}
use Rattle.fmm_program.specs.Endings.{IsEnding, IsQuiet, Flow, HasFault, OneLine, Output, flow, untold}
use Rattle.fmm_program.specs.declared.status.Status.{Status}
use Rattle.fmm_program.specs.declared.status.Status.TheVariants.{Done, Refused, Usage, Memory, ReadFault, WriteFault, Rejected}

-- the answers of `check` have no certificate
pub check_plain : (input text : List ℕ) (status : Status) (output : Output) → CheckAnswers input text status output → output.cert ≡ []
check_plain input text Done output a = a.1
check_plain input text Refused output a = a.1
check_plain input text Rejected output a = a.1
check_plain input text Usage output a = absurd a
check_plain input text Memory output a = absurd a
check_plain input text ReadFault output a = absurd a
check_plain input text WriteFault output a = absurd a

-- ---- how one run ends
module _ (input text : List ℕ) (out : Flow) (status : Status) where
  abbrev Ends : Type 0
  Ends = IsEnding (CheckAnswers input text) status out untold

  refused_ends : (line : List ℕ) → CheckAnswers input text Refused (plain line) → IsEnding (OneLine Refused line) status out untold → Ends
  refused_ends line a = IsEnding-line (CheckAnswers input text) Refused line a out untold status

  -- the points are too long, or no text
  pub long_points : most_input < length input → IsEnding (OneLine Refused (codes "refused long\n")) status out untold → Ends
  long_points longer = refused_ends (codes "refused long\n") (inl (inl (longer, refl)), refl)

  pub faulty_points : (number : ℕ) (kind : TextKind) (line : List ℕ) → length input ≤ most_input → FirstFault input number kind → line ≡ fault_line number kind → IsEnding (OneLine Refused line) status out untold → Ends
  faulty_points number kind line within fault e = refused_ends line (inl (inr (within, (number, kind, fault, e))), refl)

  -- they are read, and the certificate is too long
  pub long_text : (points : Points) → IsRead input points → most_certificate (grid_of points.version) < length text → IsEnding (OneLine Refused (codes "refused long\n")) status out untold → Ends
  long_text points read longer = refused_ends (codes "refused long\n") (inr (points, read, longer, refl), refl)

  module _ (points : Points) (are : AreRead input text points) where
    -- the certificate is none
    pub faulty_text : (number : ℕ) (kind : CertKind) (line : List ℕ) → FirstCertFault text number kind → line ≡ fault_rejected_line kind number → IsEnding (OneLine Rejected line) status out untold → Ends
    faulty_text number kind line fault e = IsEnding-line (CheckAnswers input text) Rejected line ((points, are, inl (number, kind, fault, e)), refl) out untold status

    module _ (c : Certificate) (spelled : SpellsCert text c) where
      -- a rule fails
      pub rejected : (rule number : ℕ) → IsFirstFailure points c rule number → IsEnding (OneLine Rejected (rule_rejected_line rule number)) status out untold → Ends
      rejected rule number first = IsEnding-line (CheckAnswers input text) Rejected (rule_rejected_line rule number) ((points, are, inr (c, rule, number, spelled, first, refl)), refl) out untold status

      -- all rules hold
      pub accepted : (targets : ℕ) → HoldEverywhere points c → targets ≡ length (targets_of points.list) → IsEnding (OneLine Done (accepted_line targets)) status out untold → Ends
      accepted targets hold e =
          IsEnding-line (CheckAnswers input text) Done (accepted_line targets)
          (record { points = points; are_read = are; certificate = c; spelled = spelled; hold = hold; line_is = ap accepted_line e }, refl) out untold status

-- ---- the second input
-- what holds of any input that is too long holds of one of which so much came
pub told_longer : (most : ℕ) (left rest : Option (List ℕ)) (bytes : List ℕ) (P : List ℕ → Type 0) → Consumes left rest bytes → most < length bytes → ((input : List ℕ) → most < length input → P input) → IfSome left P
told_longer most None rest bytes P p l h = tt
told_longer most (Some xs) None bytes P p l h = absurd p
told_longer most (Some xs) (Some ys) bytes P p l h = h xs (let e = ap length p ∙ length-append bytes ys in omega arith)

-- nothing came
pub none_came : (left : Option (List ℕ)) → Consumes left left []
none_came None = tt
none_came (Some xs) = refl

-- what holds of each input holds of the one that is told
pub told_each : (left : Option (List ℕ)) (P : List ℕ → Type 0) → ((input : List ℕ) → P input) → IfSome left P
told_each None P h = tt
told_each (Some xs) P h = h xs

module _ (input : List ℕ) (left rest : Option (List ℕ)) (r s : ℕ) (status : Status) (out : Flow) where
  -- it was read whole
  pub second_whole : (bytes : List ℕ) → GivesAll left rest bytes → IsEnding (CheckAnswers input bytes) status out untold → AnswersSecond input status (flow left rest r s) out
  second_whole bytes whole ends = record {
    told = told_all left rest bytes (λ text. IsEnding (CheckAnswers input text) status out untold) whole ends;
    came = (bytes, all_came left rest bytes whole, ends);
  }

  -- it was too long
  pub second_long : (points : Points) → IsRead input points → (bytes : List ℕ) → Consumes left rest bytes → most_certificate (grid_of points.version) < length bytes
      → IsEnding (OneLine Refused (codes "refused long\n")) status out untold → AnswersSecond input status (flow left rest r s) out
  second_long points read bytes p l ends = record {
    told = told_longer (most_certificate (grid_of points.version)) left rest bytes (λ text. IsEnding (CheckAnswers input text) status out untold) p l (λ text longer. long_text input text out status points read longer ends);
    came = (bytes, p, long_text input bytes out status points read l ends);
  }

  -- whatever it was, the run ended so
  pub second_any : (bytes : List ℕ) → Consumes left rest bytes → ((text : List ℕ) → IsEnding (CheckAnswers input text) status out untold) → AnswersSecond input status (flow left rest r s) out
  second_any bytes p ends = record { told = told_each left (λ text. IsEnding (CheckAnswers input text) status out untold) ends; came = (bytes, p, ends bytes) }

-- an ending at which nothing went out
pub memory_ends : (answers : Status → Output → Type 0) (held : Option (List ℕ)) (f g : ℕ) → IsEnding answers Memory (flow held held f g) untold
memory_ends answers held f g = (refl, refl)

pub read_fault_ends : (answers : Status → Output → Type 0) (held : Option (List ℕ)) (f g : ℕ) → IsEnding answers ReadFault (flow held held f g) untold
read_fault_ends answers held f g = (refl, refl)

-- ---- both inputs
-- what came of a source that told its bytes, all of it, is what it told
pub told_bytes : (left rest : Option (List ℕ)) (bytes input : List ℕ) → GivesAll left rest bytes → left ≡ Some input → bytes ≡ input
told_bytes None rest bytes input g e = cc
told_bytes (Some xs) rest bytes input g e = let same : xs ≡ input = cc in g.0 ∙ same

module _ (left rest : Option (List ℕ)) (r s : ℕ) (second : Flow) (status : Status) (out : Flow) where
  abbrev EndsBoth : List ℕ → List ℕ → Type 0
  EndsBoth input text = IsEnding (CheckAnswers input text) status out untold

  -- the points were read whole
  pub whole_points : (bytes : List ℕ) → GivesAll left rest bytes → AnswersSecond bytes status second out → AnswersBoth status (flow left rest r s) second out untold
  whole_points bytes whole answers = record {
    told = told_all left rest bytes (λ input. IfSome second.before (EndsBoth input)) whole answers.told;
    came = (bytes, answers.came.0, all_came left rest bytes whole, answers.came.1, answers.came.2);
  }

module _ (left rest kept : Option (List ℕ)) (r s f g : ℕ) (status : Status) (out : Flow) where
  -- the points were too long, and nothing was read of the certificate
  pub long_run : (bytes : List ℕ) → Consumes left rest bytes → most_input < length bytes → IsEnding (OneLine Refused (codes "refused long\n")) status out untold
      → AnswersBoth status (flow left rest r s) (flow kept kept f g) out untold
  long_run bytes p l ends = record {
    told = told_longer most_input left rest bytes (λ input. IfSome kept (λ text. IsEnding (CheckAnswers input text) status out untold)) p l
        (λ input longer. told_each kept (λ text. IsEnding (CheckAnswers input text) status out untold) (λ text. long_points input text out status longer ends));
    came = (bytes, [], p, none_came kept, long_points bytes [] out status l ends);
  }

  -- whatever came, the run ended so
  pub any_run : (bytes : List ℕ) → Consumes left rest bytes → ((input text : List ℕ) → IsEnding (CheckAnswers input text) status out untold) → AnswersBoth status (flow left rest r s) (flow kept kept f g) out untold
  any_run bytes p ends = record {
    told = told_each left (λ input. IfSome kept (λ text. IsEnding (CheckAnswers input text) status out untold)) (λ input. told_each kept (λ text. IsEnding (CheckAnswers input text) status out untold) (ends input));
    came = (bytes, [], p, none_came kept, ends bytes []);
  }

-- after a flush, where the port of a certificate stays as it is
module _ (before mid after cert : Option (List ℕ)) (kept : Keeps mid after) (b m a c : ℕ) (status result : Status) (stays : (result ≡ status) ⊎ (result ≡ WriteFault))
    (silent : IsQuiet status → (result ≡ status) × (after ≡ mid)) where
  flushed : (input text : List ℕ) → IsEnding (CheckAnswers input text) status (flow before mid b m) untold → IsEnding (CheckAnswers input text) result (flow before after b a) (flow cert cert c c)
  flushed input text ends =
      flushed_ends (CheckAnswers input text) before mid after kept b m a (flow cert cert c c) status result stays silent
      (with_cert (CheckAnswers input text) (check_plain input text) (flow before mid b m) cert c status ends)

  flushed_answers : (points cert_in : Flow) → AnswersBoth status points cert_in (flow before mid b m) untold → AnswersBoth result points cert_in (flow before after b a) (flow cert cert c c)
  flushed_answers points cert_in run = record {
    told = told_any points.before _ _ (λ input. told_any cert_in.before _ _ (flushed input)) run.told;
    came = (run.came.0, run.came.1, run.came.2, run.came.3, flushed run.came.0 run.came.1 run.came.4);
  }

  pub flushed_check : (points cert_in : Flow) → AnswersBoth status points cert_in (flow before mid b m) untold → (result ≡ ReadFault → HasFault points ⊎ HasFault cert_in) → (result ≡ WriteFault → Rose b a)
      → CheckRun result points cert_in (flow before after b a) (flow cert cert c c)
  flushed_check points cert_in run read write =
      let answers = flushed_answers points cert_in run in
      record {
        answers = answers;
        complete = λ input text e f is no_points no_cert no_write.
            completes input text is (flow before after b a) (flow cert cert c c) result
            (subst (λ o. IfSome o (λ t. IsEnding (CheckAnswers input t) result (flow before after b a) (flow cert cert c c))) f
            (subst (λ o. IfSome o (λ i. IfSome cert_in.before (λ t. IsEnding (CheckAnswers i t) result (flow before after b a) (flow cert cert c c)))) e answers.told))
            (λ h. either no_points no_cert (read h)) (λ h. no_write (write h));
      }
    where
      either : {A B : Type 0} → (A → ⊥) → (B → ⊥) → A ⊎ B → ⊥
      either f g (inl x) = f x
      either f g (inr x) = g x

-- ---- no run of `check` ends with the usage line
pub check_is_no_usage : (input text : List ℕ) (out cert : Flow) (status : Status) → IsEnding (CheckAnswers input text) status out cert → status ≡ Usage → ⊥
check_is_no_usage input text out cert status ends e = (subst (λ s. IsEnding (CheckAnswers input text) s out cert) e ends).1

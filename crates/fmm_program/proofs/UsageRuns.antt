-- How runs of words of no form end.
use Rattle.std.proofs.Common.{◌≡◌, ◌∙◌, ◌⊎◌, inl, inr, ℕ, List, []}
use Rattle.std.specs.Io.KnownBytes.{Keeps}
use Rattle.std.specs.declared.option.Option.{Option}
use Rattle.fmm_program.proofs.FlushedEnds.{flushed_ends, with_cert}
use Rattle.fmm_program.specs.Answers.{usage_line}
use Rattle.fmm_program.specs.Endings.{IsEnding, IsQuiet, OneLine, Output, flow, untold}
use Rattle.fmm_program.specs.Runs.{UsageRun}
use Rattle.fmm_program.specs.declared.status.Status.{Status}
use Rattle.fmm_program.specs.declared.status.Status.TheVariants.{Usage, WriteFault}

usage_plain : (status : Status) (output : Output) → OneLine Usage usage_line status output → output.cert ≡ []
usage_plain status output a = a.2

-- after a flush, where the port of a certificate stays as it is
pub flushed_usage : (before mid after cert : Option (List ℕ)) → Keeps mid after → (b m a c : ℕ) (status result : Status) → (result ≡ status) ⊎ (result ≡ WriteFault)
    → (IsQuiet status → (result ≡ status) × (after ≡ mid)) → (status ≡ Usage) ⊎ (status ≡ WriteFault) → IsEnding (OneLine Usage usage_line) status (flow before mid b m) untold
    → UsageRun result (flow before after b a) (flow cert cert c c)
flushed_usage before mid after cert kept b m a c status result stays silent only ends =
    (flushed_ends (OneLine Usage usage_line) before mid after kept b m a (flow cert cert c c) status result stays silent (with_cert (OneLine Usage usage_line) usage_plain (flow before mid b m) cert c status ends), by stays only)
  where
    by : (result ≡ status) ⊎ (result ≡ WriteFault) → (status ≡ Usage) ⊎ (status ≡ WriteFault) → (result ≡ Usage) ⊎ (result ≡ WriteFault)
    by (inl e) (inl h) = inl (e ∙ h)
    by (inl e) (inr h) = inr (e ∙ h)
    by (inr e) h = inr e

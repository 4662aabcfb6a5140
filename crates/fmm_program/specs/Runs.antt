-- The facts of a run of each command.
use Rattle.std.specs.Prelude.{ℕ, ◌≡◌, ◌⊎◌, List, [], Some, IfSome}
use Rattle.std.specs.Io.KnownBytes.{Appends, Consumes}
use Rattle.limits.specs.Limits.{first_grid}
use Rattle.point_sample.specs.Sample.{sample}
use Rattle.quadtree.specs.Faults.{HasTree}
use Rattle.fmm_program.specs.Answers.{HasField, IsCertified, SolveAnswers, usage_line}
use Rattle.fmm_program.specs.Endings.{IsEnding, Flow, HasFault, OneLine, Output}
use Rattle.fmm_program.specs.SampleAnswers.{SampleAnswers}
use Rattle.fmm_program.specs.declared.status.Status.{Status}
use Rattle.fmm_program.specs.declared.status.Status.TheVariants.{Done, Usage, Memory, ReadFault, WriteFault}

-- The facts of a run of `solve`: how it ended for the input that the source told, and, of one that tells nothing, for some bytes that came.
-- A text of a version that has the order, and with a tree, is not refused.
pub record SolveRun (order cap : ℕ) (status : Status) (points out cert : Flow) : Type 0 where
  pub told : IfSome points.before (λ input. IsEnding (SolveAnswers order cap input) status out cert)
  pub came : (input : List ℕ) × Consumes points.before points.after input × IsEnding (SolveAnswers order cap input) status out cert
  pub complete : (input : List ℕ) → points.before ≡ Some input → HasField order cap input → (HasFault points → ⊥) → (HasFault out → ⊥) → (HasFault cert → ⊥)
      → (status ≡ Done) ⊎ (status ≡ Memory)

-- The facts of a run of `sample`. It has no read fault, and a sample that has a tree is not refused.
pub record SampleRun (seed n order cap : ℕ) (status : Status) (out cert : Flow) : Type 0 where
  pub ends : IsEnding (SampleAnswers seed n order cap) status out cert
  pub no_read_fault : status ≡ ReadFault → ⊥
  pub complete : HasTree first_grid (sample seed n).list cap → (HasFault out → ⊥) → (status ≡ Done) ⊎ (status ≡ Memory)

-- The facts of a run of words that are of no form.
abbrev pub UsageRun : Status → Flow → Flow → Type 0
UsageRun status out cert = IsEnding (OneLine Usage usage_line) status out cert × ((status ≡ Usage) ⊎ (status ≡ WriteFault))

-- The certified solve: what came is a text, all of it, and what was written are a certificate and a certified report of it.
pub record CertifiedRun (order cap : ℕ) (points out cert : Flow) : Type 0 where
  pub input : List ℕ
  pub output : Output
  pub consumed : Consumes points.before points.after input
  pub whole : IfSome points.before (λ left. (left ≡ input) × (points.after ≡ Some []))
  pub certified : IsCertified order cap input output
  pub written : Appends out.before out.after output.out
  pub cert_written : Appends cert.before cert.after output.cert

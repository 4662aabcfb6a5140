-- How a run ends: its status, and what its two outputs took.
use Rattle.std.specs.Prelude.{ℕ, ◌≡◌, ◌≤◌, ◌⊎◌, List, [], None}
use Rattle.std.specs.Io.KnownBytes.{Appends}
use Rattle.std.specs.declared.option.Option.{Option}
use Rattle.io_ports.specs.Bytes.{AppendsPrefix}
use Rattle.io_ports.specs.Faults.{Rose}
use Rattle.fmm_program.specs.declared.status.Status.{Status}
use Rattle.fmm_program.specs.declared.status.Status.TheVariants.{Done, Refused, Usage, Memory, ReadFault, WriteFault, Rejected}

-- the exit status
abbrev pub code : Status → ℕ
code Done = 0
code Refused = 1
code Usage = 2
code Memory = 3
code ReadFault = 4
code WriteFault = 5
code Rejected = 6

-- what a port told before and after a run, and its counts of faults
pub record Flow : Type 0 where
  pub before : Option (List ℕ)
  pub after : Option (List ℕ)
  pub faults_before : ℕ
  pub faults_after : ℕ

abbrev pub flow : Option (List ℕ) → Option (List ℕ) → ℕ → ℕ → Flow
flow before after faults_before faults_after = record { before = before; after = after; faults_before = faults_before; faults_after = faults_after }

-- a port that tells nothing. No public contract cites it.
abbrev pub untold : Flow
untold = flow None None 0 0

-- a fault of the port in this run
abbrev pub HasFault : Flow → Type 0
HasFault f = Rose f.faults_before f.faults_after

-- A write fault is the answer only where a write or a flush of this port failed, and no other answer hides such a fault.
pub record TellsFaults (status : Status) (out : Flow) : Type 0 where
  pub later : out.faults_before ≤ out.faults_after
  pub failed : status ≡ WriteFault → HasFault out
  pub passed : (status ≡ WriteFault → ⊥) → out.faults_after ≡ out.faults_before

-- and the same of two ports: a write or a flush of one of them failed
pub record TellBothFaults (status : Status) (out cert : Flow) : Type 0 where
  pub out_later : out.faults_before ≤ out.faults_after
  pub cert_later : cert.faults_before ≤ cert.faults_after
  pub failed : status ≡ WriteFault → HasFault out ⊎ HasFault cert
  pub passed : (status ≡ WriteFault → ⊥) → (out.faults_after ≡ out.faults_before) × (cert.faults_after ≡ cert.faults_before)

-- the bytes that go to the two outputs: the report or a line in its place, and the certificate
pub record Output : Type 0 where
  pub out : List ℕ
  pub cert : List ℕ

-- the one answer: this status, and nothing but this line
abbrev pub OneLine : Status → List ℕ → Status → Output → Type 0
OneLine ending line status output = (status ≡ ending) × (output.out ≡ line) × (output.cert ≡ [])

-- The certificate goes out first: a part of it, and nothing of the report, or all of it, and a part of the report.
abbrev pub AreBegun : Flow → Flow → Output → Type 0
AreBegun out cert output =
    (AppendsPrefix cert.before cert.after output.cert × (out.after ≡ out.before))
    ⊎ (Appends cert.before cert.after output.cert × AppendsPrefix out.before out.after output.out)

-- How a run ended that has `answers` for each status: both sinks took all of an output, a part of it after a write fault,
-- and nothing after a read fault or want of memory.
abbrev pub IsEnding : (Status → Output → Type 0) → Status → Flow → Flow → Type 0
IsEnding answers WriteFault out cert = (status : Status) × (output : Output) × answers status output × AreBegun out cert output
IsEnding answers Memory out cert = (out.after ≡ out.before) × (cert.after ≡ cert.before)
IsEnding answers ReadFault out cert = (out.after ≡ out.before) × (cert.after ≡ cert.before)
IsEnding answers status out cert = (output : Output) × answers status output × Appends out.before out.after output.out × Appends cert.before cert.after output.cert

-- an ending after which the report's port isn't flushed. No public contract cites it.
abbrev pub IsQuiet : Status → Type 0
IsQuiet status = (status ≡ Memory) ⊎ ((status ≡ ReadFault) ⊎ (status ≡ WriteFault))

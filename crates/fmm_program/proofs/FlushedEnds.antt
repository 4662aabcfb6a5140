-- Endings by answers that mean more, and endings after a flush.
use Rattle.std.proofs.Common.{◌≡◌, ◌∙◌, ◌⊎◌, inl, inr, refl, sym, subst, arith, ℕ, ◌≤◌, List, [], length, take}
use Rattle.std.proofs.KnownBytes.{Appends-kept, Appends-nil}
use Rattle.std.proofs.Math.Seq.{take-length}
use Rattle.std.specs.Io.KnownBytes.{Appends, Keeps}
use Rattle.std.specs.declared.option.Option.{Option}
use Rattle.io_ports.specs.Bytes.{AppendsPrefix}
use Rattle.io_ports.specs.Faults.{Rose}
use Rattle.fmm_program.specs.Endings.{IsEnding, IsQuiet, Flow, HasFault, OneLine, Output, TellBothFaults, TellsFaults, flow, untold}
use Rattle.fmm_program.specs.declared.status.Status.{Status}
use Rattle.fmm_program.specs.declared.status.Status.TheVariants.{Done, Refused, Usage, Memory, ReadFault, WriteFault, Rejected}

-- each of these answers is one of those
pub IsEnding-map : (A B : Status → Output → Type 0) → ((status : Status) (output : Output) → A status output → B status output) → (out cert : Flow) (status : Status) → IsEnding A status out cert → IsEnding B status out cert
IsEnding-map A B to out cert Done (output, a, p, q) = (output, to Done output a, p, q)
IsEnding-map A B to out cert Refused (output, a, p, q) = (output, to Refused output a, p, q)
IsEnding-map A B to out cert Usage (output, a, p, q) = (output, to Usage output a, p, q)
IsEnding-map A B to out cert Rejected (output, a, p, q) = (output, to Rejected output a, p, q)
IsEnding-map A B to out cert Memory e = e
IsEnding-map A B to out cert ReadFault e = e
IsEnding-map A B to out cert WriteFault (status, output, a, p) = (status, output, to status output a, p)

-- nothing but this goes out
abbrev pub plain : List ℕ → Output
plain bytes = record { out = bytes; cert = [] }

-- the same of the one answer of a line
pub IsEnding-line : (B : Status → Output → Type 0) (ending : Status) (line : List ℕ) → B ending (plain line) → (out cert : Flow) (status : Status) → IsEnding (OneLine ending line) status out cert → IsEnding B status out cert
IsEnding-line B ending line b = IsEnding-map (OneLine ending line) B (λ status output h. subst (λ s. B s output) (sym h.0) (subst (B ending) (sym (same output h.1 h.2)) b))
  where
    same : (output : Output) → output.out ≡ line → output.cert ≡ [] → output ≡ plain line
    same output out cert = λ i. record { out = out i; cert = cert i }

-- what is whole is a part of itself
pub AppendsPrefix-whole : (before after : Option (List ℕ)) (bytes : List ℕ) → Appends before after bytes → AppendsPrefix before after bytes
AppendsPrefix-whole before after bytes p = (length bytes, subst (Appends before after) (sym (take-length bytes)) p)

-- what a flush makes of a status
module _ (status result : Status) (stays : (result ≡ status) ⊎ (result ≡ WriteFault)) where
  -- a status other than a write fault was there before it
  pub flushed_from : (s : Status) → (WriteFault ≡ s → ⊥) → result ≡ s → status ≡ s
  flushed_from s differ e = by stays
    where
      by : (result ≡ status) ⊎ (result ≡ WriteFault) → status ≡ s
      by (inl h) = sym h ∙ e
      by (inr h) = absurd (differ (sym h ∙ e))

  -- the counts of faults before and after it
  pub flushed_tells : (before mid after : Option (List ℕ)) (b m a : ℕ) → m ≤ a → (result ≡ WriteFault → (status ≡ WriteFault) ⊎ Rose m a) → ((result ≡ WriteFault → ⊥) → a ≡ m)
      → TellsFaults status (flow before mid b m) → TellsFaults result (flow before after b a)
  flushed_tells before mid after b m a later failed passed tells = record {
    later = let l = tells.later in omega arith;
    failed = λ e. rose (failed e);
    passed = λ other. passed other ∙ tells.passed (λ e. other (still e stays));
  }
    where
      rose : (status ≡ WriteFault) ⊎ Rose m a → Rose b a
      rose (inl h) = let l = tells.failed h in omega arith
      rose (inr h) = let l = tells.later in omega arith

      still : status ≡ WriteFault → (result ≡ status) ⊎ (result ≡ WriteFault) → result ≡ WriteFault
      still e (inl h) = h ∙ e
      still e (inr h) = h

-- the counts of faults of two ports, where that of a certificate stays as it is
pub tell_both : (status : Status) (out : Flow) (cert : Option (List ℕ)) (f : ℕ) → TellsFaults status out → TellBothFaults status out (flow cert cert f f)
tell_both status out cert f tells = record {
  out_later = tells.later;
  cert_later = omega arith;
  failed = λ e. inl (tells.failed e);
  passed = λ other. (tells.passed other, refl);
}

-- an ending without a certificate, where its port stays as it is
module _ (answers : Status → Output → Type 0) (no_cert : (status : Status) (output : Output) → answers status output → output.cert ≡ []) (out : Flow) (cert : Option (List ℕ)) (f : ℕ) where
  none : (status : Status) (output : Output) → answers status output → Appends cert cert output.cert
  none status output x = subst (Appends cert cert) (sym (no_cert status output x)) (Appends-nil cert)

  pub with_cert : (status : Status) → IsEnding answers status out untold → IsEnding answers status out (flow cert cert f f)
  with_cert Done (output, x, p, q) = (output, x, p, none Done output x)
  with_cert Refused (output, x, p, q) = (output, x, p, none Refused output x)
  with_cert Usage (output, x, p, q) = (output, x, p, none Usage output x)
  with_cert Rejected (output, x, p, q) = (output, x, p, none Rejected output x)
  with_cert Memory (e, q) = (e, refl)
  with_cert ReadFault (e, q) = (e, refl)
  with_cert WriteFault (status, output, x, inl begun) = (status, output, x, inl ((0, Appends-nil cert), begun.1))
  with_cert WriteFault (status, output, x, inr begun) = (status, output, x, inr (none status output x, begun.1))

-- after a flush of the report's port
module _ (answers : Status → Output → Type 0) (before mid after : Option (List ℕ)) (kept : Keeps mid after) (b m a : ℕ) (cert : Flow) where
  all : (bytes : List ℕ) → Appends before mid bytes → Appends before after bytes
  all bytes p = Appends-kept before mid after bytes p kept

  some : (bytes : List ℕ) → AppendsPrefix before mid bytes → AppendsPrefix before after bytes
  some bytes (n, p) = (n, all (take n bytes) p)

  stays_so : (status : Status) → (IsQuiet status → after ≡ mid) → IsEnding answers status (flow before mid b m) cert → IsEnding answers status (flow before after b a) cert
  stays_so Done still (output, x, p, q) = (output, x, all output.out p, q)
  stays_so Refused still (output, x, p, q) = (output, x, all output.out p, q)
  stays_so Usage still (output, x, p, q) = (output, x, all output.out p, q)
  stays_so Rejected still (output, x, p, q) = (output, x, all output.out p, q)
  stays_so Memory still (e, q) = (still (inl refl) ∙ e, q)
  stays_so ReadFault still (e, q) = (still (inr (inl refl)) ∙ e, q)
  stays_so WriteFault still (status, output, x, inl begun) = (status, output, x, inl (begun.0, still (inr (inr refl)) ∙ begun.1))
  stays_so WriteFault still (status, output, x, inr begun) = (status, output, x, inr (begun.0, some output.out begun.1))

  begun : (bytes : List ℕ) → Appends before mid bytes → AppendsPrefix before after bytes
  begun bytes p = AppendsPrefix-whole before after bytes (all bytes p)

  fails : (status : Status) → (IsQuiet status → (WriteFault ≡ status) × (after ≡ mid)) → IsEnding answers status (flow before mid b m) cert → IsEnding answers WriteFault (flow before after b a) cert
  fails Done silent (output, x, p, q) = (Done, output, x, inr (q, begun output.out p))
  fails Refused silent (output, x, p, q) = (Refused, output, x, inr (q, begun output.out p))
  fails Usage silent (output, x, p, q) = (Usage, output, x, inr (q, begun output.out p))
  fails Rejected silent (output, x, p, q) = (Rejected, output, x, inr (q, begun output.out p))
  fails Memory silent e = absurd (let h = (silent (inl refl)).0 in cc)
  fails ReadFault silent e = absurd (let h = (silent (inr (inl refl))).0 in cc)
  fails WriteFault silent e = stays_so WriteFault (λ h. (silent h).1) e

  pub flushed_ends : (status result : Status) → (result ≡ status) ⊎ (result ≡ WriteFault) → (IsQuiet status → (result ≡ status) × (after ≡ mid))
      → IsEnding answers status (flow before mid b m) cert → IsEnding answers result (flow before after b a) cert
  flushed_ends status result (inl e) silent ends = subst (λ s. IsEnding answers s (flow before after b a) cert) (sym e) (stays_so status (λ h. (silent h).1) ends)
  flushed_ends status result (inr e) silent ends = subst (λ s. IsEnding answers s (flow before after b a) cert) (sym e) (fails status (λ h. (sym e ∙ (silent h).0, (silent h).1)) ends)

-- the counts of faults of both ports after a flush of the report's
pub flushed_both : (status result : Status) → (result ≡ status) ⊎ (result ≡ WriteFault) → (before mid after : Option (List ℕ)) (b m a : ℕ) (cert : Flow) → m ≤ a → (result ≡ WriteFault → (status ≡ WriteFault) ⊎ Rose m a)
    → ((result ≡ WriteFault → ⊥) → a ≡ m) → TellBothFaults status (flow before mid b m) cert → TellBothFaults result (flow before after b a) cert
flushed_both status result stays before mid after b m a cert later failed passed tells = record {
  out_later = let l = tells.out_later in omega arith;
  cert_later = tells.cert_later;
  failed = λ e. rose (failed e);
  passed = λ other. let p = tells.passed (λ e. other (still e stays)) in (passed other ∙ p.0, p.1);
}
  where
    risen : Rose b m ⊎ HasFault cert → Rose b a ⊎ HasFault cert
    risen (inl h) = inl (omega arith)
    risen (inr h) = inr h

    rose : (status ≡ WriteFault) ⊎ Rose m a → Rose b a ⊎ HasFault cert
    rose (inl h) = risen (tells.failed h)
    rose (inr h) = inl (let l = tells.out_later in omega arith)

    still : status ≡ WriteFault → (result ≡ status) ⊎ (result ≡ WriteFault) → result ≡ WriteFault
    still e (inl h) = h ∙ e
    still e (inr h) = h

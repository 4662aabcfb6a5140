-- How runs of `solve` end: from what the calls answered to the facts of a run.
use Rattle.std.proofs.Common.{◌≡◌, ◌∙◌, ◌⊎◌, [], subst, sym, refl, ℕ, ◌≤◌, ◌<◌, List, append-nil, codes, length, length-append, ap, arith, inl, inr, Some, None, IfSome}
use Rattle.std.specs.Io.KnownBytes.{Appends, Consumes, Keeps}
use Rattle.std.specs.declared.option.Option.{Option}
use Rattle.cert_text.specs.Certificate.{certificate_text}
use Rattle.field_certificate.specs.FieldCertificate.{field_certificate}
use Rattle.field_report.specs.FieldText.{field_text}
use Rattle.io_ports.specs.Bytes.{AppendsPrefix, GivesAll}
use Rattle.io_ports.specs.Faults.{Rose}
use Rattle.limits.proofs.Grids.{grid_positive, version_has_grid}
use Rattle.limits.specs.Limits.{grid_of, most_order}
use Rattle.particle_text.specs.Faults.{FirstFault}
use Rattle.particle_text.specs.declared.TextKind.{TextKind}
use Rattle.points.specs.declared.Points.{Points}
use Rattle.quadtree.proofs.Limits.{in_grid}
use Rattle.quadtree.specs.Faults.{HasTree}
use Rattle.tree_field.proofs.EachList.{each_list_has_tree}
use Rattle.tree_field.specs.Lists.{TreeLists, AreTreeLists}
use Rattle.fmm_program.proofs.Complete.{completes}
use Rattle.fmm_program.proofs.FlushedEnds.{IsEnding-line, IsEnding-map, flushed_ends, plain, with_cert}
use Rattle.fmm_program.specs.Answers.{DepthAnswers, IsRead, SolveAnswers, fault_line, most_input}
use Rattle.fmm_program.specs.Endings.{IsEnding, IsQuiet, Flow, HasFault, OneLine, Output, flow, untold}
use Rattle.fmm_program.specs.Runs.{SolveRun}
use Rattle.fmm_program.specs.declared.status.Status.{Status}
use Rattle.fmm_program.specs.declared.status.Status.TheVariants.{Done, Refused, Usage, Memory, ReadFault, WriteFault, Rejected}

line_plain : (line : List ℕ) (status : Status) (output : Output) → OneLine Refused line status output → output.cert ≡ []
line_plain line status output a = a.2

depth_plain : (points : Points) (cap : ℕ) (status : Status) (output : Output) → DepthAnswers points cap status output → output.cert ≡ []
depth_plain points cap Refused output a = a.1
depth_plain points cap Done output a = absurd a
depth_plain points cap Usage output a = absurd a
depth_plain points cap Memory output a = absurd a
depth_plain points cap ReadFault output a = absurd a
depth_plain points cap WriteFault output a = absurd a
depth_plain points cap Rejected output a = absurd a

-- at the order P
pub ends_at : (order cap : ℕ) (input : List ℕ) (out cert : Flow) (status : Status) (P : ℕ) → order ≡ P → IsEnding (SolveAnswers P cap input) status out cert → IsEnding (SolveAnswers order cap input) status out cert
ends_at order cap input out cert status P e = subst (λ m. IsEnding (SolveAnswers m cap input) status out cert) (sym e)

-- a refusal, where the port of a certificate stays as it is
module _ (order cap : ℕ) (input : List ℕ) (out : Flow) (cert : Option (List ℕ)) (f : ℕ) (status : Status) where
  abbrev Ends : Type 0
  Ends = IsEnding (SolveAnswers order cap input) status out (flow cert cert f f)

  line_ends : (line : List ℕ) → SolveAnswers order cap input Refused (plain line) → IsEnding (OneLine Refused line) status out untold → Ends
  line_ends line a ends = IsEnding-line (SolveAnswers order cap input) Refused line a out (flow cert cert f f) status (with_cert (OneLine Refused line) (line_plain line) out cert f status ends)

  -- the line of the first fault of a text
  pub fault_ends : (number : ℕ) (kind : TextKind) (line : List ℕ) → length input ≤ most_input → FirstFault input number kind → line ≡ fault_line number kind
      → IsEnding (OneLine Refused line) status out untold → Ends
  fault_ends number kind line within fault e = line_ends line (inl (inr (within, (number, kind, fault, e))), refl)

  -- more came than an input may have
  pub long_ends : most_input < length input → IsEnding (OneLine Refused (codes "refused long\n")) status out untold → Ends
  long_ends longer = line_ends (codes "refused long\n") (inl (inl (longer, refl)), refl)

  -- the version of the points has no such order
  pub order_ends : (points : Points) → IsRead input points → most_order (grid_of points.version) < order → IsEnding (OneLine Refused (codes "refused order\n")) status out untold → Ends
  order_ends points read above = line_ends (codes "refused order\n") (inr (inl (points, read, above, refl)), refl)

  -- points that have no tree
  pub depth_ends : (points : Points) → IsRead input points → order ≤ most_order (grid_of points.version) → IsEnding (DepthAnswers points cap) status out untold → Ends
  depth_ends points read most ends =
      IsEnding-map (DepthAnswers points cap) (SolveAnswers order cap input) deep out (flow cert cert f f) status (with_cert (DepthAnswers points cap) (depth_plain points cap) out cert f status ends)
    where
      deep : (status : Status) (output : Output) → DepthAnswers points cap status output → SolveAnswers order cap input status output
      deep Refused output a = (inr (inr (points, read, most, a.0)), a.1)
      deep Done output a = absurd a
      deep Usage output a = absurd a
      deep Memory output a = absurd a
      deep ReadFault output a = absurd a
      deep WriteFault output a = absurd a
      deep Rejected output a = absurd a

-- what goes out with the report
module _ (order cap : ℕ) (input : List ℕ) (points : Points) (read : IsRead input points) (most : order ≤ most_order (grid_of points.version)) (has : HasTree (grid_of points.version) points.list cap)
    (before after cert_before cert_after : Option (List ℕ)) where
  some : (lists : TreeLists) × AreTreeLists (grid_of points.version) points.list cap lists
  some = each_list_has_tree (grid_of points.version) points.list cap (grid_positive (grid_of points.version) (version_has_grid points.version)) (in_grid (grid_of points.version) points.list read.1.limits.within.range)

  abbrev written : Output
  written = record { out = field_text points order cap some.0; cert = certificate_text (field_certificate points cap order some.0) }

  reported : SolveAnswers order cap input Done written
  reported = record {
    depth = record { points = points; read = read; has_order = most; has_tree = has };
    lists = some.0;
    lists_are = some.1;
    certificate = refl;
    report = refl;
  }

  abbrev EndsSo : Status → Type 0
  EndsSo status = IsEnding (SolveAnswers order cap input) status (flow before after 0 0) (flow cert_before cert_after 0 0)

  -- what holds of the certificate with the capacity that the field keeps
  of_cap : (kept : ℕ) (P : List ℕ → Type 0) → kept ≡ cap → ((lists : TreeLists) → AreTreeLists (grid_of points.version) points.list kept lists → P (certificate_text (field_certificate points kept order lists)))
      → P (certificate_text (field_certificate points cap order some.0))
  of_cap kept P same h =
      subst (λ n. (lists : TreeLists) → AreTreeLists (grid_of points.version) points.list n lists → P (certificate_text (field_certificate points n order lists))) same h some.0 some.1

  module _ (kept : ℕ) (same : kept ≡ cap) where
    -- all of the certificate, and all of the report or a part of it
    module _ (whole : (lists : TreeLists) → AreTreeLists (grid_of points.version) points.list kept lists → Appends cert_before cert_after (certificate_text (field_certificate points kept order lists))) where
      pub report_ends : ((lists : TreeLists) → AreTreeLists (grid_of points.version) points.list cap lists → Appends before after (field_text points order cap lists)) → EndsSo Done
      report_ends h = (written, reported, h some.0 some.1, of_cap kept (Appends cert_before cert_after) same whole)

      pub part_ends : ((lists : TreeLists) → AreTreeLists (grid_of points.version) points.list cap lists → AppendsPrefix before after (field_text points order cap lists)) → EndsSo WriteFault
      part_ends h = (Done, written, reported, inr (of_cap kept (Appends cert_before cert_after) same whole, h some.0 some.1))

    -- a part of the certificate, and nothing of the report
    pub cut_ends : ((lists : TreeLists) → AreTreeLists (grid_of points.version) points.list kept lists → AppendsPrefix cert_before cert_after (certificate_text (field_certificate points kept order lists)))
        → after ≡ before → EndsSo WriteFault
    cut_ends h still = (Done, written, reported, inl (of_cap kept (AppendsPrefix cert_before cert_after) same h, still))

-- what was left came, all of it
pub all_came : (left rest : Option (List ℕ)) (bytes : List ℕ) → GivesAll left rest bytes → Consumes left rest bytes
all_came None rest bytes g = tt
all_came (Some xs) rest bytes g = subst (λ r. Consumes (Some xs) r bytes) (sym g.1) (sym g.0 ∙ sym (append-nil bytes))

-- what holds of the bytes that came, all of them, holds of those that the source told
pub told_all : (left rest : Option (List ℕ)) (bytes : List ℕ) (P : List ℕ → Type 0) → GivesAll left rest bytes → P bytes → IfSome left P
told_all None rest bytes P g h = tt
told_all (Some xs) rest bytes P g h = subst P g.0 h

-- what holds of any input that is too long holds of one of which so much came
told_long : (left rest : Option (List ℕ)) (bytes : List ℕ) (P : List ℕ → Type 0) → Consumes left rest bytes → most_input < length bytes → ((input : List ℕ) → most_input < length input → P input) → IfSome left P
told_long None rest bytes P p l h = tt
told_long (Some xs) None bytes P p l h = absurd p
told_long (Some xs) (Some ys) bytes P p l h = h xs (let e = ap length p ∙ length-append bytes ys in omega arith)

-- what holds of any input
pub told_any : (left : Option (List ℕ)) (P Q : List ℕ → Type 0) → ((input : List ℕ) → P input → Q input) → IfSome left P → IfSome left Q
told_any None P Q h p = tt
told_any (Some xs) P Q h p = h xs p

module _ (order cap : ℕ) (left rest : Option (List ℕ)) (r s : ℕ) (status : Status) where
  abbrev EndsFor : Flow → Flow → List ℕ → Type 0
  EndsFor out cert input = IsEnding (SolveAnswers order cap input) status out cert

  -- a run that ended so has the facts of a run
  solve_run : (out cert : Flow) → IfSome left (EndsFor out cert) → (input : List ℕ) × Consumes left rest input × EndsFor out cert input
      → (status ≡ ReadFault → Rose r s) → (status ≡ WriteFault → HasFault out ⊎ HasFault cert) → SolveRun order cap status (flow left rest r s) out cert
  solve_run out cert told came read write = record {
    told = told;
    came = came;
    complete = λ input e depth no_read no_write no_cert.
        completes order cap input out cert depth status (subst (λ o. IfSome o (EndsFor out cert)) e told) (λ h. no_read (read h)) (λ h. either no_write no_cert (write h));
  }
    where
      either : {A B : Type 0} → (A → ⊥) → (B → ⊥) → A ⊎ B → ⊥
      either f g (inl x) = f x
      either f g (inr x) = g x

  -- the input was read whole
  pub whole_run : (out cert : Flow) (bytes : List ℕ) → GivesAll left rest bytes → EndsFor out cert bytes → (status ≡ ReadFault → ⊥) → (status ≡ WriteFault → HasFault out ⊎ HasFault cert)
      → SolveRun order cap status (flow left rest r s) out cert
  whole_run out cert bytes whole ends read write =
      solve_run out cert (told_all left rest bytes (EndsFor out cert) whole ends) (bytes, all_came left rest bytes whole, ends) (λ h. absurd (read h)) write

  -- it was too long
  pub long_run : (out : Flow) (cert : Option (List ℕ)) (f : ℕ) (bytes : List ℕ) → Consumes left rest bytes → most_input < length bytes → IsEnding (OneLine Refused (codes "refused long\n")) status out untold
      → (status ≡ Refused) ⊎ (status ≡ WriteFault) → (status ≡ WriteFault → HasFault out) → SolveRun order cap status (flow left rest r s) out (flow cert cert f f)
  long_run out cert f bytes p l ends only write =
      solve_run out (flow cert cert f f) (told_long left rest bytes (EndsFor out (flow cert cert f f)) p l (λ input longer. long_ends order cap input out cert f status longer ends))
      (bytes, p, long_ends order cap bytes out cert f status l ends) (λ h. absurd (other only h)) (λ h. inl (write h))
    where
      other : (status ≡ Refused) ⊎ (status ≡ WriteFault) → status ≡ ReadFault → ⊥
      other (inl e) h = cc
      other (inr e) h = cc

-- after a flush of the report's port
module _ (order cap : ℕ) (left rest : Option (List ℕ)) (r s : ℕ) (before mid after : Option (List ℕ)) (kept : Keeps mid after) (b m a : ℕ) (cert : Flow) (status result : Status) (stays : (result ≡ status) ⊎ (result ≡ WriteFault))
    (silent : IsQuiet status → (result ≡ status) × (after ≡ mid)) where
  flushed : (input : List ℕ) → EndsFor order cap left rest r s status (flow before mid b m) cert input → EndsFor order cap left rest r s result (flow before after b a) cert input
  flushed input = flushed_ends (SolveAnswers order cap input) before mid after kept b m a cert status result stays silent

  pub flushed_run : SolveRun order cap status (flow left rest r s) (flow before mid b m) cert → (result ≡ ReadFault → Rose r s) → (result ≡ WriteFault → Rose b a ⊎ HasFault cert)
      → SolveRun order cap result (flow left rest r s) (flow before after b a) cert
  flushed_run run read write =
      solve_run order cap left rest r s result (flow before after b a) cert (told_any left _ _ flushed run.told) (run.came.0, run.came.1, flushed run.came.0 run.came.2) read write

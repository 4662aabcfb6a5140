-- How runs of `sample` end: from what the calls answered to the facts of a run.
use Rattle.std.proofs.Common.{◌≡◌, ◌∙◌, ◌⊎◌, subst, sym, refl, arith, ℕ, inl, inr, List, []}
use Rattle.std.specs.Io.KnownBytes.{Appends, Keeps}
use Rattle.std.specs.declared.option.Option.{Option}
use Rattle.io_ports.specs.Bytes.{AppendsPrefix}
use Rattle.io_ports.specs.Faults.{Rose}
use Rattle.limits.specs.Limits.{first_grid, grid_of}
use Rattle.points.specs.Limits.{WithinLimits}
use Rattle.points.specs.declared.Points.{Points}
use Rattle.point_sample.specs.Sample.{sample}
use Rattle.quadtree.proofs.Limits.{in_grid}
use Rattle.quadtree.specs.Faults.{HasTree}
use Rattle.sample_summary.specs.Summary.{summary_text}
use Rattle.tree_field.proofs.EachList.{each_list_has_tree}
use Rattle.tree_field.specs.Lists.{TreeLists, AreTreeLists}
use Rattle.fmm_program.proofs.Complete.{deep_enough}
use Rattle.fmm_program.proofs.FlushedEnds.{IsEnding-map, flushed_ends, plain, with_cert}
use Rattle.fmm_program.specs.Answers.{DepthAnswers}
use Rattle.fmm_program.specs.Endings.{IsEnding, IsQuiet, Flow, HasFault, Output, TellsFaults, flow, untold}
use Rattle.fmm_program.specs.Runs.{SampleRun}
use Rattle.fmm_program.specs.SampleAnswers.{SampleAnswers}
use Rattle.fmm_program.specs.declared.status.Status.{Status}
use Rattle.fmm_program.specs.declared.status.Status.TheVariants.{Done, Refused, Usage, Memory, ReadFault, WriteFault, Rejected}

-- the answers of `sample` have no certificate
sample_plain : (seed n order cap : ℕ) (status : Status) (output : Output) → SampleAnswers seed n order cap status output → output.cert ≡ []
sample_plain seed n order cap Done output a = a.1
sample_plain seed n order cap Refused output a = a.1
sample_plain seed n order cap Usage output a = absurd a
sample_plain seed n order cap Memory output a = absurd a
sample_plain seed n order cap ReadFault output a = absurd a
sample_plain seed n order cap WriteFault output a = absurd a
sample_plain seed n order cap Rejected output a = absurd a

module _ (seed n order cap : ℕ) where
  module _ (out cert : Flow) where
    -- no run of `sample` ends with the usage line, or with a rejected certificate
    pub sample_is_no_usage : (status : Status) → IsEnding (SampleAnswers seed n order cap) status out cert → status ≡ Usage → ⊥
    sample_is_no_usage status ends e = (subst (λ s. IsEnding (SampleAnswers seed n order cap) s out cert) e ends).1

    pub sample_rejects_none : (status : Status) → IsEnding (SampleAnswers seed n order cap) status out cert → status ≡ Rejected → ⊥
    sample_rejects_none status ends e = (subst (λ s. IsEnding (SampleAnswers seed n order cap) s out cert) e ends).1

    completes : HasTree first_grid (sample seed n).list cap → (status : Status) → IsEnding (SampleAnswers seed n order cap) status out cert → (status ≡ ReadFault → ⊥) → (status ≡ WriteFault → ⊥) → (status ≡ Done) ⊎ (status ≡ Memory)
    completes has Done ends r w = inl refl
    completes has Memory ends r w = inr refl
    completes has Refused (output, a, p, q) r w = absurd (deep_enough (sample seed n) cap output.out has a.0)
    completes has ReadFault ends r w = absurd (r refl)
    completes has WriteFault ends r w = absurd (w refl)
    completes has Usage ends r w = absurd ends.1
    completes has Rejected ends r w = absurd ends.1

    -- a run that ended so has the facts of a run
    sample_run : (status : Status) → IsEnding (SampleAnswers seed n order cap) status out cert → (status ≡ ReadFault → ⊥) → (status ≡ WriteFault → HasFault out) → SampleRun seed n order cap status out cert
    sample_run status ends read write = record { ends = ends; no_read_fault = read; complete = λ has no_write. completes has status ends read (λ h. no_write (write h)) }

  -- a run at the order P
  pub run_at : (P : ℕ) (out : Flow) (status : Status) → order ≡ P → IsEnding (SampleAnswers seed n P cap) status out untold → (status ≡ ReadFault → ⊥) → TellsFaults status out → SampleRun seed n order cap status out untold
  run_at P out status e ends read write = sample_run out untold status (subst (λ m. IsEnding (SampleAnswers seed n m cap) status out untold) (sym e) ends) read write.failed

  -- after a flush, where the port of a certificate stays as it is
  pub flushed_sample : (before mid after cert : Option (List ℕ)) → Keeps mid after → (b m a c : ℕ) (status result : Status) → (result ≡ status) ⊎ (result ≡ WriteFault)
      → (IsQuiet status → (result ≡ status) × (after ≡ mid)) → SampleRun seed n order cap status (flow before mid b m) untold → (result ≡ WriteFault → Rose b a)
      → SampleRun seed n order cap result (flow before after b a) (flow cert cert c c)
  flushed_sample before mid after cert kept b m a c status result stays silent run write =
      sample_run (flow before after b a) (flow cert cert c c) result
      (flushed_ends (SampleAnswers seed n order cap) before mid after kept b m a (flow cert cert c c) status result stays silent
      (with_cert (SampleAnswers seed n order cap) (sample_plain seed n order cap) (flow before mid b m) cert c status run.ends)) (read stays) write
    where
      read : (result ≡ status) ⊎ (result ≡ WriteFault) → result ≡ ReadFault → ⊥
      read (inl e) h = run.no_read_fault (sym e ∙ h)
      read (inr e) h = cc

  -- points that have no tree
  pub depth_ends : (out : Flow) (status : Status) (points : Points) → points ≡ sample seed n → IsEnding (DepthAnswers points cap) status out untold → IsEnding (SampleAnswers seed n order cap) status out untold
  depth_ends out status points e ends = IsEnding-map (DepthAnswers (sample seed n) cap) (SampleAnswers seed n order cap) deep out untold status (subst (λ (ps : Points). IsEnding (DepthAnswers ps cap) status out untold) e ends)
    where
      deep : (status : Status) (output : Output) → DepthAnswers (sample seed n) cap status output → SampleAnswers seed n order cap status output
      deep Refused output a = a
      deep Done output a = absurd a
      deep Usage output a = absurd a
      deep Memory output a = absurd a
      deep ReadFault output a = absurd a
      deep WriteFault output a = absurd a
      deep Rejected output a = absurd a

  module _ (limits : WithinLimits (sample seed n)) (has : HasTree first_grid (sample seed n).list cap) where
    some : (lists : TreeLists) × AreTreeLists first_grid ((sample seed n).list) cap lists
    some = each_list_has_tree first_grid ((sample seed n).list) cap (omega arith) (in_grid first_grid ((sample seed n).list) limits.within.range)

    abbrev summary : List ℕ
    summary = summary_text seed (sample seed n).list order cap some.0

    summarized : SampleAnswers seed n order cap Done (plain summary)
    summarized = (has, refl, (some.0, some.1, refl))

  -- what goes out with the summary, all of it or a part of it
  module _ (before after : Option (List ℕ)) where
    pub summary_ends : (points : Points) → points ≡ sample seed n → WithinLimits points → HasTree (grid_of points.version) points.list cap
        → ((lists : TreeLists) → AreTreeLists first_grid points.list cap lists → Appends before after (summary_text seed points.list order cap lists)) → IsEnding (SampleAnswers seed n order cap) Done (flow before after 0 0) untold
    summary_ends points e =
        subst (λ (ps : Points). WithinLimits ps → HasTree (grid_of ps.version) ps.list cap → ((lists : TreeLists) → AreTreeLists first_grid ps.list cap lists → Appends before after (summary_text seed ps.list order cap lists)) → IsEnding (SampleAnswers seed n order cap) Done (flow before after 0 0) untold)
        (sym e)
        (λ limits has h. (plain (summary limits has), summarized limits has, h (some limits has).0 (some limits has).1, tt))

    pub part_ends : (points : Points) → points ≡ sample seed n → WithinLimits points → HasTree (grid_of points.version) points.list cap
        → ((lists : TreeLists) → AreTreeLists first_grid points.list cap lists → AppendsPrefix before after (summary_text seed points.list order cap lists)) → IsEnding (SampleAnswers seed n order cap) WriteFault (flow before after 0 0) untold
    part_ends points e =
        subst (λ (ps : Points). WithinLimits ps → HasTree (grid_of ps.version) ps.list cap → ((lists : TreeLists) → AreTreeLists first_grid ps.list cap lists → AppendsPrefix before after (summary_text seed ps.list order cap lists)) → IsEnding (SampleAnswers seed n order cap) WriteFault (flow before after 0 0) untold)
        (sym e)
        (λ limits has h. (Done, plain (summary limits has), summarized limits has, inr (tt, h (some limits has).0 (some limits has).1)))

-- A text with no crowded place and few cells is not refused, and no run of `solve` has the answers of other commands.
use Rattle.std.proofs.Common.{◌≡◌, subst, sym, refl, arith, ℕ, ◌<◌, ◌⊎◌, inl, inr, List}
use Rattle.particle_text.proofs.OneFault.{never_both}
use Rattle.particle_text.proofs.OneText.{one_list}
use Rattle.limits.specs.Limits.{grid_of, most_order}
use Rattle.points.specs.declared.Points.{Points}
use Rattle.quadtree.specs.Faults.{HasTree}
use Rattle.fmm_program.specs.Answers.{HasField, RefusesDepth, SolveAnswers}
use Rattle.fmm_program.specs.Endings.{IsEnding, Flow}
use Rattle.fmm_program.specs.declared.status.Status.{Status}
use Rattle.fmm_program.specs.declared.status.Status.TheVariants.{Done, Refused, Usage, Memory, ReadFault, WriteFault, Rejected}

-- points that have a tree are not refused for depth
pub deep_enough : (points : Points) (cap : ℕ) (out : List ℕ) → HasTree (grid_of points.version) points.list cap → RefusesDepth points cap out → ⊥
deep_enough points cap out has (inl crowded) = has.none_crowded crowded.0 crowded.2.crowded
deep_enough points cap out has (inr cells) = has.no_more cells.0.too_many

module _ (order cap : ℕ) (input : List ℕ) (out cert : Flow) where
  module _ (depth : HasField order cap input) where
    refused : IsEnding (SolveAnswers order cap input) Refused out cert → ⊥
    refused (output, (inl (inl long), e), p, q) = absurd (let l = long.0 in let w = depth.read.0 in omega arith)
    refused (output, (inl (inr faulty), e), p, q) = never_both input depth.points faulty.1.0 faulty.1.1 depth.read.1 faulty.1.2
    refused (output, (inr (inl other), e), p, q) =
        let same = one_list input other.0 depth.points other.1.1 depth.read.1 in
        absurd (let above = subst (λ (ps : Points). most_order (grid_of ps.version) < order) same other.2 in let most = depth.has_order in omega (arith, above, most))
    refused (output, (inr (inr deep), e), p, q) =
        let same = one_list input deep.0 depth.points deep.1.1 depth.read.1 in
        deep_enough deep.0 cap output.out (subst (λ (ps : Points). HasTree (grid_of ps.version) ps.list cap) (sym same) depth.has_tree) deep.3

    pub completes : (status : Status) → IsEnding (SolveAnswers order cap input) status out cert → (status ≡ ReadFault → ⊥) → (status ≡ WriteFault → ⊥) → (status ≡ Done) ⊎ (status ≡ Memory)
    completes Done ends r w = inl refl
    completes Memory ends r w = inr refl
    completes Refused ends r w = absurd (refused ends)
    completes ReadFault ends r w = absurd (r refl)
    completes WriteFault ends r w = absurd (w refl)
    completes Usage ends r w = absurd ends.1
    completes Rejected ends r w = absurd ends.1

  -- no run of `solve` ends with the usage line, or with a rejected certificate
  pub solve_is_no_usage : (status : Status) → IsEnding (SolveAnswers order cap input) status out cert → status ≡ Usage → ⊥
  solve_is_no_usage status ends e = (subst (λ s. IsEnding (SolveAnswers order cap input) s out cert) e ends).1

  pub solve_rejects_none : (status : Status) → IsEnding (SolveAnswers order cap input) status out cert → status ≡ Rejected → ⊥
  solve_rejects_none status ends e = (subst (λ s. IsEnding (SolveAnswers order cap input) s out cert) e ends).1

-- The certificate of a field is not rejected, and what an accepted certificate says of the points.
use Rattle.std.proofs.Common.{◌≡◌, ◌⊎◌, [], subst, sym, refl, ℕ, ◌≤◌, ◌<◌, List, length, arith, inl, inr, Some, IfSome}
use Rattle.cert_text.specs.Certificate.{Certificate, SpellsCert}
use Rattle.cert_text.proofs.Readings as readings
use Rattle.certificate_accepted.proofs.Whole.{field_accepted}
use Rattle.certificate_check.specs.Answers.{CountsContain}
use Rattle.certificate_rules.proofs.Numbers.{one_verdict}
use Rattle.certificate_rules.proofs.Presented.{counts_are_sound}
use Rattle.certificate_rules.specs.Verdicts.{HoldEverywhere, IsFirstFailure}
use Rattle.field_certificate.proofs.FieldRanges.{field_text_spells}
use Rattle.field_certificate.specs.FieldCertificate.{field_certificate}
use Rattle.field_certificate.specs.Laws.{CanBeCertified}
use Rattle.limits.specs.Limits.{grid_of, most_certificate}
use Rattle.particle_text.proofs.OneFault.{never_both}
use Rattle.particle_text.proofs.OneText.{one_list}
use Rattle.points.specs.declared.Points.{Points}
use Rattle.fmm_program.proofs.Certified.{whole}
use Rattle.fmm_program.specs.CheckAnswers.{CheckAnswers}
use Rattle.fmm_program.specs.CheckRuns.{AnswersBoth, CheckedRun, IsFieldCertificate}
use Rattle.fmm_program.specs.Endings.{IsEnding, Flow}
use Rattle.fmm_program.specs.declared.status.Status.{Status}
use Rattle.fmm_program.specs.declared.status.Status.TheVariants.{Done, Refused, Usage, Memory, ReadFault, WriteFault, Rejected}

module _ (input text : List ℕ) (is : IsFieldCertificate input text) (out cert : Flow) where
  abbrev written : Certificate
  written = field_certificate is.points is.cap is.order is.lists

  can : CanBeCertified is.points is.cap is.order is.lists
  can = record {
    limits = is.read.1.limits;
    order = is.is_order;
    tree = is.has_tree;
    lists_are = is.lists_are;
    short = subst (λ t. length t ≤ most_certificate (grid_of is.points.version)) is.text_is is.short;
  }

  spelled : SpellsCert text written
  spelled = subst (λ t. SpellsCert t written) (sym is.text_is) (field_text_spells is.points is.cap is.order is.lists can)

  hold : HoldEverywhere is.points written
  hold = field_accepted is.points is.cap is.order is.lists is.read.1.limits is.lists_are

  refused : IsEnding (CheckAnswers input text) Refused out cert → ⊥
  refused (output, (inl (inl long), e), p, q) = absurd (let l = long.0 in let w = is.read.0 in omega arith)
  refused (output, (inl (inr faulty), e), p, q) = never_both input is.points faulty.1.0 faulty.1.1 is.read.1 faulty.1.2
  refused (output, (inr long, e), p, q) =
      let same = one_list input long.0 is.points long.1.1 is.read.1 in
      absurd (let longer = subst (λ (ps : Points). most_certificate (grid_of ps.version) < length text) same long.2 in let short = is.short in omega (arith, longer, short))

  rejected : IsEnding (CheckAnswers input text) Rejected out cert → ⊥
  rejected (output, ((points, are, inl (number, kind, fault, line)), e), p, q) = readings.never_both text written number kind spelled fault
  rejected (output, ((points, are, inr (c, rule, number, other, first, line)), e), p, q) =
      let same_points = one_list input points is.points are.read.1 is.read.1 in
      let same = readings.one_certificate text c written other spelled in
      (one_verdict is.points written rule number (subst (λ d. IsFirstFailure is.points d rule number) same (subst (λ (ps : Points). IsFirstFailure ps c rule number) same_points first))).1 hold

  pub completes : (status : Status) → IsEnding (CheckAnswers input text) status out cert → (status ≡ ReadFault → ⊥) → (status ≡ WriteFault → ⊥) → (status ≡ Done) ⊎ (status ≡ Memory)
  completes Done ends r w = inl refl
  completes Memory ends r w = inr refl
  completes Refused ends r w = absurd (refused ends)
  completes Rejected ends r w = absurd (rejected ends)
  completes ReadFault ends r w = absurd (r refl)
  completes WriteFault ends r w = absurd (w refl)
  completes Usage ends r w = absurd ends.1

-- a certificate that is accepted
pub checked : (points cert_in out cert : Flow) (status : Status) → status ≡ Done → IfSome points.before (λ _. points.after ≡ Some []) → IfSome cert_in.before (λ _. cert_in.after ≡ Some [])
    → AnswersBoth status points cert_in out cert → CheckedRun points cert_in
checked points cert_in out cert status done first second run =
    let came = run.came in
    let e = subst (λ s. IsEnding (CheckAnswers came.0 came.1) s out cert) done came.4 in
    let a = e.1.0 in
    record {
      input = came.0;
      text = came.1;
      consumed = (came.2, came.3);
      whole = (whole points.before points.after came.0 came.2 first, whole cert_in.before cert_in.after came.1 came.3 second);
      list = a.points;
      read = a.are_read.read;
      certificate = a.certificate;
      spelled = a.spelled;
      contain = counts_are_sound a.points a.certificate a.spelled.is_certificate a.hold;
    }

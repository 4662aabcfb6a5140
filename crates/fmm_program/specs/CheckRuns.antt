-- The facts of a run of `check`.
use Rattle.std.specs.Prelude.{ℕ, ◌≡◌, ◌≤◌, ◌⊎◌, List, [], Some, IfSome, length}
use Rattle.std.specs.Io.KnownBytes.{Consumes}
use Rattle.cert_text.specs.Certificate.{Certificate, SpellsCert, certificate_text}
use Rattle.certificate_check.specs.Answers.{CountsContain}
use Rattle.exact_math.specs.Orders.{IsCapacity}
use Rattle.field_certificate.specs.FieldCertificate.{field_certificate}
use Rattle.limits.specs.Limits.{grid_of, most_certificate}
use Rattle.points.specs.Limits.{IsOrderOf}
use Rattle.points.specs.declared.Points.{Points}
use Rattle.quadtree.specs.Faults.{HasTree}
use Rattle.tree_field.specs.Lists.{TreeLists, AreTreeLists}
use Rattle.fmm_program.specs.Answers.{IsRead}
use Rattle.fmm_program.specs.CheckAnswers.{CheckAnswers}
use Rattle.fmm_program.specs.Endings.{IsEnding, Flow, HasFault, untold}
use Rattle.fmm_program.specs.declared.status.Status.{Status}
use Rattle.fmm_program.specs.declared.status.Status.TheVariants.{Done, Memory}

-- the text is the certificate of the field of the points that the input spells, at some order of their version and some capacity at which they have a tree
pub record IsFieldCertificate (input text : List ℕ) : Type 0 where
  pub points : Points
  pub read : IsRead input points
  pub order : ℕ
  pub is_order : IsOrderOf (grid_of points.version) order
  pub cap : ℕ
  pub is_capacity : IsCapacity cap
  pub has_tree : HasTree (grid_of points.version) points.list cap
  pub lists : TreeLists
  pub lists_are : AreTreeLists (grid_of points.version) points.list cap lists
  pub text_is : text ≡ certificate_text (field_certificate points cap order lists)
  pub short : length text ≤ most_certificate (grid_of points.version)

-- no points can be read of an input
abbrev pub HasNoPoints : List ℕ → Type 0
HasNoPoints input = (points : Points) → IsRead input points → ⊥

-- How a run ended that had read this first input, for the certificate that its source told, and for some bytes that came. No public contract cites it.
pub record AnswersSecond (input : List ℕ) (status : Status) (cert_in out : Flow) : Type 0 where
  pub told : IfSome cert_in.before (λ text. IsEnding (CheckAnswers input text) status out untold)
  pub came : (text : List ℕ) × Consumes cert_in.before cert_in.after text × IsEnding (CheckAnswers input text) status out untold

-- How a run ended for the two inputs that the sources told, and, of those that tell nothing, for some bytes that came.
pub record AnswersBoth (status : Status) (points cert_in out cert : Flow) : Type 0 where
  pub told : IfSome points.before (λ input. IfSome cert_in.before (λ text. IsEnding (CheckAnswers input text) status out cert))
  pub came : (input : List ℕ) × (text : List ℕ) × Consumes points.before points.after input × Consumes cert_in.before cert_in.after text
      × IsEnding (CheckAnswers input text) status out cert

-- How a run of `check` ended. A certificate that a solve writes is not rejected.
pub record CheckRun (status : Status) (points cert_in out cert : Flow) : Type 0 where
  pub answers : AnswersBoth status points cert_in out cert
  pub complete : (input text : List ℕ) → points.before ≡ Some input → cert_in.before ≡ Some text → IsFieldCertificate input text
      → (HasFault points → ⊥) → (HasFault cert_in → ⊥) → (HasFault out → ⊥) → (status ≡ Done) ⊎ (status ≡ Memory)

-- The checked certificate: what came are points and a certificate, all of both, and the counts of each target contain the exact direct sum.
pub record CheckedRun (points cert_in : Flow) : Type 0 where
  pub input : List ℕ
  pub text : List ℕ
  pub consumed : Consumes points.before points.after input × Consumes cert_in.before cert_in.after text
  pub whole : IfSome points.before (λ left. (left ≡ input) × (points.after ≡ Some [])) × IfSome cert_in.before (λ left. (left ≡ text) × (cert_in.after ≡ Some []))
  pub list : Points
  pub read : IsRead input list
  pub certificate : Certificate
  pub spelled : SpellsCert text certificate
  pub contain : CountsContain list certificate

-- What `sample` answers, and what goes out with each answer.
use Rattle.std.specs.Prelude.{ℕ, ◌≡◌, []}
use Rattle.limits.specs.Limits.{first_grid}
use Rattle.point_sample.specs.Sample.{sample}
use Rattle.quadtree.specs.Faults.{HasTree}
use Rattle.sample_summary.specs.Summary.{summary_text}
use Rattle.tree_field.specs.Lists.{TreeLists, AreTreeLists}
use Rattle.fmm_program.specs.Answers.{RefusesDepth}
use Rattle.fmm_program.specs.Endings.{Output}
use Rattle.fmm_program.specs.declared.status.Status.{Status}
use Rattle.fmm_program.specs.declared.status.Status.TheVariants.{Done, Refused}

-- The answer to these words, and what goes out with it: the summary of the field over the lists of the sample's tree, or the line that says why it has none.
abbrev pub SampleAnswers : ℕ → ℕ → ℕ → ℕ → Status → Output → Type 0
SampleAnswers seed n order cap Done output = HasTree first_grid (sample seed n).list cap × (output.cert ≡ [])
    × ((lists : TreeLists) × AreTreeLists first_grid (sample seed n).list cap lists × (output.out ≡ summary_text seed (sample seed n).list order cap lists))
SampleAnswers seed n order cap Refused output = RefusesDepth (sample seed n) cap output.out × (output.cert ≡ [])
SampleAnswers seed n order cap _ output = ⊥

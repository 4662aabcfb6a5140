-- What a check answers.
use Rattle.std.specs.Prelude.{ℕ, ◌<◌, length}
use Rattle.cert_text.specs.Certificate.{Certificate}
use Rattle.certificate_check.specs.declared.verdict.Verdict.{Verdict}
use Rattle.certificate_check.specs.declared.verdict.Verdict.TheVariants.{Yes, No}
use Rattle.certificate_rules.specs.LineRules.{targets_of, nth_place, given_counts}
use Rattle.certificate_rules.specs.Verdicts.{HoldEverywhere, IsFirstFailure}
use Rattle.near_field.specs.DirectSum.{direct_sum}
use Rattle.points.specs.declared.Points.{Points}
use Rattle.soundness.specs.Counts.{CountsHold}

-- yes where all rules hold; no with the first line at which one fails, and the least rule that fails there
abbrev pub IsVerdict : Points → Certificate → Verdict → Type 0
IsVerdict points c Yes = HoldEverywhere points c
IsVerdict points c (No rule line) = IsFirstFailure points c rule line

-- the counts of each target contain the direct sum of the list at its place
abbrev pub CountsContain : Points → Certificate → Type 0
CountsContain points c = (k : ℕ) → k < length (targets_of points.list)
    → CountsHold (given_counts c k).re (given_counts c k).im (direct_sum (nth_place (targets_of points.list) k) points.list)

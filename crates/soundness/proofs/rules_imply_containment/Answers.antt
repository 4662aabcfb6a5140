use Rattle.std.proofs.Common.{get_or}
use Rattle.near_field.specs.DirectSum.{direct_sum}
use Rattle.soundness.specs.Accounts.{points_of}
use Rattle.soundness.specs.Soundness.{RulesImplyCounts}
use Rattle.soundness.proofs.Counts.{counts-contain}
use Rattle.soundness.proofs.Targets.{boxes_contain}
use Rattle.soundness.proofs.rules_imply_containment.Goals as goal

counts_contain : RulesImplyCounts
counts_contain P A order rules k d i re im around =
    let t = get_or A.targets k d in
    counts-contain t.box re im (direct_sum t.place (points_of A.sources)) around (boxes_contain P A order rules k d i)

pub returns : goal.returns
returns c = record { sound = boxes_contain; counts = counts_contain }

use Rattle.std.proofs.Common.{◌≡◌, ◌<◌, length, ap, sym, ◌∙◌, arith}
use Rattle.std.specs.Prelude.{All}
use Rattle.node_sums.specs.Sums.{value_at, sum_under}
use Rattle.path_cover.proofs.Keeping.{written_is}
use Rattle.path_cover.proofs.LeafCounts.{AreCounts, sums_are_sizes}
use Rattle.path_cover.proofs.sizes.sizes_of.Goals as goal

pub returns-clause-sizes : goal.returns-clause-sizes
returns-clause-sizes c = λ n l.
    let parents = c.args.parents.now in
    let leaves = c.args.leaves.now in
    let counts = c.in_ok-sizes.sizes.items in
    let len : length counts ≡ length parents = c.in_ok-sizes.ensures.len in
    let same : length c.deref_mut.result.now ≡ length counts = ap length c.deref_mut.ensures.value in
    let are : AreCounts leaves counts = λ k h. c.in_ok-sizes.ensures.counts k (omega arith) in
    let inside : All (λ leaf. leaf < length counts) leaves = λ k d h. let i = c.requires.leaves k d h in omega arith in
    ap (λ xs. value_at xs n) (sym (written_is c.in_ok-sizes.sizes.len c.add_up.new.values _ (c.add_up.auto.values ∙ c.deref_mut.ensures.len)))
    ∙ c.add_up.ensures.sums n (omega arith)
    ∙ ap (λ xs. sum_under parents xs n) c.deref_mut.ensures.value
    ∙ sums_are_sizes parents leaves counts n inside are

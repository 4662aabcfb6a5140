use Rattle.std.proofs.Common.{◌≡◌, ◌+◌, ◌<◌, length, get_or, ap, ◌∙◌, arith}
use Rattle.std.specs.Prelude.{sum, slice_set}
use Rattle.std.proofs.Math.ListN.{length-set}
use Rattle.std.proofs.lemmas.List.{get_or_read}
use Rattle.node_sums.specs.Sums.{value_at}
use Rattle.path_cover.proofs.LeafCounts.{counts-more, sum-more}
use Rattle.path_cover.proofs.sizes.sources_in.Goals as goal

pub loop-leaf-preserved : goal.loop-leaf-preserved
loop-leaf-preserved c =
    let leaves = c.args.leaves.now in
    let counts = c.loop-leaf.counts.items in
    let i = c.loop-leaf.leaf-index in
    let leaf = get_or leaves i 0 in
    let small : leaf < c.args.nodes = c.requires.leaves i 0 (omega arith) in
    let inside : leaf < length counts = let e = c.loop-leaf.invariant.len in omega arith in
    let read : c.index_mut.result.now ≡ value_at counts leaf = get_or_read counts leaf c.index_mut.result.now inside c.index_mut.ensures.value 0 in
    record {
      len = length-set counts leaf (c.index_mut.result.now + 1) ∙ c.loop-leaf.invariant.len;
      all = ap (λ v. sum (slice_set counts leaf (v + 1))) read ∙ sum-more counts leaf inside ∙ ap (λ n. n + 1) c.loop-leaf.invariant.all;
      are = λ k l. ap (λ v. value_at (slice_set counts leaf (v + 1)) k) read
          ∙ counts-more leaves counts i (omega arith) inside c.loop-leaf.invariant.are k (let e = length-set counts leaf (c.index_mut.result.now + 1) in omega arith);
    }

-- The sources in a leaf are those under it.
use Rattle.std.proofs.Common.{◌∙◌, ◌^◌, ◌≤◌, List, length, ap, sym, subst, to_z-of_z}
use Rattle.std.specs.Prelude.{All}
use Rattle.certificate_rules.proofs.Ranges.{parent_less, root_parent}
use Rattle.certificate_rules.specs.LineRules.{IsFit}
use Rattle.certificate_nodes.specs.Presented.{accounting_of}
use Rattle.complex_box.proofs.Sizes.{zero_within}
use Rattle.exact_math.specs.Gaussian.{gaussian}
use Rattle.limits.specs.Limits.{most_points, widest_grid}
use Rattle.near_field.specs.Pair.{pair_box}
use Rattle.points.specs.Limits.{InRange}
use Rattle.points.specs.declared.Point.{Point}
use Rattle.soundness.specs.Computed.{total_box}
use Rattle.certificate_targets.proofs.Leaves.{pairs_in_leaf}
use Rattle.certificate_targets.proofs.Parts.{pairs_of_other, pairs_of_u}
use Rattle.certificate_targets.proofs.Sources.{few_at, range_at, sources_in_nodes}
use Rattle.certificate_targets.proofs.near.entry_pairs.Goals as goal

pub pairs_with-requires-clause-few : goal.pairs_with-requires-clause-few
pairs_with-requires-clause-few c =
    let p = c.requires.presented in
    subst (λ (xs : List Point). length xs ≤ most_points widest_grid) (sym c.sources.ensures.sources) (few_at c.args.given.now.points c.args.given.now.certificate p.certificate p.within p.head c.args.entry.c)

pub pairs_with-requires-clause-range : goal.pairs_with-requires-clause-range
pairs_with-requires-clause-range c =
    let p = c.requires.presented in
    subst (All (InRange widest_grid)) (sym c.sources.ensures.sources) (range_at c.args.given.now.points c.args.given.now.certificate p.certificate p.within p.head c.args.entry.c)

pub returns-in-U-clause-ends : goal.returns-in-U-clause-ends
returns-in-U-clause-ends c =
    let p = c.requires.presented in
    let d = c.args.given.now.certificate in
    let A = accounting_of c.args.given.now in
    let z = gaussian c.args.x c.args.y in
    let x = c.ranges.x in
    let y = c.ranges.y in
    let e = simp to_z-of_z at c.pairs_with.ensures.ends in
    let fit = subst (λ letter. IsFit c.args.given.now.points d letter c.args.entry.b c.args.entry.c) c.in-U.is c.requires.fit in
    e ∙ ap (total_box (pair_box z)) c.sources.ensures.sources
    ∙ pairs_in_leaf A (root_parent d p.certificate) (parent_less d p.certificate) c.args.entry.c fit.1 z (sources_in_nodes c.args.given.now.points d p.certificate p.within p.head)
    ∙ sym (pairs_of_u A c.args.entry z c.in-U.is)

pub returns-in-V : goal.returns-in-V
returns-in-V c = record {
  ends = c.zero.ensures.ends ∙ sym (pairs_of_other (accounting_of c.args.given.now) c.args.entry (gaussian c.args.x c.args.y) c.in-V.is);
  size = rw c.zero.ensures.ends (zero_within (2 ^ 84));
}

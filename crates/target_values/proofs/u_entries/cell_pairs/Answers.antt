-- One member more.
use Rattle.std.proofs.Common.{◌≡◌, ◌∙◌, ◌<◌, ℕ, ap, sym, subst, arith, List, [], ◌∷◌, length, get_or}
use Rattle.std.proofs.lemmas.List.{take_all}
use Rattle.complex_box.proofs.Sizes.{box_wider}
use Rattle.field_basis.specs.Basis.{BasisModel, IsBasis}
use Rattle.field_basis.specs.Counts.{paired, sources_at, count_apart}
use Rattle.field_basis.specs.Targets.{no_point, point_at}
use Rattle.near_field.specs.Pair.{pair_box}
use Rattle.limits.specs.Limits.{widest_grid}
use Rattle.points.proofs.Ranges.{range_in_widest}
use Rattle.points.specs.Limits.{InRange}
use Rattle.points.specs.Points.{place}
use Rattle.points.specs.declared.Point.{Point}
use Rattle.quadtree.specs.TreeModel.{node_of, size}
use Rattle.soundness.specs.Computed.{total_box}
use Rattle.tree_field.proofs.Program.{nodes_of_tree}
use Rattle.target_values.proofs.PairSums.{sources, ends-step, count-step, one_at_most, paired_again}
use Rattle.field_basis.proofs.Sizes.{inside}
use Rattle.target_values.proofs.Numbers.{few_members, member_below}
use Rattle.target_values.proofs.Read.{point_read}
use Rattle.target_values.proofs.u_entries.cell_pairs.Goals as goal

pub members-k-items-requires : goal.members-k-items-requires
members-k-items-requires g c =
    let same : size c.basis.inside.tree ≡ size c.args.basis.now.tree = ap (λ (b : BasisModel). size b.tree) c.basis.view_is in
    omega (arith, same, c.requires.cell)

pub index-requires : goal.index-requires
index-requires g c =
    let b = c.args.basis.now in
    let is : IsBasis g.row.P b = subst (IsBasis g.row.P) c.basis.view_is c.basis.invariant in
    let same = c.members-k-items.ensures ∙ ap (λ (b : BasisModel). (node_of b.tree c.args.c).members) c.basis.view_is in
    let here = member_below g.row.P b is c.args.c c.requires.cell c.members-k-items.result.now same c.loop-k.k-index c.loop-k-test.true in
    let long : length c.basis.inside.points.items ≡ length b.points = ap (λ (b : BasisModel). length b.points) c.basis.view_is in
    omega (arith, here, long, c.basis.inside.points.ok.0)

pub with_pair-sum-requires-clause-range : goal.with_pair-sum-requires-clause-range
with_pair-sum-requires-clause-range g c =
    let b = c.args.basis.now in
    let is : IsBasis g.row.P b = subst (IsBasis g.row.P) c.basis.view_is c.basis.invariant in
    let same = c.members-k-items.ensures ∙ ap (λ (b : BasisModel). (node_of b.tree c.args.c).members) c.basis.view_is in
    let here = member_below g.row.P b is c.args.c c.requires.cell c.members-k-items.result.now same c.loop-k.k-index c.loop-k-test.true in
    subst (InRange widest_grid) (sym c.index.ensures)
    (range_in_widest c.basis.inside.tree.grid _ c.basis.invariant.is_tree.known_grid (c.basis.invariant.within.range (get_or c.members-k-items.result.now c.loop-k.k-index 0) c.index.result.now (subst (λ (b : BasisModel). get_or c.members-k-items.result.now c.loop-k.k-index 0 < length b.points) (sym c.basis.view_is) here)))

pub with_pair-sum-requires-clause-sum : goal.with_pair-sum-requires-clause-sum
with_pair-sum-requires-clause-sum g c =
    let is : IsBasis g.row.P c.args.basis.now = subst (IsBasis g.row.P) c.basis.view_is c.basis.invariant in
    let few = few_members g.row.P c.args.basis.now is c.args.c c.requires.cell c.members-k-items.result.now (c.members-k-items.ensures ∙ ap (λ (b : BasisModel). (node_of b.tree c.args.c).members) c.basis.view_is) in
    box_wider _ _ _ (omega (arith, few, c.loop-k-test.true)) c.loop-k.invariant.size

pub with_pair-sum-requires-clause-room : goal.with_pair-sum-requires-clause-room
with_pair-sum-requires-clause-room g c =
    let is : IsBasis g.row.P c.args.basis.now = subst (IsBasis g.row.P) c.basis.view_is c.basis.invariant in
    let few = few_members g.row.P c.args.basis.now is c.args.c c.requires.cell c.members-k-items.result.now (c.members-k-items.ensures ∙ ap (λ (b : BasisModel). (node_of b.tree c.args.c).members) c.basis.view_is) in
    omega (arith, few, c.loop-k-test.true, c.loop-k.invariant.few, c.requires.room)

pub loop-k-preserved : goal.loop-k-preserved
loop-k-preserved g c =
    let b = c.args.basis.now in
    let t = place c.args.target.now in
    let i = c.loop-k.k-index in
    let members : List ℕ = c.members-k-items.result.now in
    let ms : List ℕ = (node_of b.tree c.args.c).members in
    let same : members ≡ ms = c.members-k-items.ensures ∙ ap (λ (b : BasisModel). (node_of b.tree c.args.c).members) c.basis.view_is in
    let lt : i < length ms = omega (arith, ap length same, c.loop-k-test.true) in
    let p : Point = c.index.result.now in
    let basis_is : IsBasis g.row.P b = subst (IsBasis g.row.P) c.basis.view_is c.basis.invariant in
    let below = member_below g.row.P b basis_is c.args.c c.requires.cell members same i c.loop-k-test.true in
    let is : p ≡ point_at b.points (get_or ms i 0) = point_read c.basis.view_is (get_or members i 0) below p c.index.ensures ∙ ap (λ (l : List ℕ). point_at b.points (get_or l i 0)) same in
    let one = one_at_most t p in
    let counted = ap (λ w. w.pairs) c.with_pair-sum.ensures.work in
    record {
      ends = ends-step t b.points ms i p lt is c.loop-k.invariant.ends c.with_pair-sum.ensures.ends;
      size = box_wider _ _ _ (omega arith) (c.with_pair-sum.ensures.size _ c.loop-k.invariant.size);
      work = c.with_pair-sum.ensures.work ∙ ap (paired (count_apart t (sources (p ∷ [])))) c.loop-k.invariant.work ∙ paired_again _ _ c.args.work.now ∙ ap (λ n. paired n c.args.work.now) (count-step t b.points ms i p lt is);
      few = omega (arith, one, counted, c.loop-k.invariant.few);
    }

pub returns-clause-ends : goal.returns-clause-ends
returns-clause-ends g c =
    let b = c.args.basis.now in
    let is : IsBasis g.row.P b = subst (IsBasis g.row.P) c.basis.view_is c.basis.invariant in
    let t = place c.args.target.now in
    let ms : List ℕ = (node_of b.tree c.args.c).members in
    let same : c.members-k-items.result.now ≡ ms = c.members-k-items.ensures ∙ ap (λ (b : BasisModel). (node_of b.tree c.args.c).members) c.basis.view_is in
    c.loop-k.invariant.ends
    ∙ ap (λ (l : List ℕ). total_box (pair_box t) (sources_at b.points l)) (take_all c.loop-k.k-index ms (omega (arith, ap length same, c.loop-k-test.false)))
    ∙ ap (total_box (pair_box t)) ((nodes_of_tree b.tree b.points b.cap (inside g.row.P b is) is.is_tree c.args.c c.requires.cell).members no_point)

pub returns-clause-size : goal.returns-clause-size
returns-clause-size g c =
    let is : IsBasis g.row.P c.args.basis.now = subst (IsBasis g.row.P) c.basis.view_is c.basis.invariant in
    let few = few_members g.row.P c.args.basis.now is c.args.c c.requires.cell c.members-k-items.result.now (c.members-k-items.ensures ∙ ap (λ (b : BasisModel). (node_of b.tree c.args.c).members) c.basis.view_is) in
    box_wider _ _ _ (omega (arith, few, c.loop-k.auto.k-index-end)) c.loop-k.invariant.size

pub returns-clause-few : goal.returns-clause-few
returns-clause-few g c =
    let is : IsBasis g.row.P c.args.basis.now = subst (IsBasis g.row.P) c.basis.view_is c.basis.invariant in
    let few = few_members g.row.P c.args.basis.now is c.args.c c.requires.cell c.members-k-items.result.now (c.members-k-items.ensures ∙ ap (λ (b : BasisModel). (node_of b.tree c.args.c).members) c.basis.view_is) in
    omega (arith, few, c.loop-k.auto.k-index-end, c.loop-k.invariant.few)

pub returns-clause-work : goal.returns-clause-work
returns-clause-work g c =
    let b = c.args.basis.now in
    let t = place c.args.target.now in
    let ms : List ℕ = (node_of b.tree c.args.c).members in
    let same : c.members-k-items.result.now ≡ ms = c.members-k-items.ensures ∙ ap (λ (b : BasisModel). (node_of b.tree c.args.c).members) c.basis.view_is in
    c.loop-k.invariant.work
    ∙ ap (λ (l : List ℕ). paired (count_apart t (sources_at b.points l)) c.args.work.now) (take_all c.loop-k.k-index ms (omega (arith, ap length same, c.loop-k-test.false)))

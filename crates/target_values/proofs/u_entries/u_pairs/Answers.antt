-- The pairs with the sources of one cell more.
use Rattle.std.proofs.Common.{rules, ◌≡◌, ◌∙◌, ◌+◌, ◌<◌, ℕ, ap, sym, subst, arith, List, length, get_or, take}
use Rattle.std.specs.Prelude.{sum_by}
use Rattle.std.proofs.lemmas.List.{take_all}
use Rattle.std.proofs.lemmas.List.Sums.{sum_by_more}
use Rattle.exact_math.specs.Ends.{BoxEnds, add_box}
use Rattle.cell_lists.specs.ListAt.{list_at}
use Rattle.complex_box.specs.Box.{box_ends}
use Rattle.complex_box.proofs.Sizes.{add_box_within, box_wider}
use Rattle.field_basis.specs.Basis.{BasisModel, IsBasis}
use Rattle.field_basis.specs.Counts.{paired}
use Rattle.letters.specs.declared.Letter.TheVariants.{U}
use Rattle.points.specs.Points.{place}
use Rattle.quadtree.specs.TreeModel.{size}
use Rattle.soundness.specs.Computed.{total_box}
use Rattle.target_values.proofs.PairSums.{total-step, paired_again}
use Rattle.target_values.proofs.Numbers.{number_below, few_items}
use Rattle.target_values.specs.Values.{pairs_of_cell, count_of_cell}
use Rattle.target_values.proofs.u_entries.u_pairs.Goals as goal

pub u_list-c-items-requires : goal.u_list-c-items-requires
u_list-c-items-requires g c =
    let e = c.basis.invariant.lists_are.as_many U in
    let same : size c.basis.inside.tree ≡ size c.args.basis.now.tree = ap (λ (b : BasisModel). size b.tree) c.basis.view_is in
    omega (arith, e, same, c.requires.cell)

pub cell_pairs-requires : goal.cell_pairs-requires
cell_pairs-requires g c =
    let b = c.args.basis.now in
    let is : IsBasis g.row.P b = subst (IsBasis g.row.P) c.basis.view_is c.basis.invariant in
    let items : List ℕ = c.u_list-c-items.result.now in
    let same : items ≡ list_at b.lists.u c.args.leaf = c.u_list-c-items.ensures ∙ ap (λ (b : BasisModel). list_at b.lists.u c.args.leaf) c.basis.view_is in
    let few = few_items g.row.P b is U c.args.leaf c.requires.cell items same in
    (search rules, (number_below g.row.P b is U c.args.leaf c.requires.cell items same c.loop-c.c-index c.loop-c-test.true, (c.requires.in_grid, omega (arith, few, c.loop-c-test.true, c.loop-c.invariant.few, c.requires.room))))

pub add-sum-requires : goal.add-sum-requires
add-sum-requires g c =
    let b = c.args.basis.now in
    let is : IsBasis g.row.P b = subst (IsBasis g.row.P) c.basis.view_is c.basis.invariant in
    let few = few_items g.row.P b is U c.args.leaf c.requires.cell c.u_list-c-items.result.now (c.u_list-c-items.ensures ∙ ap (λ (b : BasisModel). list_at b.lists.u c.args.leaf) c.basis.view_is) in
    box_wider _ _ _ (omega (arith, few, c.loop-c-test.true)) (add_box_within _ _ (box_ends c.loop-c.sum) (box_ends c.cell_pairs.result) c.loop-c.invariant.size c.cell_pairs.ensures.size)

pub loop-c-preserved : goal.loop-c-preserved
loop-c-preserved g c =
    let b = c.args.basis.now in
    let i = c.loop-c.c-index in
    let items : List ℕ = c.u_list-c-items.result.now in
    let xs : List ℕ = list_at b.lists.u c.args.leaf in
    let same : items ≡ xs = c.u_list-c-items.ensures ∙ ap (λ (b : BasisModel). list_at b.lists.u c.args.leaf) c.basis.view_is in
    let lt : i < length xs = omega (arith, ap length same, c.loop-c-test.true) in
    let f : ℕ → BoxEnds = pairs_of_cell b (place c.args.target.now) in
    let count : ℕ → ℕ = count_of_cell b (place c.args.target.now) in
    record {
      ends = total-step f xs i 0 lt c.loop-c.invariant.ends (c.add-sum.ensures.ends ∙ ap (add_box (box_ends c.loop-c.sum)) (c.cell_pairs.ensures.ends ∙ ap (λ (l : List ℕ). f (get_or l i 0)) same));
      size = rw c.add-sum.ensures.ends (box_wider _ _ _ (omega arith) (add_box_within _ _ (box_ends c.loop-c.sum) (box_ends c.cell_pairs.result) c.loop-c.invariant.size c.cell_pairs.ensures.size));
      work = c.cell_pairs.ensures.work ∙ ap (paired (count (get_or items i 0))) c.loop-c.invariant.work ∙ paired_again _ _ c.args.work.now
          ∙ ap (λ n. paired n c.args.work.now) (ap (λ (l : List ℕ). sum_by count (take i xs) + count (get_or l i 0)) same ∙ sym (sum_by_more count xs i 0 lt));
      few = omega (arith, c.cell_pairs.ensures.few, c.loop-c.invariant.few);
    }

pub returns-clause-size : goal.returns-clause-size
returns-clause-size g c =
    let b = c.args.basis.now in
    let is : IsBasis g.row.P b = subst (IsBasis g.row.P) c.basis.view_is c.basis.invariant in
    let few = few_items g.row.P b is U c.args.leaf c.requires.cell c.u_list-c-items.result.now (c.u_list-c-items.ensures ∙ ap (λ (b : BasisModel). list_at b.lists.u c.args.leaf) c.basis.view_is) in
    box_wider _ _ _ (omega (arith, few, c.loop-c.auto.c-index-end)) c.loop-c.invariant.size

pub returns-clause-ends : goal.returns-clause-ends
returns-clause-ends g c =
    let b = c.args.basis.now in
    let xs : List ℕ = list_at b.lists.u c.args.leaf in
    let same : c.u_list-c-items.result.now ≡ xs = c.u_list-c-items.ensures ∙ ap (λ (b : BasisModel). list_at b.lists.u c.args.leaf) c.basis.view_is in
    c.loop-c.invariant.ends ∙ ap (total_box (pairs_of_cell b (place c.args.target.now))) (take_all c.loop-c.c-index xs (omega (arith, ap length same, c.loop-c-test.false)))

pub returns-clause-work : goal.returns-clause-work
returns-clause-work g c =
    let b = c.args.basis.now in
    let count : ℕ → ℕ = count_of_cell b (place c.args.target.now) in
    let xs : List ℕ = list_at b.lists.u c.args.leaf in
    let same : c.u_list-c-items.result.now ≡ xs = c.u_list-c-items.ensures ∙ ap (λ (b : BasisModel). list_at b.lists.u c.args.leaf) c.basis.view_is in
    c.loop-c.invariant.work ∙ ap (λ (l : List ℕ). paired (sum_by count l) c.args.work.now) (take_all c.loop-c.c-index xs (omega (arith, ap length same, c.loop-c-test.false)))

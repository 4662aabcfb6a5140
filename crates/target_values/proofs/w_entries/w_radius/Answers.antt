-- The loss of one cell more.
use Rattle.std.proofs.Common.{rules, ◌≡◌, ◌∙◌, ◌+◌, ◌<◌, ℕ, ap, sym, subst, arith, List, length, get_or}
use Rattle.std.proofs.lemmas.Int.{ints}
use Rattle.std.proofs.lemmas.List.Sums.{sum_by_more, sum_by_more_le, sum_by-take-le}
use Rattle.cell_lists.specs.ListAt.{list_at}
use Rattle.field_basis.specs.Basis.{BasisModel, IsBasis}
use Rattle.letters.specs.declared.Letter.TheVariants.{W}
use Rattle.quadtree.specs.TreeModel.{size}
use Rattle.target_values.proofs.FieldBox.{losses_small}
use Rattle.target_values.proofs.Numbers.{number_below}
use Rattle.target_values.specs.Values.{loss_of_cell}
use Rattle.target_values.proofs.w_entries.w_radius.Goals as goal

pub w_list-c-items-requires : goal.w_list-c-items-requires
w_list-c-items-requires g c =
    let e = c.basis.invariant.lists_are.as_many W in
    let same : size c.basis.inside.tree ≡ size c.args.basis.now.tree = ap (λ (b : BasisModel). size b.tree) c.basis.view_is in
    omega (arith, e, same, c.requires.cell)

pub add_loss-requires : goal.add_loss-requires
add_loss-requires g c =
    let b = c.args.basis.now in
    let is : IsBasis g.row.P b = subst (IsBasis g.row.P) c.basis.view_is c.basis.invariant in
    let i = c.loop-c.c-index in
    let items : List ℕ = c.w_list-c-items.result.now in
    let same : items ≡ list_at b.lists.w c.args.leaf = c.w_list-c-items.ensures ∙ ap (λ (b : BasisModel). list_at b.lists.w c.args.leaf) c.basis.view_is in
    let xs : List ℕ = list_at b.lists.w c.args.leaf in
    let f : ℕ → ℕ = loss_of_cell g.row.P b in
    let lt : i < length xs = omega (arith, ap length same, c.loop-c-test.true) in
    let next : f (get_or items i 0) ≡ f (get_or xs i 0) = ap (λ (l : List ℕ). f (get_or l i 0)) same in
    let so_far = sum_by_more_le f xs i 0 lt in
    let most = losses_small g.row.P b is c.args.leaf c.requires.cell in
    (search rules, (number_below g.row.P b is W c.args.leaf c.requires.cell items same i c.loop-c-test.true, omega (arith, next, so_far, most, c.loop-c.invariant)))

pub loop-c-preserved : goal.loop-c-preserved
loop-c-preserved g c =
    let b = c.args.basis.now in
    let i = c.loop-c.c-index in
    let items : List ℕ = c.w_list-c-items.result.now in
    let xs : List ℕ = list_at b.lists.w c.args.leaf in
    let same : items ≡ xs = c.w_list-c-items.ensures ∙ ap (λ (b : BasisModel). list_at b.lists.w c.args.leaf) c.basis.view_is in
    let lt : i < length xs = omega (arith, ap length same, c.loop-c-test.true) in
    let f : ℕ → ℕ = loss_of_cell g.row.P b in
    c.add_loss.ensures ∙ ap (λ (l : List ℕ). c.loop-c.ledger + f (get_or l i 0)) same ∙ ap (λ r. r + f (get_or xs i 0)) c.loop-c.invariant ∙ sym (sum_by_more f xs i 0 lt)

pub returns-clause-size : goal.returns-clause-size
returns-clause-size g c =
    let b = c.args.basis.now in
    let is : IsBasis g.row.P b = subst (IsBasis g.row.P) c.basis.view_is c.basis.invariant in
    let so_far = sum_by-take-le (loss_of_cell g.row.P b) (list_at b.lists.w c.args.leaf) c.loop-c.c-index in
    let most = losses_small g.row.P b is c.args.leaf c.requires.cell in
    omega (arith, ints, so_far, most, c.loop-c.invariant, c.radius.ensures.value)

pub bounds-c-items-c-index : goal.bounds-c-items-c-index
bounds-c-items-c-index g c = c.loop-c-test.true

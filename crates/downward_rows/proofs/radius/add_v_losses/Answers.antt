use Rattle.std.proofs.Common.{◌<◌, length, get_or, ap, ◌∙◌, subst, arith}
use Rattle.cell_name.specs.Square.{side}
use Rattle.cell_lists.proofs.TreeNumbers.{read_at}
use Rattle.cell_lists.specs.ListAt.{list_at}
use Rattle.letters.specs.declared.Letter.TheVariants.{V}
use Rattle.quadtree.specs.TreeModel.{size, square_of}
use Rattle.truncation.specs.Tails.{pair_tail}
use Rattle.field_basis.specs.Basis.{IsBasis}
use Rattle.downward_rows.specs.Radii.{v_loss}
use Rattle.downward_rows.proofs.Lists.{listed, number_in}
use Rattle.downward_rows.proofs.Losses.{side_is, weight_least, loss_read, room_for, one_loss, all_losses}
use Rattle.downward_rows.proofs.WholeLosses.{v_losses_light}
use Rattle.downward_rows.proofs.radius.add_v_losses.Goals as goal

pub v_list-c-items-requires : goal.v_list-c-items-requires
v_list-c-items-requires g c =
    let s : IsBasis g.row.P c.args.basis.now = subst (IsBasis g.row.P) c.basis.view_is c.basis.invariant in
    let h = listed g.row.P c.args.basis.now s V c.args.n c.requires.cell in
    omega (arith, h, ap (λ b. length b.lists.v) c.basis.view_is)

pub index-requires : goal.index-requires
index-requires g c =
    let b = c.args.basis.now in
    let s : IsBasis g.row.P b = subst (IsBasis g.row.P) c.basis.view_is c.basis.invariant in
    let k = get_or c.v_list-c-items.result.now c.loop-c.c-index 0 in
    let lt : k < size b.tree = number_in g.row.P b s V c.args.n c.requires.cell c.v_list-c-items.result.now (c.v_list-c-items.ensures ∙ ap (λ b. list_at b.lists.v c.args.n) c.basis.view_is) c.loop-c.c-index 0 c.loop-c-test.true in
    omega (arith, c.basis.inside.weights.ok.0, lt, s.weight_each, ap (λ b. length b.weights) c.basis.view_is)

pub add_pair-requires-clause-weight : goal.add_pair-requires-clause-weight
add_pair-requires-clause-weight g c =
    let b = c.args.basis.now in
    let s : IsBasis g.row.P b = subst (IsBasis g.row.P) c.basis.view_is c.basis.invariant in
    let k = get_or c.v_list-c-items.result.now c.loop-c.c-index 0 in
    let lt : k < size b.tree = number_in g.row.P b s V c.args.n c.requires.cell c.v_list-c-items.result.now (c.v_list-c-items.ensures ∙ ap (λ b. list_at b.lists.v c.args.n) c.basis.view_is) c.loop-c.c-index 0 c.loop-c-test.true in
    weight_least g.row.P b s k lt c.index.result.now (c.index.ensures ∙ ap (λ b. get_or b.weights k c.index.result.now) c.basis.view_is)

pub add_pair-requires-clause-room : goal.add_pair-requires-clause-room
add_pair-requires-clause-room g c =
    let b = c.args.basis.now in
    let s : IsBasis g.row.P b = subst (IsBasis g.row.P) c.basis.view_is c.basis.invariant in
    let k = get_or c.v_list-c-items.result.now c.loop-c.c-index 0 in
    let same = c.v_list-c-items.ensures ∙ ap (λ b. list_at b.lists.v c.args.n) c.basis.view_is in
    let lt : k < size b.tree = number_in g.row.P b s V c.args.n c.requires.cell c.v_list-c-items.result.now same c.loop-c.c-index 0 c.loop-c-test.true in
    let at = read_at b.tree c.cells.result.now c.args.n c.index-cells-n.result (c.cells.ensures.all ∙ ap (λ b. b.tree.cells) c.basis.view_is) c.requires.cell c.index-cells-n.is in
    let d = side_is c.side-side.result c.index-cells-n.result (square_of b.tree c.args.n) c.side-side.ensures.value at in
    let e = loss_read g.row.P b s k lt (pair_tail g.row.P) (side (square_of b.tree c.args.n)) c.index.result.now c.side-side.result (c.index.ensures ∙ ap (λ b. get_or b.weights k c.index.result.now) c.basis.view_is) d c.side-side.ensures.at_least c.side-side.ensures.at_most in
    room_for (v_loss g.row.P b c.args.n) c.v_list-c-items.result.now (list_at b.lists.v c.args.n) c.loop-c.c-index 0 c.args.ledger.now c.loop-c.ledger _ c.loop-c-test.true same c.loop-c.invariant e (v_losses_light g.row.P b s c.args.n c.requires.cell) c.requires.room

pub loop-c-preserved : goal.loop-c-preserved
loop-c-preserved g c =
    let b = c.args.basis.now in
    let s : IsBasis g.row.P b = subst (IsBasis g.row.P) c.basis.view_is c.basis.invariant in
    let k = get_or c.v_list-c-items.result.now c.loop-c.c-index 0 in
    let same = c.v_list-c-items.ensures ∙ ap (λ b. list_at b.lists.v c.args.n) c.basis.view_is in
    let lt : k < size b.tree = number_in g.row.P b s V c.args.n c.requires.cell c.v_list-c-items.result.now same c.loop-c.c-index 0 c.loop-c-test.true in
    let at = read_at b.tree c.cells.result.now c.args.n c.index-cells-n.result (c.cells.ensures.all ∙ ap (λ b. b.tree.cells) c.basis.view_is) c.requires.cell c.index-cells-n.is in
    let d = side_is c.side-side.result c.index-cells-n.result (square_of b.tree c.args.n) c.side-side.ensures.value at in
    let e = loss_read g.row.P b s k lt (pair_tail g.row.P) (side (square_of b.tree c.args.n)) c.index.result.now c.side-side.result (c.index.ensures ∙ ap (λ b. get_or b.weights k c.index.result.now) c.basis.view_is) d c.side-side.ensures.at_least c.side-side.ensures.at_most in
    one_loss (v_loss g.row.P b c.args.n) c.v_list-c-items.result.now c.loop-c.c-index 0 c.args.ledger.now c.loop-c.ledger c.add_pair.new.self _ c.loop-c-test.true c.loop-c.invariant c.add_pair.ensures.added e

pub returns-clause-added : goal.returns-clause-added
returns-clause-added g c =
    all_losses (v_loss g.row.P c.args.basis.now c.args.n) c.v_list-c-items.result.now (list_at c.args.basis.now.lists.v c.args.n) c.loop-c.c-index c.args.ledger.now c.loop-c.ledger (omega arith)
    (c.v_list-c-items.ensures ∙ ap (λ b. list_at b.lists.v c.args.n) c.basis.view_is) c.loop-c.invariant

pub returns-clause-size : goal.returns-clause-size
returns-clause-size g c =
    let s : IsBasis g.row.P c.args.basis.now = subst (IsBasis g.row.P) c.basis.view_is c.basis.invariant in
    let added = returns-clause-added g c in
    omega (arith, added, v_losses_light g.row.P c.args.basis.now s c.args.n c.requires.cell)

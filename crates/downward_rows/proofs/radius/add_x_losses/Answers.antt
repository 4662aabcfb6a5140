use Rattle.std.proofs.Common.{◌<◌, length, get_or, ap, ◌∙◌, subst, arith}
use Rattle.cell_name.specs.Square.{side}
use Rattle.cell_lists.proofs.TreeNumbers.{read_at}
use Rattle.cell_lists.specs.ListAt.{list_at}
use Rattle.letters.specs.declared.Letter.TheVariants.{X}
use Rattle.quadtree.specs.TreeModel.{size, square_of}
use Rattle.truncation.specs.Tails.{single_tail}
use Rattle.field_basis.specs.Basis.{IsBasis}
use Rattle.downward_rows.specs.Radii.{x_loss}
use Rattle.downward_rows.proofs.Lists.{listed, number_in}
use Rattle.downward_rows.proofs.Losses.{side_is, weight_least, loss_read, room_for, one_loss, all_losses}
use Rattle.downward_rows.proofs.WholeLosses.{x_losses_light}
use Rattle.downward_rows.proofs.radius.add_x_losses.Goals as goal

pub x_list-c-items-requires : goal.x_list-c-items-requires
x_list-c-items-requires g c =
    let s : IsBasis g.row.P c.args.basis.now = subst (IsBasis g.row.P) c.basis.view_is c.basis.invariant in
    let h = listed g.row.P c.args.basis.now s X c.args.n c.requires.cell in
    omega (arith, h, ap (λ b. length b.lists.x) c.basis.view_is)

pub index-requires : goal.index-requires
index-requires g c =
    let b = c.args.basis.now in
    let s : IsBasis g.row.P b = subst (IsBasis g.row.P) c.basis.view_is c.basis.invariant in
    let k = get_or c.x_list-c-items.result.now c.loop-c.c-index 0 in
    let lt : k < size b.tree = number_in g.row.P b s X c.args.n c.requires.cell c.x_list-c-items.result.now (c.x_list-c-items.ensures ∙ ap (λ b. list_at b.lists.x c.args.n) c.basis.view_is) c.loop-c.c-index 0 c.loop-c-test.true in
    omega (arith, c.basis.inside.weights.ok.0, lt, s.weight_each, ap (λ b. length b.weights) c.basis.view_is)

pub add_single-requires-clause-weight : goal.add_single-requires-clause-weight
add_single-requires-clause-weight g c =
    let b = c.args.basis.now in
    let s : IsBasis g.row.P b = subst (IsBasis g.row.P) c.basis.view_is c.basis.invariant in
    let k = get_or c.x_list-c-items.result.now c.loop-c.c-index 0 in
    let lt : k < size b.tree = number_in g.row.P b s X c.args.n c.requires.cell c.x_list-c-items.result.now (c.x_list-c-items.ensures ∙ ap (λ b. list_at b.lists.x c.args.n) c.basis.view_is) c.loop-c.c-index 0 c.loop-c-test.true in
    weight_least g.row.P b s k lt c.index.result.now (c.index.ensures ∙ ap (λ b. get_or b.weights k c.index.result.now) c.basis.view_is)

pub add_single-requires-clause-room : goal.add_single-requires-clause-room
add_single-requires-clause-room g c =
    let b = c.args.basis.now in
    let s : IsBasis g.row.P b = subst (IsBasis g.row.P) c.basis.view_is c.basis.invariant in
    let k = get_or c.x_list-c-items.result.now c.loop-c.c-index 0 in
    let same = c.x_list-c-items.ensures ∙ ap (λ b. list_at b.lists.x c.args.n) c.basis.view_is in
    let lt : k < size b.tree = number_in g.row.P b s X c.args.n c.requires.cell c.x_list-c-items.result.now same c.loop-c.c-index 0 c.loop-c-test.true in
    let at = read_at b.tree c.cells.result.now c.args.n c.index-cells-n.result (c.cells.ensures.all ∙ ap (λ b. b.tree.cells) c.basis.view_is) c.requires.cell c.index-cells-n.is in
    let d = side_is c.side-side.result c.index-cells-n.result (square_of b.tree c.args.n) c.side-side.ensures.value at in
    let e = loss_read g.row.P b s k lt (single_tail g.row.P) (side (square_of b.tree c.args.n)) c.index.result.now c.side-side.result (c.index.ensures ∙ ap (λ b. get_or b.weights k c.index.result.now) c.basis.view_is) d c.side-side.ensures.at_least c.side-side.ensures.at_most in
    room_for (x_loss g.row.P b c.args.n) c.x_list-c-items.result.now (list_at b.lists.x c.args.n) c.loop-c.c-index 0 c.args.ledger.now c.loop-c.ledger _ c.loop-c-test.true same c.loop-c.invariant e (x_losses_light g.row.P b s c.args.n c.requires.cell) c.requires.room

pub loop-c-preserved : goal.loop-c-preserved
loop-c-preserved g c =
    let b = c.args.basis.now in
    let s : IsBasis g.row.P b = subst (IsBasis g.row.P) c.basis.view_is c.basis.invariant in
    let k = get_or c.x_list-c-items.result.now c.loop-c.c-index 0 in
    let same = c.x_list-c-items.ensures ∙ ap (λ b. list_at b.lists.x c.args.n) c.basis.view_is in
    let lt : k < size b.tree = number_in g.row.P b s X c.args.n c.requires.cell c.x_list-c-items.result.now same c.loop-c.c-index 0 c.loop-c-test.true in
    let at = read_at b.tree c.cells.result.now c.args.n c.index-cells-n.result (c.cells.ensures.all ∙ ap (λ b. b.tree.cells) c.basis.view_is) c.requires.cell c.index-cells-n.is in
    let d = side_is c.side-side.result c.index-cells-n.result (square_of b.tree c.args.n) c.side-side.ensures.value at in
    let e = loss_read g.row.P b s k lt (single_tail g.row.P) (side (square_of b.tree c.args.n)) c.index.result.now c.side-side.result (c.index.ensures ∙ ap (λ b. get_or b.weights k c.index.result.now) c.basis.view_is) d c.side-side.ensures.at_least c.side-side.ensures.at_most in
    one_loss (x_loss g.row.P b c.args.n) c.x_list-c-items.result.now c.loop-c.c-index 0 c.args.ledger.now c.loop-c.ledger c.add_single.new.self _ c.loop-c-test.true c.loop-c.invariant c.add_single.ensures.added e

pub returns-clause-added : goal.returns-clause-added
returns-clause-added g c =
    all_losses (x_loss g.row.P c.args.basis.now c.args.n) c.x_list-c-items.result.now (list_at c.args.basis.now.lists.x c.args.n) c.loop-c.c-index c.args.ledger.now c.loop-c.ledger (omega arith)
    (c.x_list-c-items.ensures ∙ ap (λ b. list_at b.lists.x c.args.n) c.basis.view_is) c.loop-c.invariant

pub returns-clause-size : goal.returns-clause-size
returns-clause-size g c =
    let s : IsBasis g.row.P c.args.basis.now = subst (IsBasis g.row.P) c.basis.view_is c.basis.invariant in
    let added = returns-clause-added g c in
    omega (arith, added, x_losses_light g.row.P c.args.basis.now s c.args.n c.requires.cell)

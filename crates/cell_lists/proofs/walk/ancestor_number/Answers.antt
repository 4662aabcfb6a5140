-- The ancestor is a cell of the tree, so the search finds it.
use Rattle.std.proofs.Common.{◌≡◌, sym, ap, ◌∙◌}
use Rattle.cell_name.specs.Cell.{square}
use Rattle.cell_name.specs.Square.{ancestor}
use Rattle.quadtree.specs.TreeModel.{square_of}
use Rattle.cell_lists.proofs.TreeNumbers.{read_at, ancestor_listed, found_number, number_of}
use Rattle.cell_lists.proofs.walk.ancestor_number.Goals as goal

pub unwrap-requires : goal.unwrap-requires
unwrap-requires c =
    let tree = c.args.tree.now in
    let e : square c.index-cells-n.result ≡ square_of tree c.args.n = read_at tree c.cells.result.now c.args.n c.index-cells-n.result c.cells.ensures.all c.requires.cell c.index-cells-n.is in
    let above : ancestor (square_of tree c.args.n) c.args.level ≡ square c.ancestor-above.result = ap (λ s. ancestor s c.args.level) (sym e) ∙ sym c.ancestor-above.ensures in
    found_number tree (ancestor (square_of tree c.args.n) c.args.level) (square c.ancestor-above.result) c.find.result (ancestor_listed tree c.args.n c.args.level c.cells.ensures.tree c.requires.cell c.requires.level) above c.find.ensures

pub returns : goal.returns
returns c =
    let tree = c.args.tree.now in
    let e : square c.index-cells-n.result ≡ square_of tree c.args.n = read_at tree c.cells.result.now c.args.n c.index-cells-n.result c.cells.ensures.all c.requires.cell c.index-cells-n.is in
    let found = number_of tree (square c.ancestor-above.result) c.find.result c.unwrap.result c.unwrap.ensures c.find.ensures in
    record { in_range = found.0; ancestor = found.1 ∙ c.ancestor-above.ensures ∙ ap (λ s. ancestor s c.args.level) e }

-- The descent of two leaves of the tree names an entry of the tree.
use Rattle.std.proofs.Common.{◌≡◌, ◌≤◌, ap, ◌∙◌, arith}
use Rattle.limits.proofs.Grids.{grid_positive}
use Rattle.cell_name.specs.Cell.{square}
use Rattle.cell_name.specs.Square.{Square}
use Rattle.quadtree.specs.TreeModel.{square_of}
use Rattle.cell_lists.proofs.OneEntry.{roots_touch, only_entry}
use Rattle.quadtree.proofs.TreeChildren.{tree_cell_at}
use Rattle.cell_lists.proofs.TreeNumbers.{read_at, below_length, ancestor_at, case_levels, entry_named, Holds-ancestor}
use Rattle.cell_lists.proofs.walk.first_apart.Goals as goal

pub bounds-cells-b : goal.bounds-cells-b
bounds-cells-b c = below_length c.args.tree.now c.cells-cells.result.now c.args.b c.cells-cells.ensures.all c.requires.first

pub bounds-cells-c : goal.bounds-cells-c
bounds-cells-c c = below_length c.args.tree.now c.cells-cells.result.now c.args.c c.cells-cells.ensures.all c.requires.second

pub descend-stop-requires : goal.descend-stop-requires
descend-stop-requires c =
    let tree = c.args.tree.now in
    let of_some = c.cells-cells.ensures.tree in
    let b = c.index-cells-b.result in
    let d = c.index-cells-c.result in
    let eb : square b ≡ square_of tree c.args.b = read_at tree c.cells-cells.result.now c.args.b b c.cells-cells.ensures.all c.requires.first c.index-cells-b.is in
    let ed : square d ≡ square_of tree c.args.c = read_at tree c.cells-cells.result.now c.args.c d c.cells-cells.ensures.all c.requires.second c.index-cells-c.is in
    let gb = ap (λ (s : Square). s.grid) eb ∙ (tree_cell_at tree of_some.points of_some.cap c.args.b of_some.is_tree c.requires.first).of_grid in
    let gd = ap (λ (s : Square). s.grid) ed ∙ (tree_cell_at tree of_some.points of_some.cap c.args.c of_some.is_tree c.requires.second).of_grid in
    roots_touch tree.grid (square b) (square d) gb gd b.column b.row d.column d.row

pub ancestor_number-requires-clause-level : goal.ancestor_number-requires-clause-level
ancestor_number-requires-clause-level c =
    let tree = c.args.tree.now in
    let eb : square c.index-cells-b.result ≡ square_of tree c.args.b = read_at tree c.cells-cells.result.now c.args.b c.index-cells-b.result c.cells-cells.ensures.all c.requires.first c.index-cells-b.is in
    let ec : square c.index-cells-c.result ≡ square_of tree c.args.c = read_at tree c.cells-cells.result.now c.args.c c.index-cells-c.result c.cells-cells.ensures.all c.requires.second c.index-cells-c.is in
    (case_levels (square c.index-cells-b.result) (square c.index-cells-c.result) (square_of tree c.args.b) (square_of tree c.args.c) c.descend-stop.result.letter c.descend-stop.result.first c.descend-stop.result.second c.descend-stop.ensures eb ec).0

pub ancestor_number-requires-2-clause-level : goal.ancestor_number-requires-2-clause-level
ancestor_number-requires-2-clause-level c =
    let tree = c.args.tree.now in
    let eb : square c.index-cells-b.result ≡ square_of tree c.args.b = read_at tree c.cells-cells.result.now c.args.b c.index-cells-b.result c.cells-cells.ensures.all c.requires.first c.index-cells-b.is in
    let ec : square c.index-cells-c.result ≡ square_of tree c.args.c = read_at tree c.cells-cells.result.now c.args.c c.index-cells-c.result c.cells-cells.ensures.all c.requires.second c.index-cells-c.is in
    (case_levels (square c.index-cells-b.result) (square c.index-cells-c.result) (square_of tree c.args.b) (square_of tree c.args.c) c.descend-stop.result.letter c.descend-stop.result.first c.descend-stop.result.second c.descend-stop.ensures eb ec).1

pub ancestor_number-requires-clause-cell : goal.ancestor_number-requires-clause-cell
ancestor_number-requires-clause-cell c = c.requires.first

pub ancestor_number-requires-2-clause-cell : goal.ancestor_number-requires-2-clause-cell
ancestor_number-requires-2-clause-cell c = c.requires.second

pub returns-clause-first_in_range : goal.returns-clause-first_in_range
returns-clause-first_in_range c = c.ancestor_number.ensures.in_range

pub returns-clause-second_in_range : goal.returns-clause-second_in_range
returns-clause-second_in_range c = c.ancestor_number-2.ensures.in_range

pub returns-clause-first_above : goal.returns-clause-first_above
returns-clause-first_above c =
    let tree = c.args.tree.now in
    let eb : square c.index-cells-b.result ≡ square_of tree c.args.b = read_at tree c.cells-cells.result.now c.args.b c.index-cells-b.result c.cells-cells.ensures.all c.requires.first c.index-cells-b.is in
    let ec : square c.index-cells-c.result ≡ square_of tree c.args.c = read_at tree c.cells-cells.result.now c.args.c c.index-cells-c.result c.cells-cells.ensures.all c.requires.second c.index-cells-c.is in
    let levels = case_levels (square c.index-cells-b.result) (square c.index-cells-c.result) (square_of tree c.args.b) (square_of tree c.args.c) c.descend-stop.result.letter c.descend-stop.result.first c.descend-stop.result.second c.descend-stop.ensures eb ec in
    ancestor_at tree c.args.b c.ancestor_number.result c.descend-stop.result.first levels.0 c.ancestor_number.ensures.ancestor

pub returns-clause-second_above : goal.returns-clause-second_above
returns-clause-second_above c =
    let tree = c.args.tree.now in
    let eb : square c.index-cells-b.result ≡ square_of tree c.args.b = read_at tree c.cells-cells.result.now c.args.b c.index-cells-b.result c.cells-cells.ensures.all c.requires.first c.index-cells-b.is in
    let ec : square c.index-cells-c.result ≡ square_of tree c.args.c = read_at tree c.cells-cells.result.now c.args.c c.index-cells-c.result c.cells-cells.ensures.all c.requires.second c.index-cells-c.is in
    let levels = case_levels (square c.index-cells-b.result) (square c.index-cells-c.result) (square_of tree c.args.b) (square_of tree c.args.c) c.descend-stop.result.letter c.descend-stop.result.first c.descend-stop.result.second c.descend-stop.ensures eb ec in
    ancestor_at tree c.args.c c.ancestor_number-2.result c.descend-stop.result.second levels.1 c.ancestor_number-2.ensures.ancestor

pub returns-clause-entry : goal.returns-clause-entry
returns-clause-entry c points cap inside is_tree =
    let tree = c.args.tree.now in
    let eb : square c.index-cells-b.result ≡ square_of tree c.args.b = read_at tree c.cells-cells.result.now c.args.b c.index-cells-b.result c.cells-cells.ensures.all c.requires.first c.index-cells-b.is in
    let ec : square c.index-cells-c.result ≡ square_of tree c.args.c = read_at tree c.cells-cells.result.now c.args.c c.index-cells-c.result c.cells-cells.ensures.all c.requires.second c.index-cells-c.is in
    entry_named tree points cap c.args.b c.args.c c.ancestor_number.result c.ancestor_number-2.result (square c.index-cells-b.result) (square c.index-cells-c.result) c.descend-stop.result.letter c.descend-stop.result.first c.descend-stop.result.second inside is_tree c.requires.first c.requires.second c.requires.first_leaf c.requires.second_leaf c.requires.target c.requires.source c.descend-stop.ensures eb ec c.ancestor_number.ensures.ancestor c.ancestor_number-2.ensures.ancestor

pub returns-clause-accounts : goal.returns-clause-accounts
returns-clause-accounts c target source h =
    let tree = c.args.tree.now in
    let eb : square c.index-cells-b.result ≡ square_of tree c.args.b = read_at tree c.cells-cells.result.now c.args.b c.index-cells-b.result c.cells-cells.ensures.all c.requires.first c.index-cells-b.is in
    let ec : square c.index-cells-c.result ≡ square_of tree c.args.c = read_at tree c.cells-cells.result.now c.args.c c.index-cells-c.result c.cells-cells.ensures.all c.requires.second c.index-cells-c.is in
    let levels = case_levels (square c.index-cells-b.result) (square c.index-cells-c.result) (square_of tree c.args.b) (square_of tree c.args.c) c.descend-stop.result.letter c.descend-stop.result.first c.descend-stop.result.second c.descend-stop.ensures eb ec in
    let of_some = c.cells-cells.ensures.tree in
    let cell_b = tree_cell_at tree of_some.points of_some.cap c.args.b of_some.is_tree c.requires.first in
    let cell_c = tree_cell_at tree of_some.points of_some.cap c.args.c of_some.is_tree c.requires.second in
    let up_b : (square_of tree c.args.b).level ≤ (square_of tree c.args.b).grid = omega (arith, cell_b.level_in_grid, cell_b.of_grid) in
    let up_c : (square_of tree c.args.c).level ≤ (square_of tree c.args.c).grid = omega (arith, cell_c.level_in_grid, cell_c.of_grid) in
    record {
      target_held = Holds-ancestor (square_of tree c.args.b) _ c.descend-stop.result.first target.x target.y c.ancestor_number.ensures.ancestor levels.0 up_b h.target_held;
      source_held = Holds-ancestor (square_of tree c.args.c) _ c.descend-stop.result.second source.x source.y c.ancestor_number-2.ensures.ancestor levels.1 up_c h.source_held;
    }

pub returns-clause-only : goal.returns-clause-only
returns-clause-only c points cap inside is_tree target source given held =
    let tree = c.args.tree.now in
    only_entry tree.grid points cap c.descend-stop.result.letter (square_of tree c.ancestor_number.result) (square_of tree c.ancestor_number-2.result) target source (grid_positive tree.grid is_tree.known_grid) inside given (returns-clause-entry c points cap inside is_tree) (returns-clause-accounts c target source held)

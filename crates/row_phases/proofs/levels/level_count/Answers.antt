-- The last cell has the greatest level.
use Rattle.std.proofs.Common.{◌≡◌, ◌∙◌, ◌-◌, ◌≤◌, length, get_or, ap, arith}
use Rattle.std.proofs.lemmas.List.{get_or-map}
use Rattle.cell_name.specs.Cell.{square}
use Rattle.cell_name.specs.Square.{Square, no_square}
use Rattle.cell_name.specs.declared.cell.Cell.{Cell}
use Rattle.quadtree.proofs.LevelRanges.{levels_rise}
use Rattle.quadtree.specs.TreeModel.{size, square_of}
use Rattle.row_phases.proofs.levels.level_count.Goals as goal

pub returns-in-Some : goal.returns-in-Some
returns-in-Some c n lt =
    let tree = c.args.tree.now in
    let cell : Cell = c.in-Some.cell.now in
    let rise : (get_or tree.cells n cell).level ≤ (get_or tree.cells (size tree - 1) cell).level = levels_rise tree.cells c.cells.ensures.tree.is_tree.cells_are.ascending n (size tree - 1) cell (omega (arith, lt)) (omega (arith, lt)) in
    let here : (square_of tree n).level ≡ (get_or tree.cells n cell).level = ap (λ (s : Square). s.level) (get_or-map square tree.cells n cell no_square lt) in
    let last : cell.level ≡ (get_or tree.cells (size tree - 1) cell).level = ap (λ (d : Cell). d.level) (c.in-Some.ensures.item.1 ∙ ap (λ l. get_or l (length l - 1) cell) c.cells.ensures.all) in
    omega (arith, rise, here, last)

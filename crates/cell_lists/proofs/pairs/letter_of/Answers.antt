-- With a target and a source the letter is that of the pair.
use Rattle.std.proofs.Common.{◌≡◌, Bool, Some, sym, ◌∙◌, subst}
use Rattle.std.specs.Prelude.{◌↔◌}
use Rattle.cell_name.specs.Cell.{square}
use Rattle.cell_name.specs.Square.{Square}
use Rattle.quadtree.specs.TreeModel.{square_of, node_of}
use Rattle.cell_lists.specs.Pairs.{MeetsLetter}
use Rattle.cell_lists.proofs.PairTests.{entry_from_letter}
use Rattle.cell_lists.proofs.TreeNumbers.{read_at, below_length}
use Rattle.cell_lists.proofs.pairs.letter_of.Goals as goal

pub bounds-cells-b : goal.bounds-cells-b
bounds-cells-b c = below_length c.args.tree.now c.cells-cells.result.now c.args.b c.cells-cells.ensures.all c.requires.first

pub bounds-cells-c : goal.bounds-cells-c
bounds-cells-c c = below_length c.args.tree.now c.cells-cells.result.now c.args.c c.cells-cells.ensures.all c.requires.second

pub returns : goal.returns
returns c points cap inside h letter =
    let tree = c.args.tree.now in
    let eb : square c.index-cells-b.result ≡ square_of tree c.args.b = read_at tree c.cells-cells.result.now c.args.b c.index-cells-b.result c.cells-cells.ensures.all c.requires.first c.index-cells-b.is in
    let ec : square c.index-cells-c.result ≡ square_of tree c.args.c = read_at tree c.cells-cells.result.now c.args.c c.index-cells-c.result c.cells-cells.ensures.all c.requires.second c.index-cells-c.is in
    let P : Square → Type 0 = λ s. (c.letter_of_pair.result ≡ Some letter) ↔ MeetsLetter c.is_leaf.result c.is_leaf-2.result s (square c.index-cells-c.result) letter in
    let Q : Square → Type 0 = λ s. (c.letter_of_pair.result ≡ Some letter) ↔ MeetsLetter c.is_leaf.result c.is_leaf-2.result (square_of tree c.args.b) s letter in
    let R : Bool → Type 0 = λ l. (c.letter_of_pair.result ≡ Some letter) ↔ MeetsLetter l c.is_leaf-2.result (square_of tree c.args.b) (square_of tree c.args.c) letter in
    let S : Bool → Type 0 = λ l. (c.letter_of_pair.result ≡ Some letter) ↔ MeetsLetter (node_of tree c.args.b).is_leaf l (square_of tree c.args.b) (square_of tree c.args.c) letter in
    entry_from_letter tree points cap c.args.b c.args.c h c.requires.first c.requires.second c.letter_of_pair.result letter
    (sym c.has_target.ensures ∙ c.if-not-has_target.false)
    (sym c.has_source.ensures ∙ c.if-not-has_source.false)
    (subst S c.is_leaf-2.ensures (subst R c.is_leaf.ensures (subst Q ec (subst P eb (c.letter_of_pair.ensures letter)))))

-- The lists of a tree are determined.
use Rattle.std.proofs.lemmas.List.Elements.{All-contains}
use Rattle.cell_lists.specs.Entries.{IsEntry}
use Rattle.quadtree.specs.Tree.{IsTreeCell}
use Rattle.tree_field.specs.Laws.{OneTree}
use Rattle.quadtree.proofs.Ascending.{same_list}

pub one_tree : OneTree
one_tree grid points cap these others p q = (
  same_list these.cells others.cells p.cells_are.ascending q.cells_are.ascending
      (λ c h. q.cells_are.whole c (All-contains (IsTreeCell grid points cap) these.cells c p.cells_are.each h))
      (λ c h. p.cells_are.whole c (All-contains (IsTreeCell grid points cap) others.cells c q.cells_are.each h)),
  λ letter b tb.
      let e = p.entries_are letter b tb in
      let f = q.entries_are letter b tb in
      same_list (these.entries letter b) (others.entries letter b) e.ascending f.ascending
      (λ c h. f.whole c (All-contains (IsEntry grid points cap letter b) (these.entries letter b) c e.each h))
      (λ c h. e.whole c (All-contains (IsEntry grid points cap letter b) (others.entries letter b) c f.each h)),
)

-- The colleagues of the parent and their quarters are all around.
use Rattle.std.proofs.Common.{◌≡◌, ◌<◌, ◌++◌, [], ◌∷◌, ℕ, List, sym, ap, ◌∙◌, subst, arith, append-nil}
use Rattle.std.specs.Prelude.{Contains, slice_index}
use Rattle.std.proofs.lemmas.Bool.{false≢true}
use Rattle.std.proofs.lemmas.List.Elements.{Contains-push}
use Rattle.quadtree.specs.TreeModel.{size}
use Rattle.cell_lists.specs.Walks.{AreNumbers, IsChild}
use Rattle.cell_lists.proofs.CellNumbers.{parent_before}
use Rattle.cell_lists.proofs.WalkSteps.{around_none, around_more, around_list, parent_list_numbers, root_met, one_number, children_numbers, children_whole}
use Rattle.cell_lists.proofs.search.find_around.Goals as goal
use Rattle.cell_lists.proofs.search.find_around.Goals.{then-is_leaf+in_ok-push-2, else-is_leaf}

pub returns-then-b-eq0-clause-whole : goal.returns-then-b-eq0-clause-whole
returns-then-b-eq0-clause-whole c n met =
    let P : List ℕ → Type 0 = λ l. Contains l 0 in
    let first : Contains c.push.new.self.items 0 = subst P (sym c.in_ok-push.ensures.items) (Contains-push c.clear.new.self.items 0) in
    root_met c.args.tree.now c.args.b n c.push.new.self.items c.requires.tree c.if-b-eq0.true c.requires.cell first met

pub list-colleagues-requires : goal.list-colleagues-requires
list-colleagues-requires c =
    let up = parent_before c.args.tree.now c.requires.tree c.args.b (omega arith) c.requires.cell in
    omega (arith, up.before, c.parent.ensures, c.requires.colleagues.as_many)

pub is_leaf-requires : goal.is_leaf-requires
is_leaf-requires c =
    parent_list_numbers c.args.tree.now c.args.b c.parent.result c.args.near.now c.list-colleagues.result.now c.requires.tree (omega arith) c.requires.cell c.parent.ensures c.requires.colleagues c.list-colleagues.ensures c.loop-c.c-index 0 (omega arith)

pub children-requires : goal.children-requires
children-requires c =
    parent_list_numbers c.args.tree.now c.args.b c.parent.result c.args.near.now c.list-colleagues.result.now c.requires.tree (omega arith) c.requires.cell c.parent.ensures c.requires.colleagues c.list-colleagues.ensures c.loop-c.c-index 0 (omega arith)

pub loop-c-init : goal.loop-c-init
loop-c-init c = around_none c.args.tree.now c.list-colleagues.result.now c.clear.new.self.items c.clear.ensures.items

pub loop-c-preserved : goal.loop-c-preserved
loop-c-preserved c =
    let tree = c.args.tree.now in
    let near : List ℕ = c.list-colleagues.result.now in
    let count : ℕ = c.loop-c.c-index in
    let n : ℕ = slice_index near count in
    let lt : n < size tree = parent_list_numbers tree c.args.b c.parent.result c.args.near.now near c.requires.tree (omega arith) c.requires.cell c.parent.ensures c.requires.colleagues c.list-colleagues.ensures count 0 (omega arith) in
    let P : List ℕ → Type 0 = λ l. AreNumbers tree l in
    let Q : List ℕ → Type 0 = λ l. (k : ℕ) → IsChild tree n k → Contains l k in
    let numbers : AreNumbers tree c.children.result.now = subst P (sym c.children.ensures) (children_numbers tree c.requires.tree n lt) in
    let quarters : (k : ℕ) → IsChild tree n k → Contains c.children.result.now k = subst Q (sym c.children.ensures) (λ k child. children_whole tree c.requires.tree n k lt child) in
    let last : c.extend_from_slice.new.self.items ≡ c.if-is_leaf.found.items ++ c.children.result.now = c.in_ok-extend_from_slice.ensures.items in
    elim c.if-is_leaf.branch [
      | then-is_leaf+in_ok-push-2 w ↦
          let grown : c.if-is_leaf.found.items ≡ c.loop-c.found.items ++ n ∷ [] = ap (λ v. v.items) w.found-is ∙ w.in_ok-push-2.ensures.items in
          around_more tree near count c.loop-c.found.items c.extend_from_slice.new.self.items (n ∷ []) c.children.result.now c.loop-c.invariant (last ∙ ap (λ l. l ++ c.children.result.now) grown) (one_number tree n lt) numbers (λ _. Contains-push [] n) quarters
      | else-is_leaf w ↦
          let grown : c.if-is_leaf.found.items ≡ c.loop-c.found.items ++ [] = ap (λ v. v.items) w.found-is ∙ sym (append-nil c.loop-c.found.items) in
          around_more tree near count c.loop-c.found.items c.extend_from_slice.new.self.items [] c.children.result.now c.loop-c.invariant (last ∙ ap (λ l. l ++ c.children.result.now) grown) (λ k d inside. absurd (omega arith)) numbers (λ leaf. absurd (false≢true (sym w.if-is_leaf.false ∙ c.is_leaf.ensures ∙ leaf))) quarters
    ]

pub returns-clause-whole : goal.returns-clause-whole
returns-clause-whole c n met =
    around_list c.args.tree.now c.args.b c.parent.result c.loop-c.c-index c.args.near.now c.list-colleagues.result.now c.loop-c.found.items c.requires.tree (omega arith) c.requires.cell c.parent.ensures c.requires.colleagues c.list-colleagues.ensures (omega arith) c.loop-c.invariant n met

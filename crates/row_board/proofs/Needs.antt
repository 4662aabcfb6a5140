-- What a place needs is a place of the board, and comes before it.
use Rattle.std.proofs.Common.{ℕ, ◌≡◌, ◌<◌, List, length, map, get_or, ap, sym, subst, arith}
use Rattle.std.specs.Prelude.{All}
use Rattle.std.proofs.lemmas.Bool.{cases_lt}
use Rattle.std.proofs.lemmas.List.Elements.{All-cons, All-contains, All-map, All-nil, All-weaker}
use mathlib.Core.Logic.{⊎_elim}
use Rattle.cell_lists.proofs.CellNumbers.{parent_before}
use Rattle.cell_lists.specs.EntryLists.{lists_of}
use Rattle.cell_lists.specs.ListAt.{list_at}
use Rattle.downward_rows.proofs.Trees.{target_of_parent}
use Rattle.exact_math.proofs.Lists.{All-from_members}
use Rattle.field_basis.proofs.Positions.{target_has_leaf}
use Rattle.field_basis.proofs.Sizes.{inside}
use Rattle.field_basis.proofs.Trees.{some_tree, tree_of_basis}
use Rattle.field_basis.specs.Basis.{target_leaf}
use Rattle.letters.specs.declared.Letter.{Letter}
use Rattle.letters.specs.declared.Letter.TheVariants.{V, W}
use Rattle.quadtree.specs.TreeModel.{IsTree, size, node_of}
use Rattle.target_values.proofs.FieldBox.{position, leaf_is}
use Rattle.tree_field.proofs.SourceChildren.{source_child}
use Rattle.tree_field.specs.Program.{source_children}
use Rattle.row_board.specs.Board.{IsBoard}
use Rattle.row_board.specs.Laws.{turn_of, NeedsAreNames, NeedsComeBefore}
use Rattle.row_board.specs.Names.{IsName, needs}
use Rattle.row_board.specs.Parts.{BoardParts}
use Rattle.row_board.specs.declared.name.Name.{Name}
use Rattle.row_board.specs.declared.name.Name.TheVariants.{Up, Local, Value}
use Rattle.row_board.proofs.Missing.{needs_below}

-- a place of the board that comes before a turn
abbrev ComesBefore : BoardParts → ℕ → Name → Type 0
ComesBefore b turn name = IsName b name × (turn_of b name < turn)

module _ (P : ℕ) (b : BoardParts) (is : IsBoard P b) where
  some : IsTree b.basis.tree
  some = some_tree b.basis.points b.basis.tree (tree_of_basis P b.basis is.basis_is)

  -- the cells of a list have a source
  far_before : (letter : Letter) (n turn : ℕ) → n < size b.basis.tree → size b.basis.tree < turn → All (ComesBefore b turn) (map Up (list_at (lists_of b.basis.lists letter) n))
  far_before letter n turn lt late =
      let cells : List ℕ = list_at (lists_of b.basis.lists letter) n in
      let list = is.basis_is.lists_are.each b.basis.points b.basis.cap (inside P b.basis is.basis_is) is.basis_is.is_tree letter n lt in
      All-map (ComesBefore b turn) Up cells (All-from_members (λ m. ComesBefore b turn (Up m)) cells (λ m h.
      let in_range = All-contains (λ c. c < size b.basis.tree) cells m list.numbers h in
      ((in_range, (is.basis_is.is_tree.nodes_are m in_range).source.1 ((list.exact m in_range).0 h).source), omega (arith, late))))

  -- ---- for a multipole row
  quarters_before : (n : ℕ) → n < size b.basis.tree → All (ComesBefore b (turn_of b (Up n))) (needs b (Up n))
  quarters_before n lt =
      let cells : List ℕ = source_children b.basis.tree n in
      All-map (ComesBefore b (turn_of b (Up n))) Up cells (All-from_members (λ c. ComesBefore b (turn_of b (Up n)) (Up c)) cells (λ c h.
      let child = source_child b.basis.tree n c h in
      let behind = (parent_before b.basis.tree some c child.positive child.in_range).before in
      ((child.in_range, child.source), omega (arith, lt, child.number_is, behind, child.in_range))))

  -- ---- for a local row
  module _ (n : ℕ) (named : IsName b (Local n)) where
    parent_comes : 0 < n → ComesBefore b (turn_of b (Local n)) (Local (node_of b.basis.tree n).parent)
    parent_comes lo =
        let parent = parent_before b.basis.tree some n lo named.0 in
        let target = target_of_parent b.basis.tree some b.basis.points n lo named.0 ((is.basis_is.is_tree.nodes_are n named.0).target.0 named.1) in
        ((parent.in_range, (is.basis_is.is_tree.nodes_are (node_of b.basis.tree n).parent parent.in_range).target.1 target), omega (arith, parent.before))

    local_before : All (ComesBefore b (turn_of b (Local n))) (needs b (Local n))
    local_before = ⊎_elim
        (λ lo. subst (All (ComesBefore b (turn_of b (Local n)))) (sym (needs_below b n (λ e. omega arith)))
        (All-cons (ComesBefore b (turn_of b (Local n))) (Local (node_of b.basis.tree n).parent) (map Up (list_at b.basis.lists.v n)) (parent_comes lo) (far_before V n (turn_of b (Local n)) named.0 (omega (arith, lo)))))
        (λ none. let e : n ≡ 0 = omega (arith, none) in subst (All (ComesBefore b (turn_of b (Local n)))) (sym (ap (λ m. needs b (Local m)) e)) (All-nil (ComesBefore b (turn_of b (Local n)))))
        (cases_lt 0 n)

  -- ---- for the box of a target
  module _ (k : ℕ) (lt : k < length b.basis.targets) where
    leaf_comes : ComesBefore b (turn_of b (Value k)) (Local (target_leaf b.basis k))
    leaf_comes =
        let leaf = leaf_is P b.basis is.basis_is k lt in
        let target = target_has_leaf b.basis.points b.basis.cap b.basis.tree is.basis_is.is_tree (get_or b.basis.targets k 0) (position P b.basis is.basis_is k lt) in
        ((leaf.in_range, (is.basis_is.is_tree.nodes_are (target_leaf b.basis k) leaf.in_range).target.1 target), omega (arith, leaf.in_range))

    value_before : All (ComesBefore b (turn_of b (Value k))) (needs b (Value k))
    value_before =
        let leaf = leaf_is P b.basis is.basis_is k lt in
        All-cons (ComesBefore b (turn_of b (Value k))) (Local (target_leaf b.basis k)) (map Up (list_at b.basis.lists.w (target_leaf b.basis k)))
        leaf_comes (far_before W (target_leaf b.basis k) (turn_of b (Value k)) leaf.in_range (omega (arith, leaf.in_range)))

  all_before : (name : Name) → IsName b name → All (ComesBefore b (turn_of b name)) (needs b name)
  all_before (Up n) named = quarters_before n named.0
  all_before (Local n) named = local_before n named
  all_before (Value k) named = value_before k named

pub needs_are_names : NeedsAreNames
needs_are_names P b name is named = All-weaker (ComesBefore b (turn_of b name)) (IsName b) (λ other h. h.0) (needs b name) (all_before P b is name named)

pub needs_come_before : NeedsComeBefore
needs_come_before P b name is named =
    All-weaker (ComesBefore b (turn_of b name)) (λ other. turn_of b other < turn_of b name) (λ other h. h.1) (needs b name) (all_before P b is name named)

-- Each list of points within a grid has the lists of a tree.
use Rattle.std.proofs.Common.{ℕ, ◌≡◌, ◌<◌, inl, inr, ◌⊎◌, List, Bool, true, false, filter, refl, sym, ◌∙◌, subst, arith}
use Rattle.std.specs.Prelude.{IsTrue}
use Rattle.std.specs.List.{list_any}
use Rattle.std.proofs.lemmas.Bool.{true≢false, false≢true, cases_Bool, cases_lt, cases_eq}
use Rattle.std.proofs.lemmas.List.Elements.{All-contains}
use Rattle.std.proofs.lemmas.List.Kept.{AllPairs-filter}
use mathlib.Core.Logic.{⊎_elim}
use Rattle.cell_name.specs.Order.{IsBefore}
use Rattle.cell_name.specs.Square.{Square, parent}
use Rattle.cell_name.proofs.Cells.{decide_touches}
use Rattle.cell_lists.specs.Entries.{IsPair, IsEntry}
use Rattle.cell_lists.proofs.OneEntry.{in_tree_of}
use Rattle.letters.specs.declared.Letter.{Letter}
use Rattle.letters.specs.declared.Letter.TheVariants.{U, V, W, X}
use Rattle.points.specs.declared.Point.{Point}
use Rattle.quadtree.specs.Splitting.{cells_to_level}
use Rattle.quadtree.specs.Tree.{AreInGrid, IsTreeCell, IsLeaf, count_in, has_target, has_source, AreExactly}
use Rattle.quadtree.proofs.Distinct.{Contains-filter, Contains-into_filter}
use Rattle.quadtree.proofs.Parents.{leaf_or_split}
use Rattle.quadtree.proofs.TreeLevels.{cells_to_level_are, cells_to_level_whole, cells_to_level_differ}
use Rattle.tree_field.specs.Laws.{EachListHasTree}
use Rattle.tree_field.specs.Lists.{TreeLists, AreTreeLists}
use Rattle.exact_math.proofs.Lists.{All-from_members}
use Rattle.tree_field.proofs.Members.{found, list_any-member}
use Rattle.tree_field.proofs.Numbers.{same_cell, same_from_test, test_itself}
use Rattle.tree_field.proofs.Sorting.{sorted_cells, sorted_has, sorted_from, sorted_ascend}

-- ---- the cells
pub tree_cells : (grid : ℕ) (points : List Point) (cap : ℕ) → 0 < grid → AreInGrid grid points → AreExactly (IsTreeCell grid points cap) (sorted_cells (cells_to_level grid points cap grid))
tree_cells grid points cap positive inside =
    let all : List Square = cells_to_level grid points cap grid in
    let are = cells_to_level_are grid points cap grid (omega arith) in
    record {
      each = All-from_members (IsTreeCell grid points cap) (sorted_cells all) (λ c h. All-contains (IsTreeCell grid points cap) all c (λ k d lt. (are k d lt).in_tree) (sorted_from all c h));
      whole = λ c h. sorted_has all c (cells_to_level_whole grid points cap grid positive inside c h h.level_in_grid);
      ascending = sorted_ascend grid all (λ k d lt. (are k d lt).in_tree.of_grid) (cells_to_level_differ grid points cap grid (omega arith));
    }

-- ---- what is decided
abbrev Decided : Type 0 → Type 0
Decided P = P ⊎ (P → ⊥)

decide_as : {P Q : Type 0} → (P → Q) → (Q → P) → Decided P → Decided Q
decide_as f g (inl p) = inl (f p)
decide_as f g (inr n) = inr (λ q. n (g q))

decide_both : {P Q : Type 0} → Decided P → Decided Q → Decided (P × Q)
decide_both (inl p) (inl q) = inl (p, q)
decide_both (inl p) (inr n) = inr (λ h. n h.1)
decide_both (inr n) d = inr (λ h. n h.0)

decide_not : {P : Type 0} → Decided P → Decided (P → ⊥)
decide_not (inl p) = inr (λ n. n p)
decide_not (inr n) = inl n

decide_lt : (m n : ℕ) → Decided (m < n)
decide_lt m n = ⊎_elim (λ lt. inl lt) (λ le. inr (λ lt. absurd (omega arith))) (cases_lt m n)

is_yes : {P : Type 0} → Decided P → Bool
is_yes (inl p) = true
is_yes (inr n) = false

yes_from : {P : Type 0} (d : Decided P) → P → is_yes d ≡ true
unfolding is_yes
yes_from (inl p) q = refl
yes_from (inr n) q = absurd (n q)

from_yes : {P : Type 0} (d : Decided P) → is_yes d ≡ true → P
unfolding is_yes
from_yes (inl p) e = p
from_yes (inr n) e = absurd (false≢true e)

decide_target : (points : List Point) (b : Square) → Decided (IsTrue (has_target points b))
decide_target points b = ⊎_elim (λ e. inl e) (λ e. inr (λ h. true≢false (sym h ∙ e))) (cases_Bool (has_target points b))

decide_source : (points : List Point) (c : Square) → Decided (IsTrue (has_source points c))
decide_source points c = ⊎_elim (λ e. inl e) (λ e. inr (λ h. true≢false (sym h ∙ e))) (cases_Bool (has_source points c))

module _ (grid : ℕ) (points : List Point) (cap : ℕ) (cells : List Square) (are : AreExactly (IsTreeCell grid points cap) cells) where
  decide_tree : (c : Square) → Decided (IsTreeCell grid points cap c)
  decide_tree c = ⊎_elim
      (λ e. let f = found (λ d. same_cell d c) cells e in inl (subst (IsTreeCell grid points cap) (same_from_test f.member c f.passes) (All-contains (IsTreeCell grid points cap) cells f.member are.each f.listed)))
      (λ e. inr (λ h. true≢false (sym (list_any-member (λ d. same_cell d c) cells c (are.whole c h) (test_itself c)) ∙ e)))
      (cases_Bool (list_any (λ d. same_cell d c) cells))

  decide_leaf : (c : Square) → Decided (IsLeaf grid points cap c)
  decide_leaf c = ⊎_elim
      (λ h. ⊎_elim (λ leaf. inl leaf) (λ split. inr (λ leaf. neither split.0 split.1 leaf)) (leaf_or_split grid points cap c h))
      (λ n. inr (λ leaf. n leaf.in_tree))
      (decide_tree c)
    where
      neither : (cap < count_in points c) → c.level < grid → IsLeaf grid points cap c → ⊥
      neither split room leaf = elim leaf.ends [ inl few ↦ absurd (omega (arith, split)) | inr last ↦ absurd (omega arith) ]

  decide_w : (b c : Square) → Decided (IsPair grid points cap W b c)
  decide_w b c = decide_as
      (λ h. (h.0, h.1.0, record { deeper = h.1.1.0; parent_touches = h.1.1.1.0; apart = h.1.1.1.1 }))
      (λ r. (r.0, (r.1, (r.2.deeper, (r.2.parent_touches, r.2.apart)))))
      (decide_both (decide_leaf b) (decide_both (decide_tree c) (decide_both (decide_lt b.level c.level) (decide_both (decide_touches (parent c) b) (decide_not (decide_touches c b))))))

  decide_pair : (letter : Letter) (b c : Square) → Decided (IsPair grid points cap letter b c)
  decide_pair U b c = decide_as
      (λ h. (h.0, h.1.0, h.1.1))
      (λ r. (r.0, (r.1, r.2)))
      (decide_both (decide_leaf b) (decide_both (decide_leaf c) (decide_touches b c)))
  decide_pair V b c = decide_as
      (λ h. (h.0, h.1.0, record { same_level = h.1.1.0; below_root = h.1.1.1.0; parents_touch = h.1.1.1.1.0; apart = h.1.1.1.1.1 }))
      (λ r. (r.0, (r.1, (r.2.same_level, (r.2.below_root, (r.2.parents_touch, r.2.apart))))))
      (decide_both (decide_tree b) (decide_both (decide_tree c) (decide_both (cases_eq b.level c.level) (decide_both (decide_lt 0 b.level) (decide_both (decide_touches (parent b) (parent c)) (decide_not (decide_touches b c)))))))
  decide_pair W b c = decide_w b c
  decide_pair X b c = decide_w c b

  decide_entry : (letter : Letter) (b c : Square) → Decided (IsEntry grid points cap letter b c)
  decide_entry letter b c = decide_as
      (λ h. record { target = h.0; source = h.1.0; pair = h.1.1 })
      (λ r. (r.target, (r.source, r.pair)))
      (decide_both (decide_target points b) (decide_both (decide_source points c) (decide_pair letter b c)))

  -- ---- the entries of a cell are those cells that pass
  abbrev passing : Letter → Square → List Square
  passing letter b = filter (λ c. is_yes (decide_entry letter b c)) cells

  passing_are : (letter : Letter) (b : Square) → AreExactly (IsEntry grid points cap letter b) (passing letter b)
  passing_are letter b = record {
    each = All-from_members (IsEntry grid points cap letter b) (passing letter b) (λ c h. from_yes (decide_entry letter b c) (Contains-filter (λ c. is_yes (decide_entry letter b c)) cells c h).1);
    whole = λ c e. Contains-into_filter (λ c. is_yes (decide_entry letter b c)) cells c (are.whole c (in_tree_of grid points cap letter b c e.pair).1) (yes_from (decide_entry letter b c) e);
    ascending = AllPairs-filter IsBefore (λ c. is_yes (decide_entry letter b c)) cells are.ascending;
  }

  pub lists_with : (lists : TreeLists) × AreTreeLists grid points cap lists
  lists_with = (record { grid = grid; cells = cells; entries = passing }, record { of_grid = refl; cells_are = are; entries_are = λ letter b h. passing_are letter b })

pub each_list_has_tree : EachListHasTree
each_list_has_tree grid points cap positive inside = lists_with grid points cap (sorted_cells (cells_to_level grid points cap grid)) (tree_cells grid points cap positive inside)

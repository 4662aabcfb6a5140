-- Looking through the children of a cell for one that has a source and no mark.
use Rattle.std.proofs.Common.{ℕ, ◌≡◌, ◌+◌, ◌<◌, ◌≤◌, List, ◌∷◌, ◌++◌, length, get_or, take, drop, Bool, true, false, cond, sym, ap, ◌∙◌, subst}
use Rattle.std.specs.Prelude.{Contains, slice_index_or}
use Rattle.std.proofs.lemmas.List.{drop_more, take_all, take-append-drop}
use Rattle.std.proofs.lemmas.List.Elements.{All-push, Contains-get_or, filter-append}
use Rattle.quadtree.specs.TreeModel.{TreeModel, size, node_of, IsTree}
use Rattle.quadtree.proofs.TreeChildren.{child_of}
use Rattle.tree_field.specs.Program.{with_source, source_children}
use Rattle.tree_field.proofs.SourceChildren.{source_children_are}
use Rattle.upward_rows.proofs.Trees.{kept_more, kept_same}
use Rattle.row_board.specs.Search.{AreMarked, IsFirstUnmarked}

module _ (tree : TreeModel) (marks : List Bool) (n : ℕ) (children : List ℕ) (is : IsTree tree) (lt : n < size tree) (are : children ≡ (node_of tree n).children) where
  all_are : with_source tree children ≡ source_children tree n
  all_are = ap (with_source tree) are ∙ source_children_are tree is.points is.cap is.is_tree n lt

  pub all_marked : (k : ℕ) → length children ≤ k → AreMarked marks (with_source tree (take k children)) → AreMarked marks (source_children tree n)
  all_marked k le marked = subst (AreMarked marks) (ap (with_source tree) (take_all k children le) ∙ all_are) marked

  module _ (k : ℕ) (lk : k < length children) (so_far : AreMarked marks (with_source tree (take k children))) where
    abbrev child : ℕ
    child = get_or children k 0

    pub child_in_range : child < size tree
    child_in_range = (child_of tree is.points is.cap is.in_grid is.is_tree n child lt (subst (λ l. Contains l child) are (Contains-get_or children k 0 lk))).in_range

    pub one_without : (node_of tree child).has_source ≡ false → AreMarked marks (with_source tree (take (k + 1) children))
    one_without none = subst (AreMarked marks) (sym (kept_same (λ m. (node_of tree m).has_source) children k lk none)) so_far

    module _ (source : (node_of tree child).has_source ≡ true) where
      pub one_marked : slice_index_or marks child false ≡ true → AreMarked marks (with_source tree (take (k + 1) children))
      one_marked t =
          subst (AreMarked marks) (sym (kept_more (λ m. (node_of tree m).has_source) children k lk source))
          (All-push (λ m. slice_index_or marks m false ≡ true) (with_source tree (take k children)) child so_far t)

      split_here : source_children tree n ≡ with_source tree (take k children) ++ child ∷ with_source tree (drop (k + 1) children)
      split_here =
          sym all_are
          ∙ ap (with_source tree) (sym (take-append-drop k children) ∙ ap (λ l. take k children ++ l) (drop_more children k 0 lk))
          ∙ filter-append (λ m. (node_of tree m).has_source) (take k children) (child ∷ drop (k + 1) children)
          ∙ ap (λ b. with_source tree (take k children) ++ cond b (child ∷ with_source tree (drop (k + 1) children)) (with_source tree (drop (k + 1) children))) source

      pub first_here : slice_index_or marks child false ≡ false → IsFirstUnmarked marks (source_children tree n) child
      first_here f = record { before = with_source tree (take k children); behind = with_source tree (drop (k + 1) children); split = split_here; marked = so_far; unmarked = f }

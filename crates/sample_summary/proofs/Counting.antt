-- The cells, leaves and entries of a tree of the program, counted by numbers and counted as cells.
use Rattle.std.proofs.Common.{ℕ, ◌≡◌, ◌+◌, ◌<◌, ◌≤◌, inl, inr, List, length, take, get_or, Bool, true, false, cond, not, sym, ap, ◌∙◌, arith}
use Rattle.std.specs.Prelude.{◌==◌, ◌||◌, ◌↔◌, ◌⊎◌, IsTrue, nat_lt, sum_by}
use Rattle.std.specs.List.{range_with_len, count_by}
use Rattle.std.proofs.lemmas.Bool.{ltb-false, le-ltb, eqb-true, eq-eqb, not-true, not_from_false, or_cases, or_left, or_right}
use Rattle.std.proofs.lemmas.List.{length-map}
use Rattle.std.proofs.lemmas.List.FromFn.{length-range_with_len, get_or-range_with_len}
use Rattle.std.proofs.lemmas.List.Sums.{count_by_more_yes, count_by_more_no}
use mathlib.Core.Logic.{⊎_elim}
use Rattle.cell_name.specs.Cell.{square}
use Rattle.cell_name.specs.Square.{Square}
use Rattle.cell_lists.specs.EntryLists.{lists_of, EntryListsModel}
use Rattle.cell_lists.specs.Lists.{AreLists}
use Rattle.cell_lists.specs.ListAt.{list_at}
use Rattle.quadtree.proofs.TreeChildren.{tree_cell_at}
use Rattle.letters.specs.declared.Letter.{Letter}
use Rattle.points.specs.declared.Point.{Point}
use Rattle.quadtree.specs.Tree.{count_in, is_over, AreInGrid, IsTreeCell, IsLeaf}
use Rattle.quadtree.specs.TreeModel.{TreeModel, size, square_of, node_of, IsTreeOf}
use Rattle.tree_field.specs.Lists.{TreeLists, AreTreeLists}
use Rattle.tree_field.proofs.Leaves.{same_test}
use Rattle.tree_field.proofs.Program.{lists_of_tree}
use Rattle.tree_field.proofs.Work.{sum_by_numbers, sum_by_rows}
use Rattle.sample_summary.specs.Summary.{entry_count}

-- ---- the next of the first n numbers
number_at : (n k : ℕ) → k < n → get_or (range_with_len 0 n) k 0 ≡ k
number_at n k lt = omega (arith, get_or-range_with_len 0 n k 0 lt)

pub counted_yes : (p : ℕ → Bool) (n k was now : ℕ) → k < n → was ≡ count_by p (take k (range_with_len 0 n)) → p k ≡ true → now ≡ was + 1 → now ≡ count_by p (take (k + 1) (range_with_len 0 n))
counted_yes p n k was now lt e at_k more =
    more ∙ ap (λ m. m + 1) e ∙ sym (count_by_more_yes p (range_with_len 0 n) k 0 (omega (arith, length-range_with_len 0 n)) (ap p (number_at n k lt) ∙ at_k))

pub counted_no : (p : ℕ → Bool) (n k was now : ℕ) → k < n → was ≡ count_by p (take k (range_with_len 0 n)) → p k ≡ false → now ≡ was → now ≡ count_by p (take (k + 1) (range_with_len 0 n))
counted_no p n k was now lt e at_k same =
    same ∙ e ∙ sym (count_by_more_no p (range_with_len 0 n) k 0 (omega (arith, length-range_with_len 0 n)) (ap p (number_at n k lt) ∙ at_k))

-- ---- whether a cell is a leaf
abbrev is_leaf : List Point → ℕ → Square → Bool
is_leaf points cap c = not (is_over points cap c) || (c.level == c.grid)

leaf_is : (grid : ℕ) (points : List Point) (cap : ℕ) (c : Square) (b : Bool) → IsTreeCell grid points cap c → IsTrue b ↔ IsLeaf grid points cap c → b ≡ is_leaf points cap c
leaf_is grid points cap c b here h = same_test b (is_leaf points cap c) (λ e. passes (h.0 e)) (λ e. h.1 (record { in_tree = here; ends = end e }))
  where
    over : Bool
    over = nat_lt cap (count_in points c)

    passes : IsLeaf grid points cap c → is_leaf points cap c ≡ true
    passes leaf = ⊎_elim
        (λ few. or_left (not over) (c.level == c.grid) (not_from_false over (le-ltb cap (count_in points c) few)))
        (λ last. or_right (not over) (c.level == c.grid) (eq-eqb c.level c.grid (last ∙ sym here.of_grid)))
        leaf.ends

    end : is_leaf points cap c ≡ true → (count_in points c ≤ cap) ⊎ (c.level ≡ grid)
    end e = ⊎_elim
        (λ few. inl (ltb-false cap (count_in points c) (not-true over few)))
        (λ last. inr (eqb-true c.level c.grid last ∙ here.of_grid))
        (or_cases (not over) (c.level == c.grid) e)

module _ (tree : TreeModel) (lists : EntryListsModel) (points : List Point) (cap : ℕ) (these : TreeLists) (inside : AreInGrid tree.grid points) (h : IsTreeOf tree points cap) (are : AreLists tree lists)
    (a : AreTreeLists tree.grid points cap these)
  where
    pub cells_are : size tree ≡ length these.cells
    cells_are = sym (ap length (lists_of_tree tree lists points cap these inside h are a).cells ∙ length-map tree.cells square)

    pub leaves_are : count_by (λ n. (node_of tree n).is_leaf) (range_with_len 0 (size tree)) ≡ count_by (is_leaf points cap) these.cells
    leaves_are = sym (ap (count_by (is_leaf points cap)) (lists_of_tree tree lists points cap these inside h are a).cells
        ∙ sum_by_numbers tree (λ c. cond (is_leaf points cap c) 1 0) (λ n. cond (node_of tree n).is_leaf 1 0)
        (λ n lt. ap (λ (b : Bool). cond {A = ℕ} b 1 0) (sym (leaf_is tree.grid points cap (square_of tree n) (node_of tree n).is_leaf (tree_cell_at tree points cap n h lt) (h.nodes_are n lt).leaf))))

    pub entries_are : (letter : Letter) → sum_by (λ list. length list) (lists_of lists letter) ≡ entry_count these letter
    entries_are letter =
        let of = lists_of_tree tree lists points cap these inside h are a in
        sum_by_rows (lists_of lists letter) (size tree) (λ list. length list) (are.as_many letter)
        ∙ sym (ap (sum_by (λ b. length (these.entries letter b))) of.cells
        ∙ sum_by_numbers tree (λ b. length (these.entries letter b)) (λ n. length (list_at (lists_of lists letter) n)) (λ n lt. ap length (of.entries letter n lt) ∙ length-map (list_at (lists_of lists letter) n) (square_of tree)))

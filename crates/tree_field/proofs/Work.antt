-- The counts of translations and pairs, by the numbers of the cells.
use Rattle.std.proofs.Common.{ℕ, ◌≡◌, ◌+◌, ◌<◌, ◌≤◌, inl, inr, List, [], length, map, Bool, ◌&&◌, refl, sym, ap, ap₂, ◌∙◌, arith}
use Rattle.std.specs.Prelude.{nat_lt, sum_by}
use Rattle.std.specs.List.{range_with_len, count_by}
use Rattle.std.proofs.lemmas.Bool.{lt-ltb, ltb-true, cases_lt}
use Rattle.std.proofs.lemmas.List.{length-map}
use Rattle.std.proofs.lemmas.List.FromFn.{fill_by_all}
use Rattle.std.proofs.lemmas.List.Sums.{count_by-le-length}
use Rattle.std.specs.Prelude.{cond}
use Rattle.cell_name.specs.Cell.{square}
use Rattle.cell_name.specs.Square.{Square, no_square}
use Rattle.cell_lists.specs.ListAt.{list_at}
use Rattle.letters.specs.declared.Letter.TheVariants.{U, V}
use Rattle.limits.proofs.Grids.{grid_positive}
use Rattle.points.specs.declared.Point.{Point}
use Rattle.quadtree.specs.Tree.{AreInGrid, has_target, has_source}
use Rattle.quadtree.specs.TreeModel.{TreeModel, IsTreeOf, squares, size, square_of, node_of}
use Rattle.tree_field.specs.Laws.{TranslationsAreFew}
use Rattle.tree_field.specs.Program.{WorkOfTree}
use Rattle.tree_field.specs.Work.{pairs_between}
use Rattle.tree_field.proofs.Leaves.{same_test}
use Rattle.exact_math.proofs.Lists.{All-from_members, range_below}
use Rattle.tree_field.proofs.Numbers.{first_is_root, level_positive}
use Rattle.tree_field.proofs.Program.{lists_of_tree, nodes_of_tree}
use Rattle.soundness.proofs.Sums.{sum_by-map, sum_by-same}

-- a sum over all cells, by their numbers
pub sum_by_numbers : (tree : TreeModel) (f : Square → ℕ) (g : ℕ → ℕ) → ((n : ℕ) → n < size tree → f (square_of tree n) ≡ g n) → sum_by f (squares tree) ≡ sum_by g (range_with_len 0 (size tree))
sum_by_numbers tree f g same =
    ap (sum_by f) (fill_by_all (square_of tree) (squares tree) (size tree) no_square (length-map tree.cells square) (λ k lt. refl))
    ∙ sum_by-map f (square_of tree) (range_with_len 0 (size tree))
    ∙ sum_by-same (λ n. f (square_of tree n)) g (range_with_len 0 (size tree)) (All-from_members (λ n. f (square_of tree n) ≡ g n) (range_with_len 0 (size tree)) (λ n h. same n (range_below (size tree) n h)))

zero_is : (n : ℕ) → n ≤ 0 → n ≡ 0
zero_is n le = omega arith

-- a sum over the rows of lists
pub sum_by_rows : (rows : List (List ℕ)) (n : ℕ) (f : List ℕ → ℕ) → length rows ≡ n → sum_by f rows ≡ sum_by (λ k. f (list_at rows k)) (range_with_len 0 n)
sum_by_rows rows n f e = ap (sum_by f) (fill_by_all (list_at rows) rows n [] e (λ k lt. refl)) ∙ sum_by-map f (list_at rows) (range_with_len 0 n)

module _ (tree : TreeModel) (points : List Point) (cap : ℕ) (inside : AreInGrid tree.grid points) (h : IsTreeOf tree points cap) where
  positive : 0 < tree.grid
  positive = grid_positive tree.grid h.known_grid

  level_is : (n : ℕ) → n < size tree → nat_lt 0 (square_of tree n).level ≡ nat_lt 0 n
  level_is n lt = same_test _ _ (λ e. lt-ltb 0 n (not_first n (ltb-true 0 (square_of tree n).level e)))
      (λ e. lt-ltb 0 (square_of tree n).level (level_positive tree.grid points cap (squares tree) positive inside h.cells_are n (ltb-true 0 n e) (omega (arith, length-map tree.cells square))))
    where
      not_first : (n : ℕ) → 0 < (square_of tree n).level → 0 < n
      not_first n lo = elim (cases_lt 0 n) [ inl lt ↦ lt | inr le ↦ absurd (let e : (square_of tree n).level ≡ 0 = ap (λ k. (square_of tree k).level) (zero_is n le) ∙ ap (λ (s : Square). s.level) (first_is_root tree.grid points cap (squares tree) positive inside h.cells_are (omega (arith, length-map tree.cells square))) in omega arith) ]

  -- the cells below the root with a source, and with a target
  pub sources_counted : count_by (λ c. nat_lt 0 c.level && has_source points c) (squares tree) ≡ count_by (λ n. nat_lt 0 n && (node_of tree n).has_source) (range_with_len 0 (size tree))
  sources_counted = sum_by_numbers tree _ _ (λ n lt. ap₂ (λ (a b : Bool). cond {A = ℕ} (a && b) 1 0) (level_is n lt) (sym (nodes_of_tree tree points cap inside h n lt).source))

  targets_counted : count_by (λ c. nat_lt 0 c.level && has_target points c) (squares tree) ≡ count_by (λ n. nat_lt 0 n && (node_of tree n).has_target) (range_with_len 0 (size tree))
  targets_counted = sum_by_numbers tree _ _ (λ n lt. ap₂ (λ (a b : Bool). cond {A = ℕ} (a && b) 1 0) (level_is n lt) (sym (nodes_of_tree tree points cap inside h n lt).target))

pub work_of_tree : WorkOfTree
work_of_tree tree lists points cap these inside h are a =
    let of = lists_of_tree tree lists points cap these inside h are a in
    record {
      translations_are = ap₂ (λ m n. m + n) (ap (count_by (λ c. nat_lt 0 c.level && has_source points c)) of.cells ∙ sources_counted tree points cap inside h)
          (ap₂ (λ m n. m + n) (ap (sum_by (λ b. length (these.entries V b))) of.cells ∙ converted (of.entries V)) (ap (count_by (λ c. nat_lt 0 c.level && has_target points c)) of.cells ∙ targets_counted tree points cap inside h));
      pairs_are = ap (sum_by (λ b. sum_by (pairs_between points b) (these.entries U b))) of.cells ∙ sum_by_numbers tree _ _ (λ n lt.
          ap (sum_by (pairs_between points (square_of tree n))) (of.entries U n lt) ∙ sum_by-map (pairs_between points (square_of tree n)) (square_of tree) (list_at lists.u n));
    }
  where
    converted : ((n : ℕ) → n < size tree → these.entries V (square_of tree n) ≡ map (square_of tree) (list_at lists.v n)) → sum_by (λ b. length (these.entries V b)) (squares tree) ≡ sum_by (λ list. length list) lists.v
    converted e = sum_by_numbers tree _ _ (λ n lt. ap length (e n lt) ∙ length-map (list_at lists.v n) (square_of tree)) ∙ sym (sum_by_rows lists.v (size tree) (λ list. length list) (are.as_many V))

pub translations_are_few : TranslationsAreFew
translations_are_few points lists =
    let m = count_by-le-length (λ c. nat_lt 0 c.level && has_source points c) lists.cells in
    let n = count_by-le-length (λ c. nat_lt 0 c.level && has_target points c) lists.cells in
    omega (arith, m, n)

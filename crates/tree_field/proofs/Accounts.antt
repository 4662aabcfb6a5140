-- The field of a list as an accounting, and the sums over its entries and sources as sums over cells and points.
use Rattle.std.proofs.Common.{ℕ, ◌≡◌, ◌≢◌, ◌<◌, List, [], ◌++◌, length, map, Bool, true, false, cond, ◌&&◌, filter, refl, sym, ap, ap₂, ◌∙◌, append-nil}
use Rattle.std.specs.Prelude.{◌==◌, All, Contains, sum_by}
use Rattle.std.proofs.lemmas.Bool.{and_right, and_from, and_left, ne_eqb, eq-eqb}
use Rattle.std.proofs.lemmas.List.Elements.{All-append, All-map, All-contains, Contains-get_or, filter-append}
use Rattle.exact_math.specs.Ends.{BoxEnds}
use Rattle.cell_name.specs.Square.{Square, no_square}
use Rattle.cell_lists.proofs.OneEntry.{in_tree_of}
use Rattle.letters.specs.declared.Entry.{Entry}
use Rattle.letters.specs.declared.Letter.{Letter}
use Rattle.letters.specs.declared.Letter.TheVariants.{U, V, W, X}
use Rattle.points.specs.Points.{is_source}
use Rattle.points.specs.declared.Point.{Point}
use Rattle.quadtree.specs.Tree.{AreInGrid, IsTreeCell, is_source_in}
use Rattle.soundness.specs.Accounts.{LeafSource, Accounting, under, is_letter, sources_under, entries_of}
use Rattle.soundness.specs.Computed.{total_box}
pub use Rattle.tree_field.specs.Accounting.{leaf_number, leaf_source, leaf_target, sources, entry, entries_from, of_cell, accounting}
use Rattle.tree_field.specs.Lists.{TreeLists, AreTreeLists}
use Rattle.tree_field.specs.Field.{sources_in}
use Rattle.quadtree.proofs.Ascending.{ascending_differ}
use Rattle.tree_field.proofs.Leaves.{under_is_holding}
use Rattle.exact_math.proofs.Lists.{All-from_members, filter-map, filter-filter, filter_same, filter_none, filter_whole}
use Rattle.tree_field.proofs.Members.{filter_piece}
use Rattle.tree_field.proofs.Numbers.{number_among, cell_at, above, tree_cell, number_below, cell_of_number, number_of_cell}
use Rattle.soundness.proofs.Sums.{total_box-map, total_box-same, sum_by-map, sum_by-same}

module _ (lists : TreeLists) where
  -- a fact of all entries of a cell, from one of each
  pub All-of_cell : (Q : Entry → Type 0) (b : Square) → ((letter : Letter) → All (λ c. Q (entry lists letter b c)) (lists.entries letter b)) → All Q (of_cell lists b)
  All-of_cell Q b h =
      All-append Q (entries_from lists U b) (entries_from lists V b ++ (entries_from lists W b ++ entries_from lists X b)) (All-map Q (entry lists U b) (lists.entries U b) (h U))
      (All-append Q (entries_from lists V b) (entries_from lists W b ++ entries_from lists X b) (All-map Q (entry lists V b) (lists.entries V b) (h V))
      (All-append Q (entries_from lists W b) (entries_from lists X b) (All-map Q (entry lists W b) (lists.entries W b) (h W)) (All-map Q (entry lists X b) (lists.entries X b) (h X))))

module _ (grid : ℕ) (points : List Point) (cap P : ℕ) (lists : TreeLists) (positive : 0 < grid) (inside : AreInGrid grid points) (are : AreTreeLists grid points cap lists) where
  abbrev given : Accounting
  given = accounting grid points cap P lists

  abbrev cell : ℕ → Square
  cell n = cell_at lists.cells n

  -- ---- the sources under a node are those in its cell
  pub sources_under-cell : (n : ℕ) → n < length lists.cells → sources_under given n ≡ map (leaf_source grid points cap lists) (sources_in points (cell n))
  sources_under-cell n lt =
      filter-map (λ (x : LeafSource). under (above lists.cells) x.leaf n) (leaf_source grid points cap lists) (sources points)
      ∙ ap (map (leaf_source grid points cap lists))
      (filter-filter (λ p. under (above lists.cells) (leaf_number grid points cap lists p) n) (λ p. is_source p.kind) points
      ∙ filter_same (λ p. is_source p.kind && under (above lists.cells) (leaf_number grid points cap lists p) n) (is_source_in (cell n)) points
      (All-from_members (λ p. (is_source p.kind && under (above lists.cells) (leaf_number grid points cap lists p) n) ≡ is_source_in (cell n) p) points
      (λ p h. ap (λ b. is_source p.kind && b) (under_is_holding grid points cap lists.cells positive inside are.cells_are p h n lt))))

  pub over_sources : (g : Point → BoxEnds) (n : ℕ) → n < length lists.cells → total_box (λ (x : LeafSource). g x.point) (sources_under given n) ≡ total_box g (sources_in points (cell n))
  over_sources g n lt = ap (total_box (λ (x : LeafSource). g x.point)) (sources_under-cell n lt) ∙ total_box-map (λ (x : LeafSource). g x.point) (leaf_source grid points cap lists) (sources_in points (cell n))

  pub sum_over_sources : (g : Point → ℕ) (n : ℕ) → n < length lists.cells → sum_by (λ (x : LeafSource). g x.point) (sources_under given n) ≡ sum_by g (sources_in points (cell n))
  sum_over_sources g n lt = ap (sum_by (λ (x : LeafSource). g x.point)) (sources_under-cell n lt) ∙ sum_by-map (λ (x : LeafSource). g x.point) (leaf_source grid points cap lists) (sources_in points (cell n))

  -- ---- the entries of a node are those of its cell
  abbrev of_node : Letter → ℕ → Entry → Bool
  of_node letter n e = is_letter letter e.letter && (n == e.b)

  other_cell : (letter : Letter) (n : ℕ) (b : Square) → n < length lists.cells → Contains lists.cells b → b ≢ cell n → filter (of_node letter n) (of_cell lists b) ≡ []
  other_cell letter n b lt h other =
      filter_none (of_node letter n) (of_cell lists b)
      (All-of_cell lists (λ e. of_node letter n e ≡ false) b (λ l. All-from_members (λ c. of_node letter n (entry lists l b c) ≡ false) (lists.entries l b)
      (λ c m. and_right (is_letter letter l) (n == number_among lists.cells b) (ne_eqb n (number_among lists.cells b) (λ e. other (sym (ap cell e ∙ cell_of_number grid points cap lists.cells positive inside are.cells_are b (All-contains (IsTreeCell grid points cap) lists.cells b are.cells_are.each h))))))))

  piece : (letter l : Letter) (n : ℕ) → n < length lists.cells → filter (of_node letter n) (entries_from lists l (cell n)) ≡ cond (is_letter letter l) (entries_from lists l (cell n)) []
  piece letter l n lt = step (is_letter letter l) refl
    where
      same : (n == number_among lists.cells (cell n)) ≡ true
      same = eq-eqb n (number_among lists.cells (cell n)) (sym (number_of_cell grid points cap lists.cells positive inside are.cells_are n lt))

      step : (b : Bool) → is_letter letter l ≡ b → filter (of_node letter n) (entries_from lists l (cell n)) ≡ cond b (entries_from lists l (cell n)) []
      step true e = filter_whole (of_node letter n) (entries_from lists l (cell n)) (All-map (λ e. of_node letter n e ≡ true) (entry lists l (cell n)) (lists.entries l (cell n))
          (All-from_members (λ c. of_node letter n (entry lists l (cell n) c) ≡ true) (lists.entries l (cell n)) (λ c m. and_from (is_letter letter l) (n == number_among lists.cells (cell n)) e same)))
      step false e = filter_none (of_node letter n) (entries_from lists l (cell n)) (All-map (λ e. of_node letter n e ≡ false) (entry lists l (cell n)) (lists.entries l (cell n))
          (All-from_members (λ c. of_node letter n (entry lists l (cell n) c) ≡ false) (lists.entries l (cell n)) (λ c m. and_left (is_letter letter l) (n == number_among lists.cells (cell n)) e)))

  abbrev from : ℕ → Letter → List Entry
  from n l = entries_from lists l (cell n)

  kept : (letter : Letter) (from : Letter → List Entry) → cond (is_letter letter U) (from U) [] ++ (cond (is_letter letter V) (from V) [] ++ (cond (is_letter letter W) (from W) [] ++ cond (is_letter letter X) (from X) [])) ≡ from letter
  kept U from = append-nil (from U)
  kept V from = append-nil (from V)
  kept W from = append-nil (from W)
  kept X from = refl

  pub entries_of-cell : (letter : Letter) (n : ℕ) → n < length lists.cells → entries_of given letter n ≡ entries_from lists letter (cell n)
  entries_of-cell letter n lt =
      filter_piece (of_node letter n) (of_cell lists) lists.cells (cell n) (ascending_differ lists.cells are.cells_are.ascending) (Contains-get_or lists.cells n no_square lt) (λ b h other. other_cell letter n b lt h other)
      ∙ filter-append (of_node letter n) (from n U) (from n V ++ (from n W ++ from n X))
      ∙ ap₂ (λ k l. k ++ l) (piece letter U n lt) (filter-append (of_node letter n) (from n V) (from n W ++ from n X)
      ∙ ap₂ (λ k l. k ++ l) (piece letter V n lt) (filter-append (of_node letter n) (from n W) (from n X)
      ∙ ap₂ (λ k l. k ++ l) (piece letter W n lt) (piece letter X n lt)))
      ∙ kept letter (from n)

  -- the cells of the entries are cells of the tree
  pub second_in_tree : (letter : Letter) (n : ℕ) → n < length lists.cells → All (IsTreeCell grid points cap) (lists.entries letter (cell n))
  second_in_tree letter n lt k d h =
      let e = (are.entries_are letter (cell n) (tree_cell grid points cap lists.cells positive inside are.cells_are n lt)).each k d h in
      (in_tree_of grid points cap letter (cell n) _ e.pair).1

  pub over_entries : (letter : Letter) (n : ℕ) → n < length lists.cells → (G : ℕ → BoxEnds) (F : Square → BoxEnds) → ((m : ℕ) → m < length lists.cells → G m ≡ F (cell m))
      → total_box (λ (e : Entry). G e.c) (entries_of given letter n) ≡ total_box F (lists.entries letter (cell n))
  over_entries letter n lt G F same =
      ap (total_box (λ (e : Entry). G e.c)) (entries_of-cell letter n lt)
      ∙ total_box-map (λ (e : Entry). G e.c) (entry lists letter (cell n)) (lists.entries letter (cell n))
      ∙ total_box-same (λ c. G (number_among lists.cells c)) F (lists.entries letter (cell n))
      (λ k d h. let t = second_in_tree letter n lt k d h in same _ (number_below grid points cap lists.cells positive inside are.cells_are _ t) ∙ ap F (cell_of_number grid points cap lists.cells positive inside are.cells_are _ t))

  pub sum_over_entries : (letter : Letter) (n : ℕ) → n < length lists.cells → (G : ℕ → ℕ) (F : Square → ℕ) → ((m : ℕ) → m < length lists.cells → G m ≡ F (cell m))
      → sum_by (λ (e : Entry). G e.c) (entries_of given letter n) ≡ sum_by F (lists.entries letter (cell n))
  sum_over_entries letter n lt G F same =
      ap (sum_by (λ (e : Entry). G e.c)) (entries_of-cell letter n lt)
      ∙ sum_by-map (λ (e : Entry). G e.c) (entry lists letter (cell n)) (lists.entries letter (cell n))
      ∙ sum_by-same (λ c. G (number_among lists.cells c)) F (lists.entries letter (cell n))
      (λ k d h. let t = second_in_tree letter n lt k d h in same _ (number_below grid points cap lists.cells positive inside are.cells_are _ t) ∙ ap F (cell_of_number grid points cap lists.cells positive inside are.cells_are _ t))

-- The accounting of a field by the numbers of the program's tree and lists.
use Rattle.std.proofs.Common.{ℕ, ◌≡◌, ◌+◌, ◌<◌, suc, inl, inr, List, [], ◌∷◌, ◌++◌, length, map, Bool, true, false, cond, ◌&&◌, ◌||◌, not, filter, Some, refl, sym, ap, ap₂, ◌∙◌, arith}
use Rattle.std.specs.Prelude.{All, Contains, slice_get}
use Rattle.std.specs.List.{flat_map, list_any, range_with_len}
use Rattle.std.proofs.lemmas.Bool.{cases_lt}
use Rattle.std.proofs.lemmas.List.{length-map}
use Rattle.std.proofs.lemmas.List.Elements.{All-tail}
use Rattle.std.proofs.lemmas.Option.{get_or_from_slice_get, slice_get_within}
use Rattle.accounting_text.specs.Written.{leaves, has_source_under}
use Rattle.cell_lists.specs.EntryLists.{EntryListsModel, lists_of}
use Rattle.cell_lists.specs.ListAt.{list_at}
use Rattle.cell_lists.specs.Lists.{AreLists}
use Rattle.cell_name.specs.Cell.{square}
use Rattle.cell_name.specs.Square.{Square, no_square, holds_test}
use Rattle.exact_math.proofs.Lists.{later}
use Rattle.letters.specs.declared.Entry.{Entry}
use Rattle.letters.specs.declared.Letter.{Letter}
use Rattle.letters.specs.declared.Letter.TheVariants.{U, V, W, X}
use Rattle.points.specs.Points.{is_source}
use Rattle.points.specs.declared.Point.{Point}
use Rattle.quadtree.specs.Tree.{AreInGrid, has_source, has_target}
use Rattle.quadtree.specs.TreeModel.{TreeModel, squares, size, square_of, node_of, leaf_of, IsTreeOf}
use Rattle.soundness.specs.Accounts.{Accounting, LeafSource, LeafTarget, under, has_target_under}
use Rattle.tree_field.proofs.Leaves.{under_is_holding}
use Rattle.tree_field.proofs.Numbers.{above_first, above_root, cell_above, number_of_cell, same_number}
use Rattle.tree_field.proofs.Program.{leaves_of_tree, lists_of_tree}
use Rattle.tree_field.specs.Accounting.{above, accounting, cell_at, entries_from, entry, leaf_number, leaf_source, leaf_target, number_among, of_cell, sources}
use Rattle.tree_field.specs.Field.{targets}
use Rattle.tree_field.specs.Lists.{TreeLists, AreTreeLists}

-- ---- tests of lists
list_any-image : {A B : Type 0} (p : B → Bool) (f : A → B) (xs : List A) → list_any p (map f xs) ≡ list_any (λ x. p (f x)) xs
list_any-image p f [] = refl
list_any-image p f (x ∷ xs) = ap (λ b. p (f x) || b) (list_any-image p f xs)

list_any-filter : {A : Type 0} (p q : A → Bool) (xs : List A) → list_any p (filter q xs) ≡ list_any (λ x. q x && p x) xs
list_any-filter p q [] = refl
list_any-filter p q (x ∷ xs) = step (q x) (list_any-filter p q xs)
  where
    step : (b : Bool) → list_any p (filter q xs) ≡ list_any (λ x. q x && p x) xs → list_any p (cond b (x ∷ filter q xs) (filter q xs)) ≡ ((b && p x) || list_any (λ x. q x && p x) xs)
    step true e = ap (λ b. p x || b) e
    step false e = e

list_any-same : {A : Type 0} (p q : A → Bool) (xs : List A) → ((x : A) → Contains xs x → p x ≡ q x) → list_any p xs ≡ list_any q xs
list_any-same p q [] h = refl
list_any-same p q (x ∷ xs) h = ap₂ (λ a b. a || b) (h x (0, omega arith, refl)) (list_any-same p q xs (λ y m. h y (later x y xs m)))

-- ---- lists by numbers
pub map-numbers : {A B : Type 0} (f : A → B) (g : ℕ → B) (xs : List A) (a : ℕ) → ((k : ℕ) (x : A) → slice_get xs k ≡ Some x → f x ≡ g (a + k)) → map f xs ≡ map g (range_with_len a (length xs))
map-numbers f g [] a h = refl
map-numbers f g (x ∷ xs) a h =
    ap₂ (λ y ys. y ∷ ys) (h 0 x refl ∙ ap g (omega arith)) (map-numbers f g xs (a + 1) (λ k y e. h (suc k) y e ∙ ap g (omega arith)))

pub flat_map-numbers : {A B : Type 0} (f : A → List B) (g : ℕ → List B) (xs : List A) (a : ℕ) → ((k : ℕ) (x : A) → slice_get xs k ≡ Some x → f x ≡ g (a + k))
    → flat_map f xs ≡ flat_map g (range_with_len a (length xs))
flat_map-numbers f g [] a h = refl
flat_map-numbers f g (x ∷ xs) a h =
    ap₂ (λ y ys. y ++ ys) (h 0 x refl ∙ ap g (omega arith)) (flat_map-numbers f g xs (a + 1) (λ k y e. h (suc k) y e ∙ ap g (omega arith)))

-- ---- the leaves of points
leaves-source : (p : Point) (ps : List Point) (x : LeafSource) (xs : List LeafSource) (ts : List LeafTarget) → is_source p.kind ≡ true
    → leaves (p ∷ ps) (x ∷ xs) ts ≡ x.leaf ∷ leaves ps xs ts
leaves-source p ps x xs [] e = refl
leaves-source p ps x xs (t ∷ ts) e = ap (λ b. cond b (x.leaf ∷ leaves ps xs (t ∷ ts)) (t.leaf ∷ leaves ps (x ∷ xs) ts)) e

leaves-target : (p : Point) (ps : List Point) (xs : List LeafSource) (t : LeafTarget) (ts : List LeafTarget) → is_source p.kind ≡ false
    → leaves (p ∷ ps) xs (t ∷ ts) ≡ t.leaf ∷ leaves ps xs ts
leaves-target p ps [] t ts e = refl
leaves-target p ps (x ∷ xs) t ts e = ap (λ b. cond b (x.leaf ∷ leaves ps xs (t ∷ ts)) (t.leaf ∷ leaves ps (x ∷ xs) ts)) e

-- where each source and each target has the leaf that f gives its point
pub leaves-are : (f : Point → ℕ) (s : Point → LeafSource) (t : Point → LeafTarget) → ((p : Point) → (s p).leaf ≡ f p) → ((p : Point) → (t p).leaf ≡ f p) → (ps : List Point)
    → leaves ps (map s (sources ps)) (map t (targets ps)) ≡ map f ps
leaves-are f s t hs ht [] = refl
leaves-are f s t hs ht (p ∷ ps) = step (is_source p.kind) refl (leaves-are f s t hs ht ps)
  where
    step : (b : Bool) → is_source p.kind ≡ b → leaves ps (map s (sources ps)) (map t (targets ps)) ≡ map f ps
        → leaves (p ∷ ps) (map s (cond b (p ∷ sources ps) (sources ps))) (map t (cond (not b) (p ∷ targets ps) (targets ps))) ≡ f p ∷ map f ps
    step true e rest = leaves-source p ps (s p) (map s (sources ps)) (map t (targets ps)) e ∙ ap₂ (λ n ns. n ∷ ns) (hs p) rest
    step false e rest = leaves-target p ps (map s (sources ps)) (t p) (map t (targets ps)) e ∙ ap₂ (λ n ns. n ∷ ns) (ht p) rest

-- ---- what is under a node
module _ (grid : ℕ) (points : List Point) (cap P : ℕ) (lists : TreeLists) (positive : 0 < grid) (inside : AreInGrid grid points) (are : AreTreeLists grid points cap lists) where
  abbrev given : Accounting
  given = accounting grid points cap P lists

  abbrev cell : ℕ → Square
  cell n = cell_at lists.cells n

  abbrev is_under : ℕ → Point → Bool
  is_under n p = under (above lists.cells) (leaf_number grid points cap lists p) n

  -- some of the points that pass a test is under a node exactly where it is in the node's cell
  under-cell : (q : Point → Bool) (n : ℕ) → n < length lists.cells → list_any (is_under n) (filter q points) ≡ list_any (λ p. q p && holds_test (cell n) p.x p.y) points
  under-cell q n lt =
      list_any-filter (is_under n) q points
      ∙ list_any-same (λ p. q p && is_under n p) (λ p. q p && holds_test (cell n) p.x p.y) points
      (λ p h. ap (λ b. q p && b) (under_is_holding grid points cap lists.cells positive inside are.cells_are p h n lt))

  pub source_under-cell : (n : ℕ) → n < length lists.cells → has_source_under given n ≡ has_source points (cell n)
  source_under-cell n lt =
      list_any-image (λ (x : LeafSource). under (above lists.cells) x.leaf n) (leaf_source grid points cap lists) (sources points)
      ∙ under-cell (λ p. is_source p.kind) n lt

  pub target_under-cell : (n : ℕ) → n < length lists.cells → has_target_under given n ≡ has_target points (cell n)
  target_under-cell n lt =
      list_any-image (λ (t : LeafTarget). under (above lists.cells) t.leaf n) (leaf_target grid points cap P lists) (targets points)
      ∙ under-cell (λ p. not (is_source p.kind)) n lt

  pub leaves-numbers : leaves points given.sources given.targets ≡ map (leaf_number grid points cap lists) points
  leaves-numbers = leaves-are (leaf_number grid points cap lists) (leaf_source grid points cap lists) (leaf_target grid points cap P lists) (λ p. refl) (λ p. refl) points

-- ---- a tree of the program
-- the entries of a cell by their numbers, one letter after the other
abbrev pub listed_entries : EntryListsModel → Letter → ℕ → List Entry
listed_entries lists letter n = map (λ c. record { letter = letter; b = n; c = c }) (list_at (lists_of lists letter) n)

abbrev pub entries_at : EntryListsModel → ℕ → List Entry
entries_at lists n = listed_entries lists U n ++ (listed_entries lists V n ++ (listed_entries lists W n ++ listed_entries lists X n))

module _ (tree : TreeModel) (lists : EntryListsModel) (points : List Point) (cap : ℕ) (these : TreeLists) (positive : 0 < tree.grid) (inside : AreInGrid tree.grid points)
    (is : IsTreeOf tree points cap) (listed : AreLists tree lists) (are : AreTreeLists tree.grid points cap these)
  where
    pub cells-are : these.cells ≡ squares tree
    cells-are = (lists_of_tree tree lists points cap these inside is listed are).cells

    many : length (squares tree) ≡ size tree
    many = length-map tree.cells square

    -- the number of a cell of the tree is its number
    number-at : (n : ℕ) → n < size tree → number_among these.cells (square_of tree n) ≡ n
    number-at n lt = ap (λ cs. number_among cs (square_of tree n)) cells-are ∙ number_of_cell tree.grid points cap (squares tree) positive inside is.cells_are n (omega (arith, many))

    -- the parent of a node is that of the program
    pub parent-at : (n : ℕ) → n < size tree → above these.cells n ≡ (node_of tree n).parent
    parent-at n lt = ap (λ cs. above cs n) cells-are ∙ elim (cases_lt 0 n) [ inl lo ↦ below lo | inr le ↦ first (omega arith) ]
      where
        first : n ≡ 0 → above (squares tree) n ≡ (node_of tree n).parent
        first e = ap (above (squares tree)) e ∙ above_root tree.grid points cap (squares tree) positive inside is.cells_are ∙ sym ((is.nodes_are n lt).parent_is.of_first e)

        below : 0 < n → above (squares tree) n ≡ (node_of tree n).parent
        below lo =
            let node = (is.nodes_are n lt).parent_is in
            let before = above_first tree.grid points cap (squares tree) positive inside is.cells_are n lo in
            same_number tree.grid points cap (squares tree) positive inside is.cells_are (above (squares tree) n) (node_of tree n).parent (omega (arith, many, before)) (omega (arith, many, node.in_range))
            (cell_above tree.grid points cap (squares tree) positive inside is.cells_are n lo (omega (arith, many)) ∙ sym (node.of_others lo))

    -- and so is the leaf of a point
    leaf-at : (k : ℕ) (p : Point) → slice_get points k ≡ Some p → leaf_number tree.grid points cap these p ≡ leaf_of tree k
    leaf-at k p e = ap (number_among these.cells) (leaves_of_tree tree points cap inside is k p e) ∙ number-at (leaf_of tree k) (is.leaves_are k p e).in_range

    pub leaves-at : map (leaf_number tree.grid points cap these) points ≡ map (leaf_of tree) (range_with_len 0 (length points))
    leaves-at = map-numbers (leaf_number tree.grid points cap these) (leaf_of tree) points 0 (λ k p e. leaf-at k p e ∙ ap (leaf_of tree) (omega arith))

    entries-from : (letter : Letter) (n : ℕ) → n < size tree → entries_from these letter (square_of tree n) ≡ listed_entries lists letter n
    entries-from letter n lt =
        ap (map (entry these letter (square_of tree n))) ((lists_of_tree tree lists points cap these inside is listed are).entries letter n lt)
        ∙ numbered (list_at (lists_of lists letter) n) (listed.each points cap inside is letter n lt).numbers
      where
        numbered : (cs : List ℕ) → All (λ c. c < size tree) cs → map (entry these letter (square_of tree n)) (map (square_of tree) cs) ≡ map (λ c. record { letter = letter; b = n; c = c }) cs
        numbered [] h = refl
        numbered (c ∷ cs) h =
            ap₂ (λ e es. e ∷ es) (ap₂ (λ b d. record { letter = letter; b = b; c = d }) (number-at n lt) (number-at c (h 0 c (omega arith)))) (numbered cs (All-tail (λ c. c < size tree) c cs h))

    entries-cell : (n : ℕ) → n < size tree → of_cell these (square_of tree n) ≡ entries_at lists n
    entries-cell n lt =
        ap₂ (λ xs ys. xs ++ ys) (entries-from U n lt) (ap₂ (λ xs ys. xs ++ ys) (entries-from V n lt) (ap₂ (λ xs ys. xs ++ ys) (entries-from W n lt) (entries-from X n lt)))

    -- all entries, cell by cell
    pub entries-numbers : flat_map (of_cell these) these.cells ≡ flat_map (entries_at lists) (range_with_len 0 (size tree))
    entries-numbers =
        ap (flat_map (of_cell these)) cells-are
        ∙ flat_map-numbers (of_cell these) (entries_at lists) (squares tree) 0 (λ k b e. let at = cell-found k b e in ap (of_cell these) (sym at.1) ∙ entries-cell k at.0 ∙ ap (entries_at lists) (omega arith))
        ∙ ap (λ n. flat_map (entries_at lists) (range_with_len 0 n)) many
      where
        cell-found : (k : ℕ) (b : Square) → slice_get (squares tree) k ≡ Some b → (k < size tree) × (square_of tree k ≡ b)
        cell-found k b e = (omega (arith, slice_get_within (squares tree) k b e, length-map tree.cells square), get_or_from_slice_get (squares tree) k b no_square e)

-- The sections of the certificate of a field, by the numbers of the program.
use Rattle.std.proofs.Common.{ℕ, ◌≡◌, ◌+◌, ◌<◌, suc, List, [], ◌∷◌, ◌++◌, length, map, Bool, true, cond, Some, refl, sym, ap, ap₂, ◌∙◌, subst, arith}
use Rattle.std.specs.Prelude.{IsTrue, slice_get, sum_by}
use Rattle.std.specs.List.{flat_map, range_with_len}
use Rattle.std.proofs.lemmas.List.{length-append, length-map}
use Rattle.std.proofs.lemmas.List.Concat.{length-flat_map}
use Rattle.std.proofs.lemmas.List.Folds.{flat_map-map}
use Rattle.std.proofs.lemmas.List.Sums.{sum_by-cons}
use Rattle.std.proofs.lemmas.Option.{get_or_from_slice_get}
use Rattle.accounting_text.specs.Written.{node_line, at_line, multipole_line, entry_line, local_line, given_target_line, has_source_under, leaves, numbers}
use Rattle.cell_lists.specs.EntryLists.{EntryListsModel, lists_of}
use Rattle.cell_lists.specs.ListAt.{list_at}
use Rattle.cert_text.specs.Lines.{line_bytes}
use Rattle.complex_box.specs.Box.{box_ends}
use Rattle.cell_name.specs.Cell.{square}
use Rattle.cell_name.specs.Square.{Square}
use Rattle.exact_math.specs.Ends.{BoxEnds, zero_box}
use Rattle.field_basis.specs.Place.{place_at}
use Rattle.field_solve.specs.Field.{IsSolved}
use Rattle.field_solve.specs.Parts.{FieldParts}
use Rattle.letters.specs.declared.Letter.{Letter}
use Rattle.letters.specs.declared.Letter.TheVariants.{U, V, W, X}
use Rattle.points.specs.Points.{place}
use Rattle.points.specs.declared.Point.{Point}
use Rattle.quadtree.specs.Tree.{AreInGrid, has_source, has_target}
use Rattle.quadtree.specs.TreeModel.{TreeModel, IsTreeOf, leaf_of, node_of, size, square_of, squares}
use Rattle.row_recursions.specs.Rows.{AreSameRows, row_of}
use Rattle.soundness.specs.Accounts.{Accounting, LeafTarget, has_target_under}
use Rattle.tree_field.proofs.Program.{nodes_of_tree}
use Rattle.tree_field.specs.Accounting.{accounting, cell_at, leaf_target, radius_for_targets, row_for_targets}
use Rattle.tree_field.specs.Field.{local_radius, local_row, multipole_row, target_box, targets}
use Rattle.tree_field.specs.Lists.{TreeLists, AreTreeLists}
use Rattle.field_certificate.specs.ProgramLines.{at_text, box_text, entries_of, entries_text, listed_entry, local_text, multipole_text, node_text, texts, total_of}
use Rattle.field_certificate.proofs.FieldNumbers.{cells-are, entries-numbers, entries_at, leaves-at, leaves-numbers, listed_entries, parent-at, source_under-cell, target_under-cell}
use Rattle.field_certificate.proofs.Whole.{boxes-lines, entries-lines, local_line-same, multipole_line-same, texts-same}

-- ---- sums by numbers
sum-numbers : {A : Type 0} (f : A → ℕ) (g : ℕ → ℕ) (xs : List A) (a : ℕ) → ((k : ℕ) (x : A) → slice_get xs k ≡ Some x → f x ≡ g (a + k)) → sum_by f xs ≡ sum_by g (range_with_len a (length xs))
sum-numbers f g [] a h = refl
sum-numbers f g (x ∷ xs) a h =
    sum_by-cons f x xs
    ∙ ap₂ (λ m n. m + n) (h 0 x refl ∙ ap g (omega arith)) (sum-numbers f g xs (a + 1) (λ k y e. h (suc k) y e ∙ ap g (omega arith)))
    ∙ sym (sum_by-cons g a (range_with_len (a + 1) (length xs)))

total-numbers : (lists : EntryListsModel) (letter : Letter) → total_of lists letter ≡ sum_by (λ n. length (list_at (lists_of lists letter) n)) (range_with_len 0 (length (lists_of lists letter)))
total-numbers lists letter =
    sum-numbers (λ list. length list) (λ n. length (list_at (lists_of lists letter) n)) (lists_of lists letter) 0
    (λ k x e. ap length (sym (get_or_from_slice_get (lists_of lists letter) k x [] e)) ∙ ap (λ n. length (list_at (lists_of lists letter) n)) (omega arith))

sum-four : (f u v w x : ℕ → ℕ) (ns : List ℕ) → ((n : ℕ) → f n ≡ u n + v n + w n + x n) → sum_by f ns ≡ sum_by u ns + sum_by v ns + sum_by w ns + sum_by x ns
sum-four f u v w x [] h = refl
sum-four f u v w x (n ∷ ns) h =
    omega (arith, h n, sum-four f u v w x ns h, sum_by-cons f n ns, sum_by-cons u n ns, sum_by-cons v n ns, sum_by-cons w n ns, sum_by-cons x n ns)

many-listed : (lists : EntryListsModel) (letter : Letter) (n : ℕ) → length (listed_entries lists letter n) ≡ length (list_at (lists_of lists letter) n)
many-listed lists letter n = length-map (list_at (lists_of lists letter) n) (listed_entry letter n)

many-entries : (lists : EntryListsModel) (n : ℕ)
    → length (entries_at lists n) ≡ length (list_at (lists_of lists U) n) + length (list_at (lists_of lists V) n) + length (list_at (lists_of lists W) n) + length (list_at (lists_of lists X) n)
many-entries lists n =
    let u = listed_entries lists U n in
    let v = listed_entries lists V n in
    let w = listed_entries lists W n in
    let x = listed_entries lists X n in
    omega (arith, length-append u (v ++ (w ++ x)), length-append v (w ++ x), length-append w x, many-listed lists U n, many-listed lists V n, many-listed lists W n, many-listed lists X n)

module _ (points : List Point) (cap P : ℕ) (f : FieldParts) (these : TreeLists) (positive : 0 < f.basis.tree.grid) (inside : AreInGrid f.basis.tree.grid points) (solved : IsSolved points cap P f)
    (are : AreTreeLists f.basis.tree.grid points cap these)
  where
    abbrev A : Accounting
    A = accounting f.basis.tree.grid points cap P these

    abbrev tree : TreeModel
    tree = f.basis.tree

    cells : these.cells ≡ squares tree
    cells = cells-are tree f.basis.lists points cap these positive inside solved.is_tree solved.lists_are are

    pub nodes-many : A.nodes ≡ size tree
    nodes-many = ap length cells ∙ length-map tree.cells square

    cell-at : (n : ℕ) → cell_at these.cells n ≡ square_of tree n
    cell-at n = ap (λ cs. cell_at cs n) cells

    has-source : (n : ℕ) → n < A.nodes → has_source_under A n ≡ (node_of tree n).has_source
    has-source n lt =
        source_under-cell tree.grid points cap P these positive inside are n lt ∙ ap (has_source points) (cell-at n)
        ∙ sym (nodes_of_tree tree points cap inside solved.is_tree n (omega (arith, nodes-many))).source

    has-target : (n : ℕ) → n < A.nodes → has_target_under A n ≡ (node_of tree n).has_target
    has-target n lt =
        target_under-cell tree.grid points cap P these positive inside are n lt ∙ ap (has_target points) (cell-at n)
        ∙ sym (nodes_of_tree tree points cap inside solved.is_tree n (omega (arith, nodes-many))).target

    -- ---- a line for each cell
    pub nodes-text : flat_map line_bytes (map (λ n. node_line (A.parent n) (A.cell n)) (numbers A)) ≡ texts (node_text tree) (size tree)
    nodes-text =
        flat_map-map line_bytes (λ n. node_line (A.parent n) (A.cell n)) (numbers A)
        ∙ texts-same (λ n. line_bytes (node_line (A.parent n) (A.cell n))) (node_text tree) A.nodes
        (λ n lt. ap₂ (λ p c. line_bytes (node_line p c)) (parent-at tree f.basis.lists points cap these positive inside solved.is_tree solved.lists_are are n (omega (arith, nodes-many))) (cell-at n))
        ∙ ap (texts (node_text tree)) nodes-many

    multipole-row : (n : ℕ) → n < size tree → AreSameRows P (A.multipole n) (row_of (place_at f.up n).row)
    multipole-row n lt k below =
        ap (λ c. multipole_row points cap c k) (cell-at n)
        ∙ sym (subst (λ ps. (row : ℕ) → IsTreeOf tree ps row → AreSameRows P (row_of (place_at f.up n).row) (multipole_row ps row (square_of tree n))) solved.points_are (solved.up_are.each n lt).row_is cap solved.is_tree k below)

    pub multipoles-text : flat_map line_bytes (map (λ n. multipole_line P (has_source_under A n) (A.multipole n)) (numbers A)) ≡ texts (multipole_text P f) (size tree)
    multipoles-text =
        flat_map-map line_bytes (λ n. multipole_line P (has_source_under A n) (A.multipole n)) (numbers A)
        ∙ texts-same (λ n. line_bytes (multipole_line P (has_source_under A n) (A.multipole n))) (multipole_text P f) A.nodes
        (λ n lt. ap line_bytes (multipole_line-same P (has_source_under A n) (node_of tree n).has_source (A.multipole n) (row_of (place_at f.up n).row) (has-source n lt) (multipole-row n (omega (arith, nodes-many)))))
        ∙ ap (texts (multipole_text P f)) nodes-many

    -- the local row of a cell with a target, over these lists
    abbrev HoldsLocal : ℕ → List Point → ℕ → Type 0
    HoldsLocal n ps k =
        IsTrue (has_target ps (square_of tree n)) → AreTreeLists tree.grid ps k these
        → AreSameRows P (row_of (place_at f.local n).row) (local_row ps k P these (square_of tree n)) × ((place_at f.local n).radius ≡ local_radius ps k P these (square_of tree n))

    local-place : (n : ℕ) → n < size tree → HoldsLocal n points cap
    local-place n lt =
        subst (HoldsLocal n points) solved.cap_is (subst (λ ps. HoldsLocal n ps f.basis.cap) solved.points_are
        (λ some lists. let h = (solved.local_are.each n lt).with_target some these lists in (h.row_is, h.radius_is)))

    local-row : (n : ℕ) → n < size tree → has_target_under A n ≡ true → (A.radius n ≡ (place_at f.local n).radius) × AreSameRows P (A.local n) (row_of (place_at f.local n).row)
    local-row n lt under =
        let b : Square = square_of tree n in
        let e : has_target points b ≡ true = ap (has_target points) (sym (cell-at n)) ∙ sym (target_under-cell tree.grid points cap P these positive inside are n (omega (arith, nodes-many))) ∙ under in
        let h = local-place n lt e are in (
          ap (radius_for_targets tree.grid points cap P these) (cell-at n) ∙ ap (λ (t : Bool). cond t (local_radius points cap P these b) 0) e ∙ sym h.1,
          λ k below. ap (λ c. row_for_targets tree.grid points cap P these c k) (cell-at n) ∙ ap (λ (t : Bool). cond {A = ℕ → BoxEnds} t (local_row points cap P these b) (λ j. zero_box) k) e ∙ sym (h.0 k below),
        )

    pub locals-text : flat_map line_bytes (map (λ n. local_line P (has_target_under A n) (A.radius n) (A.local n)) (numbers A)) ≡ texts (local_text P f) (size tree)
    locals-text =
        flat_map-map line_bytes (λ n. local_line P (has_target_under A n) (A.radius n) (A.local n)) (numbers A)
        ∙ texts-same (λ n. line_bytes (local_line P (has_target_under A n) (A.radius n) (A.local n))) (local_text P f) A.nodes
        (λ n lt. ap line_bytes (local_line-same P (has_target_under A n) (node_of tree n).has_target (A.radius n) (place_at f.local n).radius (A.local n) (row_of (place_at f.local n).row) (has-target n lt) (local-row n (omega (arith, nodes-many)))))
        ∙ ap (texts (local_text P f)) nodes-many

    -- ---- entries
    pub entries-text : flat_map line_bytes (map entry_line A.entries) ≡ texts (entries_text f.basis.lists) (size tree)
    entries-text =
        ap (λ es. flat_map line_bytes (map entry_line es)) (entries-numbers tree f.basis.lists points cap these positive inside solved.is_tree solved.lists_are are)
        ∙ entries-lines f.basis.lists (range_with_len 0 (size tree))

    pub entries-many : length A.entries ≡ entries_of f.basis.lists
    entries-many =
        let lists : EntryListsModel = f.basis.lists in
        let all : List ℕ = range_with_len 0 (size tree) in
        ap length (entries-numbers tree lists points cap these positive inside solved.is_tree solved.lists_are are)
        ∙ length-flat_map (entries_at lists) all
        ∙ sum-four (λ n. length (entries_at lists n)) (λ n. length (list_at (lists_of lists U) n)) (λ n. length (list_at (lists_of lists V) n)) (λ n. length (list_at (lists_of lists W) n))
        (λ n. length (list_at (lists_of lists X) n)) all (many-entries lists)
        ∙ omega (arith, total U, total V, total W, total X)
      where
        total : (letter : Letter) → total_of f.basis.lists letter ≡ sum_by (λ n. length (list_at (lists_of f.basis.lists letter) n)) (range_with_len 0 (size tree))
        total letter = total-numbers f.basis.lists letter ∙ ap (λ m. sum_by (λ n. length (list_at (lists_of f.basis.lists letter) n)) (range_with_len 0 m)) (solved.lists_are.as_many letter)

    -- ---- a line for each point, and for each target
    pub ats-text : flat_map line_bytes (map at_line (leaves points A.sources A.targets)) ≡ texts (at_text tree) (length points)
    ats-text =
        let all : List ℕ = range_with_len 0 (length points) in
        ap (λ ns. flat_map line_bytes (map at_line ns))
        (leaves-numbers tree.grid points cap P these positive inside are ∙ leaves-at tree f.basis.lists points cap these positive inside solved.is_tree solved.lists_are are)
        ∙ flat_map-map line_bytes at_line (map (leaf_of tree) all)
        ∙ flat_map-map (λ n. line_bytes (at_line n)) (leaf_of tree) all

    pub targets-text : flat_map line_bytes (map (λ (t : LeafTarget). given_target_line t.box) A.targets) ≡ texts (box_text f.values) (length f.values)
    targets-text =
        let ts : List Point = targets points in
        flat_map-map line_bytes (λ (t : LeafTarget). given_target_line t.box) A.targets
        ∙ flat_map-map (λ (t : LeafTarget). line_bytes (given_target_line t.box)) (leaf_target tree.grid points cap P these) ts
        ∙ sym (flat_map-map (λ b. line_bytes (given_target_line b)) (λ p. target_box points cap P these (place p)) ts)
        ∙ ap (flat_map (λ b. line_bytes (given_target_line b))) (sym (solved.over these are).values_are)
        ∙ boxes-lines f.values

    pub targets-many : length A.targets ≡ length f.values
    targets-many =
        length-map (targets points) (leaf_target tree.grid points cap P these) ∙ sym (length-map (targets points) (λ p. target_box points cap P these (place p)))
        ∙ ap length (sym (solved.over these are).values_are) ∙ length-map f.values box_ends

-- Each source lies in the cell of exactly one of the entries that reach a leaf with a target, so what is summed over the sources of these entries
-- is the sum over all sources.
use Rattle.std.proofs.Common.{ℕ, zero, suc, ◌≡◌, ◌+◌, ◌<◌, inl, inr, List, [], ◌∷◌, length, ◌&&◌, filter, refl, sym, ap, ap₂, ◌∙◌, subst, arith, ℤ, pos, ◌+ℤ◌}
use Rattle.std.specs.Prelude.{◌==◌, Contains, sum_by}
use Rattle.std.specs.List.{count_by}
use Rattle.std.proofs.lemmas.Bool.{cases_lt}
use Rattle.std.proofs.lemmas.Int.{ints}
use Rattle.std.proofs.lemmas.List.Elements.{All-map}
use Rattle.std.proofs.lemmas.List.Sums.{sum_by-cons}
use Rattle.exact_math.proofs.Lists.{All-from_members}
use Rattle.exact_math.proofs.ListSums.{sum_list-filter}
use Rattle.exact_math.proofs.Ring.{int_ring}
use Rattle.exact_math.proofs.Sums.{sum_list, sum_list-congruence, sum_list-add}
use Rattle.cell_name.specs.Square.{Square, parent}
use Rattle.letters.specs.declared.Entry.{Entry}
use Rattle.letters.specs.declared.Letter.{Letter}
use Rattle.letters.specs.declared.Letter.TheVariants.{U, V, W, X}
use Rattle.points.specs.Points.{place}
use Rattle.points.specs.declared.Point.{Point}
use Rattle.quadtree.specs.Tree.{AreInGrid}
use Rattle.quadtree.proofs.Distinct.{Contains-filter, Contains-into_filter}
use Rattle.quadtree.proofs.Occupants.{is_target, target_in}
use Rattle.soundness.specs.Accounts.{LeafSource, Accounting, under, is_letter, sources_under, entries_of, reaches, accounts}
use Rattle.soundness.specs.Rules.{IsTiled}
use Rattle.soundness.proofs.Choices.{when, sum_list-filter_and, sum_list-once}
use Rattle.soundness.proofs.Nodes.{sum-path, sum-root}
use Rattle.soundness.proofs.Sums.{sum_by-map}
use Rattle.tree_field.specs.Field.{sources_in, targets, leaf_at}
use Rattle.tree_field.specs.Lists.{TreeLists, AreTreeLists}
use Rattle.tree_field.specs.Paths.{over_entries, over_path_at, over_path, over_reaching, EachSourceOnce}
use Rattle.tree_field.proofs.Accounts.{leaf_number, leaf_source, sources, accounting, sum_over_sources, sum_over_entries}
use Rattle.tree_field.proofs.Entries.{accounted_once}
use Rattle.tree_field.proofs.Leaves.{only_leaf, leaf_number_below, cell_of_leaf}
use Rattle.tree_field.proofs.Numbers.{cell_at, above, first_is_root, level_positive, above_root, above_first, cell_above}

module _ (points : List Point) (lists : TreeLists) (f : Point → ℕ) where
  path_below : (level : ℕ) (b : Square) → level ≡ b.level → 0 < level → over_path_at points lists f level b ≡ over_path points lists f (parent b) + (over_entries points lists f V b + over_entries points lists f X b)
  unfolding over_path_at
  path_below zero b e lo = absurd (omega arith)
  path_below (suc level) b e lo = ap (λ l. over_path_at points lists f l (parent b) + (over_entries points lists f V b + over_entries points lists f X b)) (omega arith)

  pub over_path-below : (b : Square) → 0 < b.level → over_path points lists f b ≡ over_path points lists f (parent b) + (over_entries points lists f V b + over_entries points lists f X b)
  over_path-below b lo = path_below b.level b refl lo

whole_sum : {A : Type 0} (h : A → ℕ) (xs : List A) → sum_list int_ring (λ x. pos (h x)) xs ≡ pos (sum_by h xs)
whole_sum h [] = refl
whole_sum h (x ∷ xs) = ap (λ z. pos (h x) +ℤ z) (whole_sum h xs) ∙ ap pos (sym (sum_by-cons h x xs))

module _ (grid : ℕ) (points : List Point) (cap : ℕ) (lists : TreeLists) (positive : 0 < grid) (inside : AreInGrid grid points) (are : AreTreeLists grid points cap lists) (f : Point → ℕ) where
  -- at no order, as no row is looked at
  abbrev given : Accounting
  given = accounting grid points cap 0 lists

  abbrev cell : ℕ → Square
  cell n = cell_at lists.cells n

  abbrev of_source : LeafSource → ℕ
  of_source x = f x.point

  abbrev of_node : ℕ → ℕ
  of_node n = sum_by of_source (sources_under given n)

  abbrev sum_of : List Entry → ℤ
  sum_of es = sum_list int_ring (λ (e : Entry). pos (of_node e.c)) es

  -- ---- on one node, and on the path to it
  on_node : (letter : Letter) (n : ℕ) → n < length lists.cells → sum_of (entries_of given letter n) ≡ pos (over_entries points lists f letter (cell n))
  on_node letter n lt =
      whole_sum (λ (e : Entry). of_node e.c) (entries_of given letter n)
      ∙ ap pos (sum_over_entries grid points cap 0 lists positive inside are letter n lt of_node (λ c. sum_by f (sources_in points c)) (sum_over_sources grid points cap 0 lists positive inside are f))

  abbrev path_of : Letter → ℕ → List Entry
  path_of letter n = filter (λ e. is_letter letter e.letter && under given.parent n e.b) given.entries

  root_is : above lists.cells 0 ≡ 0
  root_is = above_root grid points cap lists.cells positive inside are.cells_are

  first : (n : ℕ) → 0 < n → above lists.cells n < n
  first = above_first grid points cap lists.cells positive inside are.cells_are

  on_root : (letter : Letter) → sum_of (path_of letter 0) ≡ sum_of (entries_of given letter 0)
  on_root letter = sum-root (above lists.cells) root_is first int_ring (λ (e : Entry). is_letter letter e.letter) (λ e. e.b) (λ e. pos (of_node e.c)) given.entries

  on_path : (letter : Letter) (n : ℕ) → 0 < n → sum_of (path_of letter n) ≡ sum_of (path_of letter (above lists.cells n)) +ℤ sum_of (entries_of given letter n)
  on_path letter n lo = sum-path (above lists.cells) root_is first int_ring (λ (e : Entry). is_letter letter e.letter) (λ e. e.b) (λ e. pos (of_node e.c)) given.entries n lo

  paths : (level n : ℕ) → n < length lists.cells → level ≡ (cell n).level → sum_of (path_of V n) +ℤ sum_of (path_of X n) ≡ pos (over_path_at points lists f level (cell n))
  unfolding over_path_at
  paths zero n lt e = elim (cases_lt 0 n) [
    | inl lo ↦ absurd (let h = level_positive grid points cap lists.cells positive inside are.cells_are n lo lt in omega arith)
    | inr le ↦ at_root n lt (omega arith)
  ]
    where
      at_root : (n : ℕ) → n < length lists.cells → n ≡ 0 → sum_of (path_of V n) +ℤ sum_of (path_of X n) ≡ pos (over_entries points lists f V (cell n) + over_entries points lists f X (cell n))
      at_root n lt e =
          ap (λ m. sum_of (path_of V m) +ℤ sum_of (path_of X m)) e
          ∙ ap₂ ◌+ℤ◌ (on_root V) (on_root X)
          ∙ ap (λ m. sum_of (entries_of given V m) +ℤ sum_of (entries_of given X m)) (sym e)
          ∙ ap₂ ◌+ℤ◌ (on_node V n lt) (on_node X n lt)
  paths (suc level) n lt e = elim (cases_lt 0 n) [
    | inl lo ↦
        let up = cell_above grid points cap lists.cells positive inside are.cells_are n lo lt in
        let before = first n lo in
        let above_level : (cell (above lists.cells n)).level ≡ (parent (cell n)).level = ap (λ (c : Square). c.level) up in
        let ih = paths level (above lists.cells n) (omega arith) (omega arith) ∙ ap (λ c. pos (over_path_at points lists f level c)) up in
        ap₂ ◌+ℤ◌ (on_path V n lo) (on_path X n lo)
        ∙ paired (sum_of (path_of V (above lists.cells n))) (sum_of (entries_of given V n)) (sum_of (path_of X (above lists.cells n))) (sum_of (entries_of given X n))
        ∙ ap₂ ◌+ℤ◌ ih (ap₂ ◌+ℤ◌ (on_node V n lt) (on_node X n lt))
    | inr le ↦ absurd (no n lt (omega arith) e)
  ]
    where
      paired : (p v q x : ℤ) → (p +ℤ v) +ℤ (q +ℤ x) ≡ (p +ℤ q) +ℤ (v +ℤ x)
      paired p v q x = omega (arith, ints)

      no : (n : ℕ) → n < length lists.cells → n ≡ 0 → suc level ≡ (cell n).level → ⊥
      no n lt z e =
          let r = first_is_root grid points cap lists.cells positive inside are.cells_are (omega arith) in
          let h : (cell n).level ≡ 0 = ap (λ m. (cell m).level) z ∙ ap (λ (c : Square). c.level) r in
          omega arith

  -- ---- each source once
  tiled : (t : Point) → Contains (targets points) t → IsTiled given (leaf_number grid points cap lists t)
  tiled t ht = All-map (λ x. count_by (accounts given (leaf_number grid points cap lists t) x) given.entries ≡ 1) (leaf_source grid points cap lists) (sources points)
      (All-from_members (λ p. count_by (accounts given (leaf_number grid points cap lists t) (leaf_source grid points cap lists p)) given.entries ≡ 1) (sources points)
      (λ p hp. accounted_once grid points cap 0 lists positive inside are t p ht hp))

  -- the four letters apart
  four : (leaf : ℕ) (l : Letter) (b : ℕ) (x : ℤ) → when int_ring (reaches given l b leaf) x
      ≡ (when int_ring (is_letter U l && (leaf == b)) x +ℤ when int_ring (is_letter W l && (leaf == b)) x)
      +ℤ (when int_ring (is_letter V l && under given.parent leaf b) x +ℤ when int_ring (is_letter X l && under given.parent leaf b) x)
  four leaf U b x = alone (when int_ring (leaf == b) x)
    where
      alone : (y : ℤ) → y ≡ (y +ℤ pos 0) +ℤ (pos 0 +ℤ pos 0)
      alone y = omega (arith, ints)
  four leaf V b x = alone (when int_ring (under given.parent leaf b) x)
    where
      alone : (y : ℤ) → y ≡ (pos 0 +ℤ pos 0) +ℤ (y +ℤ pos 0)
      alone y = omega (arith, ints)
  four leaf W b x = alone (when int_ring (leaf == b) x)
    where
      alone : (y : ℤ) → y ≡ (pos 0 +ℤ y) +ℤ (pos 0 +ℤ pos 0)
      alone y = omega (arith, ints)
  four leaf X b x = alone (when int_ring (under given.parent leaf b) x)
    where
      alone : (y : ℤ) → y ≡ (pos 0 +ℤ pos 0) +ℤ (pos 0 +ℤ y)
      alone y = omega (arith, ints)

  by_letters : (leaf : ℕ) → IsTiled given leaf
      → sum_list int_ring (λ x. pos (of_source x)) given.sources ≡ (sum_of (entries_of given U leaf) +ℤ sum_of (entries_of given W leaf)) +ℤ (sum_of (path_of V leaf) +ℤ sum_of (path_of X leaf))
  by_letters leaf once =
      sum_list-once int_ring (accounts given leaf) (λ x. pos (of_source x)) given.sources given.entries once
      ∙ sum_list-congruence int_ring _ _ given.entries (λ (e : Entry).
      sum_list-filter_and int_ring (reaches given e.letter e.b leaf) (λ x. under given.parent x.leaf e.c) (λ x. pos (of_source x)) given.sources
      ∙ ap (when int_ring (reaches given e.letter e.b leaf)) (whole_sum of_source (sources_under given e.c))
      ∙ four leaf e.letter e.b (pos (of_node e.c)))
      ∙ sum_list-add int_ring _ _ given.entries
      ∙ ap₂ ◌+ℤ◌ (sum_list-add int_ring _ _ given.entries) (sum_list-add int_ring _ _ given.entries)
      ∙ sym (ap₂ ◌+ℤ◌
      (ap₂ ◌+ℤ◌ (sum_list-filter int_ring _ (λ (e : Entry). pos (of_node e.c)) given.entries) (sum_list-filter int_ring _ (λ (e : Entry). pos (of_node e.c)) given.entries))
      (ap₂ ◌+ℤ◌ (sum_list-filter int_ring _ (λ (e : Entry). pos (of_node e.c)) given.entries) (sum_list-filter int_ring _ (λ (e : Entry). pos (of_node e.c)) given.entries)))

  -- ---- the leaf of a target
  abbrev Once : Square → Type 0
  Once leaf = over_reaching points lists f leaf ≡ sum_by f (sources points)

  at_node : (n : ℕ) → n < length lists.cells → IsTiled given n → Once (cell n)
  at_node n lt once =
      let all : sum_list int_ring (λ x. pos (of_source x)) given.sources ≡ pos (sum_by f (sources points)) =
      whole_sum of_source given.sources ∙ ap pos (sum_by-map of_source (leaf_source grid points cap lists) (sources points)) in
      let parts = ap₂ ◌+ℤ◌ (ap₂ ◌+ℤ◌ (on_node U n lt) (on_node W n lt)) (paths (cell n).level n lt refl) in
      turned _ _ _ _ (sym (by_letters n once ∙ parts) ∙ all)
    where
      turned : (u w p s : ℕ) → (pos u +ℤ pos w) +ℤ pos p ≡ pos s → p + (u + w) ≡ s
      turned u w p s e = omega (arith, ints, e)

  pub sources_once : (t : Point) → Contains (targets points) t → Once (leaf_at points cap grid (place t))
  sources_once t ht =
      let listed = (Contains-filter _ points t ht).0 in
      subst Once (cell_of_leaf grid points cap lists.cells positive inside are.cells_are t listed)
      (at_node (leaf_number grid points cap lists t) (leaf_number_below grid points cap lists.cells positive inside are.cells_are t listed) (tiled t ht))

pub each_source_once : EachSourceOnce
each_source_once grid points cap lists positive inside are leaf is has f =
    let t = target_in points leaf has in
    subst (λ b. over_reaching points lists f b ≡ sum_by f (sources points)) (sym (only_leaf grid points cap lists.cells positive inside are.cells_are t.point t.listed leaf is t.held))
    (sources_once grid points cap lists positive inside are f t.point (Contains-into_filter is_target points t.point t.listed t.passes))

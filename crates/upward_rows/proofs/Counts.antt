-- How many rows are shifted up in all: one for each cell below the root that has a source.
use Rattle.std.proofs.Common.{ℕ, ◌≡◌, ◌≢◌, ◌+◌, ◌<◌, ◌≤◌, inl, inr, List, [], ◌∷◌, length, filter, Bool, true, false, cond, refl, sym, ap, ap₂, ◌∙◌, subst, arith, length-append}
use Rattle.std.specs.Prelude.{AllPairs, Contains, nat_lt, sum_by, count_by}
use Rattle.std.specs.List.{flat_map, range_with_len}
use Rattle.std.proofs.lemmas.Bool.{and_parts, and_from, lt-ltb, ltb-true}
use Rattle.std.proofs.lemmas.List.{length-map}
use Rattle.std.proofs.lemmas.List.Elements.{All-contains}
use Rattle.std.proofs.lemmas.List.Kept.{AllPairs-filter}
use Rattle.std.proofs.lemmas.List.Sums.{sum_by-cons, length-filter}
use Rattle.cell_name.specs.Cell.{square}
use Rattle.cell_name.specs.Square.{Square, parent}
use Rattle.complex_box.specs.Counts.{Counts}
use Rattle.field_basis.specs.Counts.{shifts_into, translated}
use Rattle.limits.proofs.Grids.{grid_positive}
use Rattle.points.specs.declared.Point.{Point}
use Rattle.cell_name.specs.Quarters.{quarters}
use Rattle.quadtree.specs.Tree.{AreInGrid, IsTreeCell, IsLeaf, count_in, has_source}
use Rattle.quadtree.specs.TreeModel.{TreeModel, size, squares, square_of, node_of, IsTreeOf}
use Rattle.quadtree.proofs.Distinct.{Contains-filter, Contains-into_filter, Contains-flat_map, comes_from, different-flat_map, length-le_from_different}
use Rattle.quadtree.proofs.Parents.{IsTreeCell-parent, IsTreeCell-below}
use Rattle.cell_name.proofs.Quarters.{IsQuarter, quarters_are, quarters_contain, quarters_differ}
use Rattle.quadtree.proofs.Ascending.{ascending_differ}
use Rattle.exact_math.proofs.Lists.{AllPairs-range, Contains-range, range_below}
use Rattle.tree_field.proofs.Numbers.{number_among, number_below, cell_of_number, number_of_cell}
use Rattle.upward_rows.specs.Shifted.{is_shifted}
use Rattle.upward_rows.proofs.Trees.{inner_is, quarter_listed}

abbrev counts : ℕ → ℕ → Counts
counts translations pairs = record { translations = translations; pairs = pairs }

-- the translations alone have grown
pub raised_by : (count : ℕ) (now old : Counts) → now.translations ≡ old.translations + count → now.pairs ≡ old.pairs → now ≡ translated count old
raised_by count now old t p = ap₂ counts t p

-- the quarters whose rows are shifted into that of the cell n
abbrev shifted_quarters : List Point → TreeModel → ℕ → List Square
shifted_quarters points tree n = cond (node_of tree n).is_leaf [] (filter (has_source points) (quarters (square_of tree n)))

as_many : (b : Bool) (p : Square → Bool) (xs : List Square) → cond {A = ℕ} b 0 (count_by p xs) ≡ length (cond b [] (filter p xs))
as_many true p xs = refl
as_many false p xs = sym (length-filter p xs)

shifts_are : (points : List Point) (tree : TreeModel) (xs : List ℕ) → sum_by (shifts_into points tree) xs ≡ length (flat_map (shifted_quarters points tree) xs)
shifts_are points tree [] = refl
shifts_are points tree (x ∷ xs) =
    sum_by-cons (shifts_into points tree) x xs
    ∙ ap₂ (λ m n. m + n) (as_many (node_of tree x).is_leaf (has_source points) (quarters (square_of tree x))) (shifts_are points tree xs)
    ∙ sym (length-append (shifted_quarters points tree x) (flat_map (shifted_quarters points tree) xs))

kept_differ : (b : Bool) (p : Square → Bool) (xs : List Square) → AllPairs (λ a b. a ≢ b) xs → AllPairs (λ a b. a ≢ b) (cond b [] (filter p xs))
kept_differ true p xs h = λ i j d lt inside. absurd (omega arith)
kept_differ false p xs h = AllPairs-filter (λ a b. a ≢ b) p xs h

-- a cell that is shifted into that of a number
record IsShiftedInto (points : List Point) (tree : TreeModel) (n : ℕ) (q : Square) : Type 0 where
  pub inner : (node_of tree n).is_leaf ≡ false
  pub quarter : IsQuarter (square_of tree n) q
  pub source : has_source points q ≡ true

shifted_is : (points : List Point) (tree : TreeModel) (n : ℕ) (q : Square) → Contains (shifted_quarters points tree n) q → IsShiftedInto points tree n q
shifted_is points tree n q h = step (node_of tree n).is_leaf refl h
  where
    step : (b : Bool) → (node_of tree n).is_leaf ≡ b → Contains (cond b [] (filter (has_source points) (quarters (square_of tree n)))) q → IsShiftedInto points tree n q
    step true e h = absurd (omega (arith, h.1))
    step false e h =
        let kept = Contains-filter (has_source points) (quarters (square_of tree n)) q h in
        record { inner = e; quarter = All-contains (IsQuarter (square_of tree n)) (quarters (square_of tree n)) q (quarters_are (square_of tree n)) kept.0; source = kept.1 }

module _ (tree : TreeModel) (points : List Point) (capacity : ℕ) (is : IsTreeOf tree points capacity) (inside : AreInGrid tree.grid points) where
  some : 0 < tree.grid
  some = grid_positive tree.grid is.known_grid

  in_squares : (n : ℕ) → n < size tree → n < length (squares tree)
  in_squares n lt = omega (arith, length-map tree.cells square)

  range_differs : AllPairs (λ a b. a ≢ b) (range_with_len 0 (size tree))
  range_differs i j d lt in_range e = let h = AllPairs-range (size tree) i j d lt in_range in omega (arith, h.0, e)

  parent_number : (n : ℕ) (q : Square) → Contains (range_with_len 0 (size tree)) n → Contains (shifted_quarters points tree n) q → number_among (squares tree) (parent q) ≡ n
  parent_number n q listed h =
      ap (number_among (squares tree)) (shifted_is points tree n q h).quarter.parent_is
      ∙ number_of_cell tree.grid points capacity (squares tree) some inside is.cells_are n (in_squares n (range_below (size tree) n listed))

  shifted_differ : AllPairs (λ a b. a ≢ b) (flat_map (shifted_quarters points tree) (range_with_len 0 (size tree)))
  shifted_differ = different-flat_map (shifted_quarters points tree) (λ q. number_among (squares tree) (parent q)) (range_with_len 0 (size tree)) range_differs
      (λ n h. kept_differ (node_of tree n).is_leaf (has_source points) (quarters (square_of tree n)) (quarters_differ (square_of tree n)))
      parent_number

  down : (q : Square) → Contains (flat_map (shifted_quarters points tree) (range_with_len 0 (size tree))) q → Contains (filter (is_shifted points) (squares tree)) q
  down q h =
      let o = comes_from (shifted_quarters points tree) (range_with_len 0 (size tree)) q h in
      let s = shifted_is points tree o.source q o.inside in
      let inner = inner_is tree points capacity is o.source (range_below (size tree) o.source o.listed) s.inner in
      let lo : 0 < q.level = omega (arith, s.quarter.level) in
      Contains-into_filter (is_shifted points) (squares tree) q (quarter_listed tree points capacity is o.source q inner s.quarter s.source) (and_from (nat_lt 0 q.level) (has_source points q) (lt-ltb 0 q.level lo) s.source)

  up : (q : Square) → Contains (filter (is_shifted points) (squares tree)) q → Contains (flat_map (shifted_quarters points tree) (range_with_len 0 (size tree))) q
  up q h =
      let kept = Contains-filter (is_shifted points) (squares tree) q h in
      let parts = and_parts (nat_lt 0 q.level) (has_source points q) kept.1 in
      let lo : 0 < q.level = ltb-true 0 q.level parts.0 in
      let here : IsTreeCell tree.grid points capacity q = All-contains (IsTreeCell tree.grid points capacity) (squares tree) q is.cells_are.each kept.0 in
      let above = IsTreeCell-parent tree.grid points capacity q some inside here lo in
      let n : ℕ = number_among (squares tree) (parent q) in
      let lt : n < size tree = omega (arith, number_below tree.grid points capacity (squares tree) some inside is.cells_are (parent q) above, length-map tree.cells square) in
      let e : square_of tree n ≡ parent q = cell_of_number tree.grid points capacity (squares tree) some inside is.cells_are (parent q) above in
      let split = (IsTreeCell-below tree.grid points capacity q lo here.level_in_grid here).1 in
      let listed : Contains (quarters (square_of tree n)) q = subst (λ c. Contains (quarters c) q) (sym e) (quarters_contain q lo) in
      Contains-flat_map (shifted_quarters points tree) (range_with_len 0 (size tree)) n q (Contains-range (size tree) n lt)
      (kept_in (node_of tree n).is_leaf n q (λ t. leaf_not n q lt e lo here.level_in_grid split t) listed parts.1)
    where
      kept_in : (b : Bool) (n : ℕ) (q : Square) → (b ≡ true → ⊥) → Contains (quarters (square_of tree n)) q → has_source points q ≡ true → Contains (cond b [] (filter (has_source points) (quarters (square_of tree n)))) q
      kept_in true n q never h t = absurd (never refl)
      kept_in false n q never h t = Contains-into_filter (has_source points) (quarters (square_of tree n)) q h t

      leaf_not : (n : ℕ) (q : Square) → n < size tree → square_of tree n ≡ parent q → 0 < q.level → q.level ≤ tree.grid → (capacity < count_in points (parent q)) → (node_of tree n).is_leaf ≡ true → ⊥
      leaf_not n q lt e lo hi split t =
          let leaf = subst (IsLeaf tree.grid points capacity) e ((is.nodes_are n lt).leaf.0 t) in
          elim leaf.ends [ inl few ↦ omega (arith, few, split) | inr last ↦ omega (arith, last) ]

  pub shifts_of_all : sum_by (shifts_into points tree) (range_with_len 0 (size tree)) ≡ count_by (is_shifted points) (squares tree)
  shifts_of_all =
      let a = shifts_are points tree (range_with_len 0 (size tree)) in
      let b = length-filter (is_shifted points) (squares tree) in
      let d = length-le_from_different _ _ shifted_differ down in
      let e = length-le_from_different _ _ (AllPairs-filter (λ a b. a ≢ b) (is_shifted points) (squares tree) (ascending_differ (squares tree) is.cells_are.ascending)) up in
      omega (arith, a, b, d, e)

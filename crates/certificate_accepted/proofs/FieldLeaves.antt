-- What the rules of a certificate ask of the accounting of a field: the leaves of its points and of its entries, which leaves are tiled, and how far its V entries are apart.
use Rattle.std.proofs.Common.{ℕ, ◌≡◌, ◌<◌, inl, inr, List, length, true, sym, ap, ◌∙◌, subst, arith}
use Rattle.std.specs.Prelude.{All, Contains}
use Rattle.std.proofs.lemmas.Bool.{cases_Bool}
use Rattle.exact_math.proofs.Lists.{image_of}
use Rattle.cell_lists.specs.Entries.{IsPair}
use Rattle.cell_name.specs.Apart.{AreTwoOrThreeSidesApart}
use Rattle.cell_name.specs.Square.{Square, Holds}
use Rattle.cell_name.proofs.Distances.{two_or_three}
use Rattle.cell_name.proofs.HoldsTest.{Holds-from_test}
use Rattle.letters.specs.declared.Letter.{Letter}
use Rattle.letters.specs.declared.Letter.TheVariants.{U, V, W, X}
use Rattle.points.specs.Points.{place}
use Rattle.points.specs.declared.Point.{Point}
use Rattle.quadtree.specs.Tree.{AreInGrid, IsTreeCell, IsLeaf, count_in}
use Rattle.quadtree.proofs.Distinct.{Contains-filter}
use Rattle.soundness.specs.Accounts.{Accounting, LeafTarget, is_leaf, under, has_target_under}
use Rattle.soundness.specs.Rules.{IsTiled}
use Rattle.tree_field.specs.Accounting.{accounting, above, cell_at, leaf_number, leaf_target, number_among}
use Rattle.tree_field.specs.Field.{targets, leaf_at}
use Rattle.tree_field.specs.Lists.{TreeLists, AreTreeLists}
use Rattle.tree_field.proofs.Entries.{All-entries}
use Rattle.tree_field.proofs.Leaves.{leaf_is, leaf_holds, only_leaf, leaf_number_below, cell_of_leaf, under_is_holding}
use Rattle.tree_field.proofs.Members.{found}
use Rattle.tree_field.proofs.MultipoleRows.{leaf_from_node, split_from_node}
use Rattle.tree_field.proofs.Numbers.{number_below, cell_of_number, number_of_cell}
use Rattle.tree_field.proofs.Whole.{rules_met}

-- what an entry of each letter has besides what has to be apart
abbrev pub HasLeaves : Accounting → Letter → ℕ → ℕ → Type 0
HasLeaves A U b d = (is_leaf A b ≡ true) × (is_leaf A d ≡ true)
HasLeaves A V b d = AreTwoOrThreeSidesApart (A.cell b) (A.cell d)
HasLeaves A W b d = is_leaf A b ≡ true
HasLeaves A X b d = is_leaf A d ≡ true

-- the nodes of an entry are nodes, and have it
pub record EntryStands (A : Accounting) (letter : Letter) (b d : ℕ) : Type 0 where
  pub b_in_range : b < A.nodes
  pub c_in_range : d < A.nodes
  pub leaves : HasLeaves A letter b d

module _ (grid : ℕ) (points : List Point) (cap P : ℕ) (lists : TreeLists) (positive : 0 < grid) (inside : AreInGrid grid points) (are : AreTreeLists grid points cap lists) where
  abbrev given : Accounting
  given = accounting grid points cap P lists

  abbrev cell : ℕ → Square
  cell n = cell_at lists.cells n

  abbrev number : Square → ℕ
  number c = number_among lists.cells c

  below : (c : Square) → IsTreeCell grid points cap c → number c < length lists.cells
  below c h = number_below grid points cap lists.cells positive inside are.cells_are c h

  is : (c : Square) → IsTreeCell grid points cap c → cell (number c) ≡ c
  is c h = cell_of_number grid points cap lists.cells positive inside are.cells_are c h

  -- ---- leaves
  leaf_at_node : (n : ℕ) → n < length lists.cells → IsLeaf grid points cap (cell n) → is_leaf given n ≡ true
  leaf_at_node n lt leaf = elim (cases_Bool (is_leaf given n)) [ inl e ↦ e | inr e ↦ absurd (neither (split_from_node grid points cap P lists positive inside are n lt e)) ]
    where
      neither : (cap < count_in points (cell n)) × ((cell n).level < grid) → ⊥
      neither split = elim leaf.ends [ inl few ↦ absurd (omega (arith, split.0, few)) | inr last ↦ absurd (omega (arith, split.1, last)) ]

  leaf_of_cell : (c : Square) → IsLeaf grid points cap c → is_leaf given (number c) ≡ true
  leaf_of_cell c h = leaf_at_node (number c) (below c h.in_tree) (subst (IsLeaf grid points cap) (sym (is c h.in_tree)) h)

  -- ---- points
  pub leaf_in_range : (p : Point) → Contains points p → leaf_number grid points cap lists p < length lists.cells
  leaf_in_range p h = leaf_number_below grid points cap lists.cells positive inside are.cells_are p h

  pub stands_in_leaf : (p : Point) → Contains points p → is_leaf given (leaf_number grid points cap lists p) ≡ true
  stands_in_leaf p h = leaf_of_cell (leaf_at points cap grid (place p)) (leaf_is grid points cap lists.cells positive inside are.cells_are p h)

  pub held_by_leaf : (p : Point) → Contains points p → Holds (cell (leaf_number grid points cap lists p)) p.x p.y
  held_by_leaf p h = subst (λ c. Holds c p.x p.y) (sym (cell_of_leaf grid points cap lists.cells positive inside are.cells_are p h)) (leaf_holds grid points cap lists.cells positive inside are.cells_are p h)

  -- ---- a leaf with a target under it is the leaf of that target
  leaf_is_that : (t : Point) → Contains points t → (n : ℕ) → n < length lists.cells → is_leaf given n ≡ true → under (above lists.cells) (leaf_number grid points cap lists t) n ≡ true → leaf_number grid points cap lists t ≡ n
  leaf_is_that t h n lt leaf u =
      let held = Holds-from_test (cell n) t.x t.y (sym (under_is_holding grid points cap lists.cells positive inside are.cells_are t h n lt) ∙ u) in
      let one = only_leaf grid points cap lists.cells positive inside are.cells_are t h (cell n) (leaf_from_node grid points cap P lists positive inside are n lt leaf) held in
      ap number (sym one) ∙ number_of_cell grid points cap lists.cells positive inside are.cells_are n lt

  pub leaves_tiled : (n : ℕ) → n < length lists.cells → is_leaf given n ≡ true → has_target_under given n ≡ true → IsTiled given n
  leaves_tiled n lt leaf some =
      let f = found (λ (x : LeafTarget). under given.parent x.leaf n) given.targets some in
      let i = image_of (leaf_target grid points cap P lists) (targets points) f.member f.listed in
      let u : under (above lists.cells) (leaf_number grid points cap lists i.source) n ≡ true = ap (λ (x : LeafTarget). under (above lists.cells) x.leaf n) i.gives ∙ f.passes in
      let at : f.member.leaf ≡ n = ap (λ (x : LeafTarget). x.leaf) (sym i.gives) ∙ leaf_is_that i.source (Contains-filter _ points i.source i.listed).0 n lt leaf u in
      let tiled = (rules_met grid points cap P lists positive inside are).tiled in
      subst (IsTiled given) (ap (λ (x : LeafTarget). x.leaf) f.listed.2 ∙ at) (tiled f.listed.0 f.member f.listed.1)

  -- ---- entries
  leaves_of : (letter : Letter) (b c : Square) → IsTreeCell grid points cap b → IsTreeCell grid points cap c → IsPair grid points cap letter b c → HasLeaves given letter (number b) (number c)
  leaves_of U b c tb tc e = (leaf_of_cell b e.0, leaf_of_cell c e.1)
  leaves_of V b c tb tc e =
      let a = e.2 in
      subst (λ s. AreTwoOrThreeSidesApart s (cell (number c))) (sym (is b tb)) (subst (AreTwoOrThreeSidesApart b) (sym (is c tc)) (two_or_three b c (tb.of_grid ∙ sym tc.of_grid) a.same_level a.apart a.parents_touch))
  leaves_of W b c tb tc e = leaf_of_cell b e.0
  leaves_of X b c tb tc e = leaf_of_cell c e.0

  pub entries_stand : All (λ e. EntryStands given e.letter e.b e.c) given.entries
  entries_stand = All-entries grid points cap P lists positive inside are (λ e. EntryStands given e.letter e.b e.c)
      (λ letter b c tb tc e. record { b_in_range = below b tb; c_in_range = below c tc; leaves = leaves_of letter b c tb tc e.pair })

-- The rules of an accounting: each multipole row, each local row and radius of a node with a target under it,
-- and each box includes what the method computes from the others that are
-- given, each V, W and X entry has its places apart, and each source is accounted for exactly once at each target.
use Rattle.std.specs.Prelude.{ℕ, ◌≡◌, ◌<◌, ◌≤◌, true, false, All}
use Rattle.std.specs.List.{count_by}
use Rattle.exact_math.specs.Ends.{BoxEnds, BoxEndsInside}
use Rattle.letters.specs.declared.Letter.{Letter}
use Rattle.letters.specs.declared.Letter.TheVariants.{U, V, W, X}
use Rattle.points.specs.Points.{place}
use Rattle.soundness.specs.Squares.{IsQuarterOf, IsIn, IsFarFrom, CellsAreApart}
use Rattle.soundness.specs.Accounts.{LeafSource, LeafTarget, Accounting, under, is_leaf, has_target_under, accounts}
use Rattle.soundness.specs.Computed.{computed_leaf_row, shifted_rows, computed_local_row, computed_local_radius, computed_target_box}

-- the first P boxes of a row lie in those of another
abbrev pub RowInside : ℕ → (ℕ → BoxEnds) → (ℕ → BoxEnds) → Type 0
RowInside P inner outer = (k : ℕ) → k < P → BoxEndsInside (inner k) (outer k)

module _ (A : Accounting) where
  -- a source stands in a leaf that has its place
  pub record SourceStands (x : LeafSource) : Type 0 where
    pub in_range : x.leaf < A.nodes
    pub leaf : is_leaf A x.leaf ≡ true
    pub held : IsIn (A.cell x.leaf) (place x.point)

  -- a target stands in a node that has its place
  pub record TargetStands (t : LeafTarget) : Type 0 where
    pub in_range : t.leaf < A.nodes
    pub held : IsIn (A.cell t.leaf) t.place

  -- what has to be apart for an entry of each letter: nothing, the two cells, the targets from c, the sources from b
  abbrev pub Apart : Letter → ℕ → ℕ → Type 0
  Apart U b c = Unit {0}
  Apart V b c = CellsAreApart (A.cell b) (A.cell c)
  Apart W b c = All (λ t. under A.parent t.leaf b ≡ true → IsFarFrom (A.cell c) t.place) A.targets
  Apart X b c = All (λ x. under A.parent x.leaf c ≡ true → IsFarFrom (A.cell b) (place x.point)) A.sources

  -- the entries that reach a leaf account for each source exactly once
  abbrev pub IsTiled : ℕ → Type 0
  IsTiled leaf = All (λ x. count_by (accounts A leaf x) A.entries ≡ 1) A.sources

-- ---- one rule for each thing that is presented, at order P
module _ (P : ℕ) (A : Accounting) where
  -- the multipole row of a node: a leaf's has that of its sources in it, and another's its children's, shifted up
  pub record MultipoleHolds (n : ℕ) : Type 0 where
    pub of_leaf : is_leaf A n ≡ true → RowInside P (computed_leaf_row A n) (A.multipole n)
    pub of_inner : is_leaf A n ≡ false → RowInside P (shifted_rows A n) (A.multipole n)

  -- the local row of a node, and its radius
  pub record LocalHolds (n : ℕ) : Type 0 where
    pub row : RowInside P (computed_local_row P A n) (A.local n)
    pub radius : computed_local_radius P A n ≤ A.radius n

  -- the box of a target
  abbrev pub BoxHolds : LeafTarget → Type 0
  BoxHolds t = BoxEndsInside (computed_target_box P A t) t.box

-- the rules at order P
pub record Rules (P : ℕ) (A : Accounting) : Type 0 where
  -- nodes; past the last of them any smaller number serves as a parent
  pub root : A.parent 0 ≡ 0
  pub parents : (n : ℕ) → 0 < n → A.parent n < n
  pub quarters : (n : ℕ) → 0 < n → n < A.nodes → IsQuarterOf (A.cell n) (A.cell (A.parent n))
  pub sources : All (SourceStands A) A.sources
  pub targets : All (TargetStands A) A.targets
  -- entries
  pub in_range : All (λ e. e.c < A.nodes) A.entries
  pub apart : All (λ e. Apart A e.letter e.b e.c) A.entries
  pub tiled : All (λ t. IsTiled A t.leaf) A.targets
  -- multipole rows; local rows and radii of the nodes with a target under them; and boxes
  pub multipoles : (n : ℕ) → n < A.nodes → MultipoleHolds P A n
  pub locals : (n : ℕ) → n < A.nodes → has_target_under A n ≡ true → LocalHolds P A n
  pub boxes : All (BoxHolds P A) A.targets

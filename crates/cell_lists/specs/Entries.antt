-- The entries of the four lists, as predicates over pairs of cells of the tree, and what an entry accounts for.
use Rattle.std.specs.Prelude.{ℕ, ◌≡◌, ◌<◌, ◌≤◌, List, Contains, IsTrue, not}
use Rattle.points.specs.declared.Point.{Point}
use Rattle.points.specs.Points.{is_source}
use Rattle.cell_name.specs.Square.{Square, parent, Holds, Touches}
use Rattle.quadtree.specs.Tree.{IsTreeCell, IsLeaf, AreInGrid, has_target, has_source}
use Rattle.letters.specs.declared.Letter.{Letter}
use Rattle.letters.specs.declared.Letter.TheVariants.{U, V, W, X}

-- they have one level of at least 1, their parents touch, and they don't touch
pub record ComeApartOnOneLevel (b c : Square) : Type 0 where
  pub same_level : b.level ≡ c.level
  pub below_root : 1 ≤ b.level
  pub parents_touch : Touches (parent b) (parent c)
  pub apart : Touches b c → ⊥

-- `c` has a greater level than `b`, its parent touches `b`, and `c` doesn't
pub record ComesApartBelow (b c : Square) : Type 0 where
  pub deeper : b.level < c.level
  pub parent_touches : Touches (parent c) b
  pub apart : Touches c b → ⊥

-- the condition of each letter: two leaves that touch, as a leaf touches itself; two cells of one level that come apart on it;
-- a leaf and a cell that comes apart from it below
-- its level; and the last with the two cells exchanged
abbrev pub IsPair : ℕ → List Point → ℕ → Letter → Square → Square → Type 0
IsPair grid points cap U b c = IsLeaf grid points cap b × IsLeaf grid points cap c × Touches b c
IsPair grid points cap V b c = IsTreeCell grid points cap b × IsTreeCell grid points cap c × ComeApartOnOneLevel b c
IsPair grid points cap W b c = IsLeaf grid points cap b × IsTreeCell grid points cap c × ComesApartBelow b c
IsPair grid points cap X b c = IsLeaf grid points cap c × IsTreeCell grid points cap b × ComesApartBelow c b

-- an entry of the lists: `b` has a target, `c` has a source, and the pair meets the condition of its letter
pub record IsEntry (grid : ℕ) (points : List Point) (cap : ℕ) (letter : Letter) (b c : Square) : Type 0 where
  pub target : IsTrue (has_target points b)
  pub source : IsTrue (has_source points c)
  pub pair : IsPair grid points cap letter b c

-- an entry of `b` and `c` accounts for a target and a source
pub record Accounts (b c : Square) (target source : Point) : Type 0 where
  pub target_held : Holds b target.x target.y
  pub source_held : Holds c source.x source.y

-- each entry that accounts for a target and a source is the one named
abbrev pub NoOtherAccounts : ℕ → List Point → ℕ → Letter → Square → Square → Point → Point → Type 0
NoOtherAccounts grid points cap letter b c target source =
    (letter' : Letter) (b' c' : Square) → IsEntry grid points cap letter' b' c' → Accounts b' c' target source → (letter' ≡ letter) × (b' ≡ b) × (c' ≡ c)

-- what two cells account for, two others account for
abbrev pub AccountForAll : Square → Square → Square → Square → Type 0
AccountForAll b c b' c' = (target source : Point) → Accounts b c target source → Accounts b' c' target source

-- exactly one entry accounts for a target and a source
pub record HasOneEntry (grid : ℕ) (points : List Point) (cap : ℕ) (target source : Point) : Type 0 where
  pub letter : Letter
  pub b : Square
  pub c : Square
  pub entry : IsEntry grid points cap letter b c
  pub accounts : Accounts b c target source
  pub no_other : NoOtherAccounts grid points cap letter b c target source

-- a target and a source of the list
pub record IsTargetAndSource (points : List Point) (target source : Point) : Type 0 where
  pub target_listed : Contains points target
  pub is_target : IsTrue (not (is_source target.kind))
  pub source_listed : Contains points source
  pub is_source : IsTrue (is_source source.kind)

-- no other entry than the one named accounts for what the leaves `b` and `c` hold
abbrev pub NoOtherFor : ℕ → List Point → ℕ → Square → Square → Letter → Square → Square → Type 0
NoOtherFor grid points cap b c letter b' c' =
    (target source : Point) → IsTargetAndSource points target source → Accounts b c target source → NoOtherAccounts grid points cap letter b' c' target source

-- each target and source of a list within the grid, for any capacity of the leaves
abbrev pub EachPairHasOneEntry : Type 0
EachPairHasOneEntry =
    (grid : ℕ) (points : List Point) (cap : ℕ) (target source : Point) → 0 < grid → AreInGrid grid points
    → IsTargetAndSource points target source → HasOneEntry grid points cap target source

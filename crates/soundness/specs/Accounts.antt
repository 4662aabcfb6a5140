-- An accounting, as somebody presents it: nodes with cells, sources in leaves, targets in nodes, entries, rows, radii, and a box for each target.
use Rattle.std.specs.Prelude.{ℕ, zero, suc, Bool, true, false, not, ◌&&◌, ◌||◌, ◌==◌, nat_lt, List, filter, map}
use Rattle.std.specs.List.{range_with_len, list_any}
use Rattle.exact_math.specs.Ends.{BoxEnds}
use Rattle.exact_math.specs.Gaussian.{Gaussian}
use Rattle.cell_name.specs.Square.{Square}
use Rattle.letters.specs.declared.Entry.{Entry}
use Rattle.letters.specs.declared.Letter.{Letter}
use Rattle.letters.specs.declared.Letter.TheVariants.{U, V, W, X}
use Rattle.points.specs.declared.Point.{Point}

-- A source with its leaf. It is a point of the program, over which a reader knows the direct sum; points that are equal may stand in different leaves.
pub record LeafSource : Type 0 where
  pub point : Point
  pub leaf : ℕ

-- A target's place, the node it stands in, and its box. In the field of a list this node is a leaf, as its name says;
-- the rules (`TargetStands`) allow any that has the place.
pub record LeafTarget : Type 0 where
  pub place : Gaussian
  pub leaf : ℕ
  pub box : BoxEnds

-- Nodes are numbered from 0, the root, and a parent has a smaller number than its child. Rows and boxes count units of 2^-40; a row is a function of its index.
pub record Accounting : Type 0 where
  pub nodes : ℕ
  pub parent : ℕ → ℕ
  pub cell : ℕ → Square
  pub sources : List LeafSource
  pub targets : List LeafTarget
  pub entries : List Entry
  pub multipole : ℕ → ℕ → BoxEnds
  pub local : ℕ → ℕ → BoxEnds
  pub radius : ℕ → ℕ

-- n, or one of its first `steps` ancestors, is c
abbrev pub under_within : ℕ → (ℕ → ℕ) → ℕ → ℕ → Bool
under_within zero parent n c = n == c
under_within (suc steps) parent n c = (n == c) || under_within steps parent (parent n) c

-- n is c, or c is an ancestor of n: n steps reach the root
unfoldable pub under : (ℕ → ℕ) → ℕ → ℕ → Bool
under parent n c = under_within n parent n c

abbrev pub is_letter : Letter → Letter → Bool
is_letter U U = true
is_letter V V = true
is_letter W W = true
is_letter X X = true
is_letter _ _ = false

module _ (A : Accounting) where
  abbrev pub names_parent : ℕ → ℕ → Bool
  names_parent n d = nat_lt 0 d && (A.parent d == n)

  abbrev pub children : ℕ → List ℕ
  children n = filter (names_parent n) (range_with_len 0 A.nodes)

  -- no node names it as its parent
  abbrev pub is_leaf : ℕ → Bool
  is_leaf n = not (list_any (names_parent n) (range_with_len 0 A.nodes))

  -- the sources in the leaves under a node
  abbrev pub sources_under : ℕ → List LeafSource
  sources_under n = filter (λ x. under A.parent x.leaf n) A.sources

  -- some target's leaf is under a node
  abbrev pub has_target_under : ℕ → Bool
  has_target_under n = list_any (λ t. under A.parent t.leaf n) A.targets

  -- the entries of a letter whose b is the node
  abbrev pub entries_of : Letter → ℕ → List Entry
  entries_of letter n = filter (λ e. is_letter letter e.letter && (n == e.b)) A.entries

  -- an entry reaches the targets of a leaf: U and W where b is the leaf, V and X where the leaf is under b
  abbrev pub reaches : Letter → ℕ → ℕ → Bool
  reaches U b leaf = leaf == b
  reaches V b leaf = under A.parent leaf b
  reaches W b leaf = leaf == b
  reaches X b leaf = under A.parent leaf b

  -- an entry accounts, in a leaf, for the sources under its c
  abbrev pub accounts : ℕ → LeafSource → Entry → Bool
  accounts leaf x e = reaches e.letter e.b leaf && under A.parent x.leaf e.c

-- the points of sources
abbrev pub points_of : List LeafSource → List Point
points_of xs = map (λ x. x.point) xs

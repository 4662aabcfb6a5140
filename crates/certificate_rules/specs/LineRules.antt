-- The rules of a certificate over a list of points: one predicate for each kind of line, at the number of the line in its section. Where a rule speaks of
-- what is computed, it is that of the accounting that the certificate gives.
use Rattle.std.specs.Prelude.{ℕ, zero, suc, ◌≡◌, true, false, not, pos, List, length, map, filter, slice_index_or}
use Rattle.exact_math.specs.Ends.{BoxEnds, zero_box}
use Rattle.exact_math.specs.Gaussian.{Gaussian, gaussian}
use Rattle.accounting_text.specs.Given.{number_at, given_entry, given_accounting}
use Rattle.cell_name.specs.Apart.{AreTwoOrThreeSidesApart}
use Rattle.cell_name.specs.Square.{root, Holds}
use Rattle.cert_text.specs.Certificate.{Certificate, nth_line, nth_box}
use Rattle.letters.specs.declared.Letter.{Letter}
use Rattle.letters.specs.declared.Letter.TheVariants.{U, V, W, X}
use Rattle.limits.specs.Limits.{grid_of}
use Rattle.points.specs.Points.{is_source, place}
use Rattle.points.specs.declared.Point.{Point}
use Rattle.points.specs.declared.Points.{Points}
use Rattle.soundness.specs.Accounts.{Accounting, LeafTarget, is_leaf, has_target_under}
use Rattle.soundness.specs.Counts.{EncloseBox}
use Rattle.soundness.specs.Rules.{Apart, IsTiled, MultipoleHolds, LocalHolds, BoxHolds}
use Rattle.soundness.specs.Squares.{IsQuarterOf}

-- ---- what the lines are about
-- the targets of a list, in its order
abbrev pub targets_of : List Point → List Point
targets_of points = filter (λ p. not (is_source p.kind)) points

-- the place of the k-th of some points
abbrev pub nth_place : List Point → ℕ → Gaussian
nth_place points k = slice_index_or (map place points) k (gaussian (pos 0) (pos 0))

-- the k-th given target
abbrev pub nth_target : List LeafTarget → ℕ → LeafTarget
nth_target ts k = slice_index_or ts k (record { place = gaussian (pos 0) (pos 0); leaf = 0; box = zero_box })

-- the counts of the k-th target, of the real part and of the imaginary part
abbrev pub given_counts : Certificate → ℕ → BoxEnds
given_counts c k = nth_box (nth_line c.targets k).numbers 1

module _ (points : Points) (c : Certificate) where
  abbrev pub presented : Accounting
  presented = given_accounting points.list c

  -- ---- line 1: the version is that of the list, and it counts the list's points and its targets
  pub record HeadHolds : Type 0 where
    pub version : c.head.version ≡ points.version
    pub point_count : c.head.points ≡ length points.list
    pub target_count : c.head.targets ≡ length (targets_of points.list)

  -- ---- a node: node 0 is the whole grid, and the cell of another is a child of its parent's cell
  abbrev pub NodeHolds : ℕ → Type 0
  NodeHolds zero = presented.cell 0 ≡ root (grid_of c.head.version)
  NodeHolds (suc n) = IsQuarterOf (presented.cell (suc n)) (presented.cell (presented.parent (suc n)))

  -- ---- a point: its node is a leaf whose cell, with its west and south borders, has the point's place
  abbrev pub node_of : ℕ → ℕ
  node_of k = number_at (nth_line c.ats k) 0

  pub record PointHolds (k : ℕ) : Type 0 where
    pub leaf : is_leaf presented (node_of k) ≡ true
    pub held : Holds (presented.cell (node_of k)) (nth_place points.list k).re (nth_place points.list k).im

  -- ---- a multipole row: of a leaf, the row of its sources lies in it
  abbrev pub LeafRowHolds : ℕ → Type 0
  LeafRowHolds n = is_leaf presented n ≡ true → MultipoleHolds c.head.order presented n

  -- and of another node, the sum of its children's shifted rows
  abbrev pub InnerRowHolds : ℕ → Type 0
  InnerRowHolds n = is_leaf presented n ≡ false → MultipoleHolds c.head.order presented n

  -- ---- a local row of a node with a target under it: what comes from its parent and from its entries lies in the row, and loses no more than the radius
  abbrev pub LocalRowHolds : ℕ → Type 0
  LocalRowHolds n = has_target_under presented n ≡ true → LocalHolds c.head.order presented n

  -- and in a leaf with a target, the entries that reach it account for each source exactly once
  abbrev pub TilingHolds : ℕ → Type 0
  TilingHolds n = is_leaf presented n ≡ true → has_target_under presented n ≡ true → IsTiled presented n

  -- ---- an entry: both nodes of `u` are leaves; the cells of `v` are of one level and two or three sides apart; b of `w` is a leaf whose targets are
  -- far from c, and c of `x` a leaf whose sources are far from b
  abbrev pub IsFit : Letter → ℕ → ℕ → Type 0
  IsFit U b d = (is_leaf presented b ≡ true) × (is_leaf presented d ≡ true)
  IsFit V b d = ((presented.cell b).level ≡ (presented.cell d).level) × AreTwoOrThreeSidesApart (presented.cell b) (presented.cell d)
  IsFit W b d = (is_leaf presented b ≡ true) × Apart presented W b d
  IsFit X b d = (is_leaf presented d ≡ true) × Apart presented X b d

  abbrev pub EntryHolds : ℕ → Type 0
  EntryHolds n = let e = given_entry (nth_line c.entries n) in IsFit e.letter e.b e.c

  -- ---- a target: its box has the computed one in it, and its counts enclose the given box
  pub record TargetHolds (k : ℕ) : Type 0 where
    pub box : BoxHolds c.head.order presented (nth_target presented.targets k)
    pub counts : EncloseBox (nth_target presented.targets k).box (given_counts c k).re (given_counts c k).im

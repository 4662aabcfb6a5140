-- The certificate of an accounting over a list of points, at an order.
use Rattle.std.specs.Prelude.{ℕ, ℤ, pos, Bool, cond, List, [], ◌∷◌, ◌++◌, length, map, codes, flat_map}
use Rattle.std.specs.List.{range_with_len, list_any}
use Rattle.exact_math.specs.Ends.{BoxEnds}
use Rattle.cell_name.specs.Square.{Square}
use Rattle.cert_text.specs.Certificate.{Certificate}
use Rattle.cert_text.specs.Lines.{Line, line, letter_word}
use Rattle.letters.specs.declared.Entry.{Entry}
use Rattle.points.specs.Points.{is_source}
use Rattle.points.specs.declared.Point.{Point}
use Rattle.points.specs.declared.Points.{Points}
use Rattle.soundness.specs.Accounts.{Accounting, LeafSource, LeafTarget, under, has_target_under}
use Rattle.soundness.specs.Counts.{count_ends}

-- ---- lines
-- the four ends of a box
abbrev pub box_numbers : BoxEnds → List ℤ
box_numbers b = b.re.lo ∷ b.re.hi ∷ b.im.lo ∷ b.im.hi ∷ []

-- and of the first P boxes of a row
abbrev pub row_ends : ℕ → (ℕ → BoxEnds) → List ℤ
row_ends P row = flat_map (λ k. box_numbers (row k)) (range_with_len 0 P)

-- the counts of a box as ends of a box
abbrev pub box_counts : BoxEnds → BoxEnds
box_counts b = record { re = count_ends b.re; im = count_ends b.im }

-- a node: its parent and its cell
abbrev pub node_line : ℕ → Square → Line
node_line parent c = line (codes "node") (pos parent ∷ pos c.level ∷ pos c.i ∷ pos c.j ∷ [])

-- a point: its leaf
abbrev pub at_line : ℕ → Line
at_line leaf = line (codes "at") (pos leaf ∷ [])

-- a multipole row, of a node with a source
abbrev pub multipole_line : ℕ → Bool → (ℕ → BoxEnds) → Line
multipole_line P some row = cond some (line (codes "m") (row_ends P row)) (line (codes "m -") [])

abbrev pub entry_line : Entry → Line
entry_line e = line (letter_word e.letter) (pos e.b ∷ pos e.c ∷ [])

-- a radius and a local row, of a node with a target
abbrev pub local_line : ℕ → Bool → ℕ → (ℕ → BoxEnds) → Line
local_line P some radius row = cond some (line (codes "l") (pos radius ∷ row_ends P row)) (line (codes "l -") [])

-- a target: its box and its counts
abbrev pub given_target_line : BoxEnds → Line
given_target_line b = line (codes "t") (box_numbers b ++ box_numbers (box_counts b))

-- ---- the certificate
-- the leaves of the points in their order, from those of the sources and of the targets
abbrev pub leaves : List Point → List LeafSource → List LeafTarget → List ℕ
leaves [] xs ts = []
leaves (p ∷ ps) (x ∷ xs) (t ∷ ts) = cond (is_source p.kind) (x.leaf ∷ leaves ps xs (t ∷ ts)) (t.leaf ∷ leaves ps (x ∷ xs) ts)
leaves (p ∷ ps) (x ∷ xs) [] = x.leaf ∷ leaves ps xs []
leaves (p ∷ ps) [] (t ∷ ts) = t.leaf ∷ leaves ps [] ts
leaves (p ∷ ps) [] [] = []

module _ (A : Accounting) where
  abbrev pub numbers : List ℕ
  numbers = range_with_len 0 A.nodes

  -- some source's leaf is under a node
  abbrev pub has_source_under : ℕ → Bool
  has_source_under n = list_any (λ x. under A.parent x.leaf n) A.sources

abbrev pub certificate_of : Points → ℕ → Accounting → Certificate
certificate_of points P A = record {
  head = record { version = points.version; order = P; points = length points.list; targets = length A.targets; cells = A.nodes; entries = length A.entries };
  nodes = map (λ n. node_line (A.parent n) (A.cell n)) (numbers A);
  ats = map at_line (leaves points.list A.sources A.targets);
  multipoles = map (λ n. multipole_line P (has_source_under A n) (A.multipole n)) (numbers A);
  entries = map entry_line A.entries;
  locals = map (λ n. local_line P (has_target_under A n) (A.radius n) (A.local n)) (numbers A);
  targets = map (λ t. given_target_line t.box) A.targets;
}

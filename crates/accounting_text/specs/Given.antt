-- The accounting that a certificate gives over a list of points.
use Rattle.std.specs.Prelude.{ℕ, ◌≡◌, ◌<◌, ◌==◌, false, not, unsigned_abs, cond, List, [], ◌∷◌, length, map, filter, slice_index_or, drop}
use Rattle.exact_math.specs.Ends.{BoxEnds, zero_box}
use Rattle.cell_name.specs.Square.{Square}
use Rattle.cert_text.specs.Certificate.{Certificate, nth_line, nth_number, nth_box}
use Rattle.cert_text.specs.Lines.{Line, Head}
use Rattle.letters.specs.declared.Entry.{Entry}
use Rattle.letters.specs.declared.Letter.{Letter}
use Rattle.letters.specs.declared.Letter.TheVariants.{U, V, W, X}
use Rattle.limits.specs.Limits.{grid_of}
use Rattle.points.specs.Points.{is_source, place}
use Rattle.points.specs.declared.Point.{Point}
use Rattle.points.specs.declared.Points.{Points}
use Rattle.soundness.specs.Accounts.{Accounting, LeafSource, LeafTarget, has_target_under}
use Rattle.accounting_text.specs.Written.{certificate_of, has_source_under, box_counts}

-- the k-th number of a line, where it is a whole number from 0 on
abbrev pub number_at : Line → ℕ → ℕ
number_at l k = unsigned_abs (nth_number l.numbers k)

-- the letter of an entry's line, by its first byte: `u`, `v` or `w`, and `x` for any other
abbrev pub letter_of : List ℕ → Letter
letter_of word = let c = slice_index_or word 0 0 in cond (c == 117) U (cond (c == 118) V (cond (c == 119) W X))

abbrev pub given_cell : ℕ → Line → Square
given_cell version l = record { grid = grid_of version; level = number_at l 1; i = number_at l 2; j = number_at l 3 }

abbrev pub given_entry : Line → Entry
given_entry l = record { letter = letter_of l.word; b = number_at l 0; c = number_at l 1 }

-- the sources among the points, each with the node of its line
abbrev pub given_sources : List Point → List Line → List LeafSource
given_sources (p ∷ ps) (l ∷ ls) = cond (is_source p.kind) (record { point = p; leaf = number_at l 0 } ∷ given_sources ps ls) (given_sources ps ls)
given_sources _ _ = []

-- the targets among them, each with the node of its line and the next given box
abbrev pub given_targets : List Point → List Line → List Line → List LeafTarget
given_targets (p ∷ ps) (l ∷ ls) (t ∷ ts) =
    cond (is_source p.kind) (given_targets ps ls (t ∷ ts)) (record { place = place p; leaf = number_at l 0; box = nth_box t.numbers 0 } ∷ given_targets ps ls ts)
given_targets _ _ _ = []

abbrev pub given_accounting : List Point → Certificate → Accounting
given_accounting points c = record {
  nodes = c.head.cells;
  parent = λ n. number_at (nth_line c.nodes n) 0;
  cell = λ n. given_cell c.head.version (nth_line c.nodes n);
  sources = given_sources points c.ats;
  targets = given_targets points c.ats c.targets;
  entries = map given_entry c.entries;
  multipole = λ n. nth_box (nth_line c.multipoles n).numbers;
  local = λ n. nth_box (drop 1 (nth_line c.locals n).numbers);
  radius = λ n. number_at (nth_line c.locals n) 0;
}

-- ---- what is written is given
-- The accounting is one of these points: its sources and targets are theirs, in order, and its cells of their grid. What has no source under it has the zero row,
-- and what has no target under it the zero row and the radius 0.
pub record IsOfPoints (points : Points) (A : Accounting) : Type 0 where
  pub sources_are : map (λ x. x.point) A.sources ≡ filter (λ p. is_source p.kind) points.list
  pub targets_are : map (λ t. t.place) A.targets ≡ map place (filter (λ p. not (is_source p.kind)) points.list)
  pub of_grid : (n : ℕ) → n < A.nodes → (A.cell n).grid ≡ grid_of points.version
  pub without_source : (n : ℕ) → n < A.nodes → has_source_under A n ≡ false → (k : ℕ) → A.multipole n k ≡ zero_box
  pub without_target : (n : ℕ) → n < A.nodes → has_target_under A n ≡ false → (A.radius n ≡ 0) × ((k : ℕ) → A.local n k ≡ zero_box)

-- two accountings are the same up to what stands past their nodes and past the order
pub record AreSame (P : ℕ) (A B : Accounting) : Type 0 where
  pub nodes : A.nodes ≡ B.nodes
  pub sources : A.sources ≡ B.sources
  pub targets : A.targets ≡ B.targets
  pub entries : A.entries ≡ B.entries
  pub parent : (n : ℕ) → n < A.nodes → A.parent n ≡ B.parent n
  pub cell : (n : ℕ) → n < A.nodes → A.cell n ≡ B.cell n
  pub radius : (n : ℕ) → n < A.nodes → A.radius n ≡ B.radius n
  pub multipole : (n k : ℕ) → n < A.nodes → k < P → A.multipole n k ≡ B.multipole n k
  pub local : (n k : ℕ) → n < A.nodes → k < P → A.local n k ≡ B.local n k

abbrev pub WrittenIsGiven : Type 0
WrittenIsGiven = (points : Points) (P : ℕ) (A : Accounting) → IsOfPoints points A → AreSame P A (given_accounting points.list (certificate_of points P A))

-- ---- what else it says
-- the box of the k-th target, and the zero box past the last
abbrev pub nth_target_box : List LeafTarget → ℕ → BoxEnds
nth_target_box ts k = slice_index_or (map (λ t. t.box) ts) k zero_box

-- behind the box of each target stand its counts
abbrev pub CountsAreGiven : Type 0
CountsAreGiven =
    (points : Points) (P : ℕ) (A : Accounting) (k : ℕ) → k < length A.targets
    → nth_box (nth_line (certificate_of points P A).targets k).numbers 1 ≡ box_counts (nth_target_box A.targets k)

-- line 1 says the version of the points, the order, and how many points, targets, nodes and entries there are
pub record IsHeadOf (points : Points) (P : ℕ) (A : Accounting) (h : Head) : Type 0 where
  pub version : h.version ≡ points.version
  pub order : h.order ≡ P
  pub point_count : h.points ≡ length points.list
  pub targets : h.targets ≡ length A.targets
  pub cells : h.cells ≡ A.nodes
  pub entries : h.entries ≡ length A.entries

abbrev pub HeadIsGiven : Type 0
HeadIsGiven = (points : Points) (P : ℕ) (A : Accounting) → IsHeadOf points P A (certificate_of points P A).head

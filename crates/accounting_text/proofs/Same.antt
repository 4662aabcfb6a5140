-- What the certificate of an accounting gives is that accounting.
use Rattle.std.proofs.Common.{ℕ, zero, suc, ◌≡◌, ◌<◌, Bool, true, false, List, [], ◌∷◌, length, drop, map, refl, sym, ap, ap₂, ◌∙◌, arith}
use Rattle.std.specs.List.{range_with_len}
use Rattle.std.proofs.lemmas.List.FromFn.{get_or-map-range_with_len}
use Rattle.exact_math.specs.Ends.{BoxEnds, zero_box}
use Rattle.cell_name.specs.Square.{Square}
use Rattle.letters.specs.declared.Entry.{Entry}
use Rattle.letters.specs.declared.Letter.{Letter}
use Rattle.letters.specs.declared.Letter.TheVariants.{U, V, W, X}
use Rattle.cert_text.specs.Certificate.{nth_line, nth_box}
use Rattle.cert_text.specs.Lines.{Line, line, letter_word}
use Rattle.limits.specs.Limits.{grid_of}
use Rattle.points.specs.declared.Points.{Points}
use Rattle.soundness.specs.Accounts.{Accounting, LeafTarget, has_target_under}
use Rattle.accounting_text.specs.Given.{number_at, letter_of, given_cell, given_entry, given_accounting, IsOfPoints, AreSame, nth_target_box, IsHeadOf}
use Rattle.accounting_text.specs.Written.{node_line, multipole_line, entry_line, local_line, given_target_line, box_counts, has_source_under, certificate_of}
use Rattle.accounting_text.proofs.Leaves.{leaves_given}
use Rattle.accounting_text.proofs.RowNumbers.{boxes_of_row}

-- ---- entries
letter_given : (l : Letter) → letter_of (letter_word l) ≡ l
letter_given U = refl
letter_given V = refl
letter_given W = refl
letter_given X = refl

entry_given : (e : Entry) → given_entry (entry_line e) ≡ e
entry_given e = ap (λ l. record { letter = l; b = e.b; c = e.c }) (letter_given e.letter)

entries_given : (es : List Entry) → map given_entry (map entry_line es) ≡ es
entries_given [] = refl
entries_given (e ∷ es) = ap₂ (λ y ys. y ∷ ys) (entry_given e) (entries_given es)

-- ---- nodes
pub cell_given : (version parent : ℕ) (c : Square) → c.grid ≡ grid_of version → given_cell version (node_line parent c) ≡ c
cell_given version parent c e = ap (λ g. record { grid = g; level = c.level; i = c.i; j = c.j }) (sym e)

radius_given : (P radius : ℕ) (some : Bool) (row : ℕ → BoxEnds) → (some ≡ false → radius ≡ 0) → radius ≡ number_at (local_line P some radius row) 0
radius_given P radius true row h = refl
radius_given P radius false row h = h refl

multipole_given : (P k : ℕ) (some : Bool) (row : ℕ → BoxEnds) → k < P → (some ≡ false → row k ≡ zero_box) → row k ≡ nth_box (multipole_line P some row).numbers k
multipole_given P k true row lt h = sym (boxes_of_row P row k lt)
multipole_given P k false row lt h = h refl

local_given : (P k radius : ℕ) (some : Bool) (row : ℕ → BoxEnds) → k < P → (some ≡ false → row k ≡ zero_box) → row k ≡ nth_box (drop 1 (local_line P some radius row).numbers) k
local_given P k radius true row lt h = sym (boxes_of_row P row k lt)
local_given P k radius false row lt h = h refl

-- the line of a node among those of all nodes
pub line_of_node : (f : ℕ → Line) (nodes n : ℕ) → n < nodes → f n ≡ nth_line (map f (range_with_len 0 nodes)) n
line_of_node f nodes n lt = sym (get_or-map-range_with_len f 0 nodes n n (line [] []) lt (omega arith))

-- ---- the law
pub written_given : (points : Points) (P : ℕ) (A : Accounting) → IsOfPoints points A → AreSame P A (given_accounting points.list (certificate_of points P A))
written_given points P A of_points =
    let given = leaves_given points.list A.sources A.targets (of_points.sources_are, of_points.targets_are) in
    let nodes : (n : ℕ) → n < A.nodes → node_line (A.parent n) (A.cell n) ≡ nth_line (certificate_of points P A).nodes n =
    λ n lt. line_of_node (λ n. node_line (A.parent n) (A.cell n)) A.nodes n lt in
    let multipoles : (n : ℕ) → n < A.nodes → multipole_line P (has_source_under A n) (A.multipole n) ≡ nth_line (certificate_of points P A).multipoles n =
    λ n lt. line_of_node (λ n. multipole_line P (has_source_under A n) (A.multipole n)) A.nodes n lt in
    let locals : (n : ℕ) → n < A.nodes → local_line P (has_target_under A n) (A.radius n) (A.local n) ≡ nth_line (certificate_of points P A).locals n =
    λ n lt. line_of_node (λ n. local_line P (has_target_under A n) (A.radius n) (A.local n)) A.nodes n lt in
    record {
      nodes = refl;
      sources = sym given.0;
      targets = sym given.1;
      entries = sym (entries_given A.entries);
      parent = λ n lt. ap (λ l. number_at l 0) (nodes n lt);
      cell = λ n lt. sym (cell_given points.version (A.parent n) (A.cell n) (of_points.of_grid n lt)) ∙ ap (given_cell points.version) (nodes n lt);
      radius = λ n lt.
          radius_given P (A.radius n) (has_target_under A n) (A.local n) (λ none. (of_points.without_target n lt none).0) ∙ ap (λ l. number_at l 0) (locals n lt);
      multipole = λ n k lt inside.
          multipole_given P k (has_source_under A n) (A.multipole n) inside (λ none. of_points.without_source n lt none k) ∙ ap (λ l. nth_box l.numbers k) (multipoles n lt);
      local = λ n k lt inside.
          local_given P k (A.radius n) (has_target_under A n) (A.local n) inside (λ none. (of_points.without_target n lt none).1 k)
          ∙ ap (λ l. nth_box (drop 1 l.numbers) k) (locals n lt);
    }

-- ---- what else it says
target_lines : (ts : List LeafTarget) (k : ℕ) → k < length ts → nth_box (nth_line (map (λ t. given_target_line t.box) ts) k).numbers 1 ≡ box_counts (nth_target_box ts k)
target_lines [] k lt = absurd (omega (arith, lt))
target_lines (t ∷ ts) zero lt = refl
target_lines (t ∷ ts) (suc k) lt = target_lines ts k (omega (arith, lt))

pub counts_given : (points : Points) (P : ℕ) (A : Accounting) (k : ℕ) → k < length A.targets
    → nth_box (nth_line (certificate_of points P A).targets k).numbers 1 ≡ box_counts (nth_target_box A.targets k)
counts_given points P A = target_lines A.targets

pub head_given : (points : Points) (P : ℕ) (A : Accounting) → IsHeadOf points P A (certificate_of points P A).head
head_given points P A = record { version = refl; order = refl; point_count = refl; targets = refl; cells = refl; entries = refl }

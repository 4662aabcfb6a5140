-- The lines of a field's certificate as bytes, by the numbers of the program's tree, lists and places. No public contract cites it.
use Rattle.std.specs.Prelude.{ℕ, ◌+◌, ◌^◌, ◌≤◌, List, ◌++◌, length, flat_map, sum_by}
use Rattle.std.specs.List.{range_with_len}
use Rattle.accounting_text.specs.Written.{node_line, at_line, multipole_line, entry_line, local_line, given_target_line}
use Rattle.cell_lists.specs.EntryLists.{EntryListsModel, lists_of}
use Rattle.cell_lists.specs.ListAt.{list_at}
use Rattle.cert_text.specs.Lines.{line_bytes}
use Rattle.complex_box.specs.Box.{box_ends}
use Rattle.complex_box.specs.Rows.{at}
use Rattle.complex_box.specs.declared.CBox.{CBox}
use Rattle.field_basis.specs.Place.{place_at}
use Rattle.field_solve.specs.Parts.{FieldParts}
use Rattle.letters.specs.declared.Entry.{Entry}
use Rattle.letters.specs.declared.Letter.{Letter}
use Rattle.letters.specs.declared.Letter.TheVariants.{U, V, W, X}
use Rattle.quadtree.specs.TreeModel.{TreeModel, square_of, node_of, leaf_of}
use Rattle.row_recursions.specs.Rows.{row_of}

-- f 0, f 1 and so on, n texts
abbrev pub texts : (ℕ → List ℕ) → ℕ → List ℕ
texts f n = flat_map f (range_with_len 0 n)

-- ---- what stands of each cell
abbrev pub node_text : TreeModel → ℕ → List ℕ
node_text tree n = line_bytes (node_line (node_of tree n).parent (square_of tree n))

abbrev pub multipole_text : ℕ → FieldParts → ℕ → List ℕ
multipole_text P f n = line_bytes (multipole_line P (node_of f.basis.tree n).has_source (row_of (place_at f.up n).row))

abbrev pub local_text : ℕ → FieldParts → ℕ → List ℕ
local_text P f n = line_bytes (local_line P (node_of f.basis.tree n).has_target (place_at f.local n).radius (row_of (place_at f.local n).row))

-- an entry of a letter, of the cells of two numbers
abbrev pub listed_entry : Letter → ℕ → ℕ → Entry
listed_entry letter b c = record { letter = letter; b = b; c = c }

-- and the entries of a cell, with some others
abbrev pub listed_text : Letter → ℕ → List ℕ → List ℕ
listed_text letter b cs = flat_map (λ c. line_bytes (entry_line (listed_entry letter b c))) cs

-- one letter after the other
abbrev pub entries_text : EntryListsModel → ℕ → List ℕ
entries_text lists n =
    listed_text U n (list_at lists.u n) ++ (listed_text V n (list_at lists.v n) ++ (listed_text W n (list_at lists.w n) ++ listed_text X n (list_at lists.x n)))

-- ---- what stands of each point, and of each target
abbrev pub at_text : TreeModel → ℕ → List ℕ
at_text tree k = line_bytes (at_line (leaf_of tree k))

abbrev pub box_text : List CBox → ℕ → List ℕ
box_text values k = line_bytes (given_target_line (box_ends (at values k)))

-- ---- how many entries there are
abbrev pub total_of : EntryListsModel → Letter → ℕ
total_of lists letter = sum_by (λ list. length list) (lists_of lists letter)

abbrev pub entries_of : EntryListsModel → ℕ
entries_of lists = total_of lists U + total_of lists V + total_of lists W + total_of lists X

-- few enough to be counted
abbrev pub FewEntries : EntryListsModel → Type 0
FewEntries lists = (letter : Letter) → total_of lists letter ≤ 2 ^ 40

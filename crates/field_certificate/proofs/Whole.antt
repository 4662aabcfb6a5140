-- The certificate of a field in the pieces that are written.
use Rattle.std.proofs.Common.{ℕ, ◌≡◌, ◌+◌, ◌<◌, ◌≤◌, zero, suc, pos, List, [], ◌∷◌, ◌++◌, append_assoc, length, map, codes, Bool, true, false, cond, refl, sym, ap, ap₂, ◌∙◌, arith}
use Rattle.std.specs.List.{flat_map, range_with_len}
use Rattle.std.proofs.lemmas.List.Concat.{flat_map-append}
use Rattle.std.proofs.lemmas.List.Folds.{flat_map-map}
use Rattle.std.proofs.lemmas.Option.{get_or_from_slice_get}
use Rattle.accounting_text.specs.Written.{row_ends, box_numbers, multipole_line, entry_line, local_line, given_target_line}
use Rattle.cell_lists.specs.EntryLists.{EntryListsModel, lists_of}
use Rattle.cell_lists.specs.ListAt.{list_at}
use Rattle.cert_text.specs.Lines.{Line, line, line_bytes}
use Rattle.complex_box.specs.Box.{box_ends}
use Rattle.complex_box.specs.Rows.{zero_cbox}
use Rattle.complex_box.specs.declared.CBox.{CBox}
use Rattle.exact_math.specs.Ends.{BoxEnds}
use Rattle.letters.specs.declared.Entry.{Entry}
use Rattle.letters.specs.declared.Letter.{Letter}
use Rattle.letters.specs.declared.Letter.TheVariants.{U, V, W, X}
use Rattle.row_recursions.specs.Rows.{AreSameRows}
use Rattle.field_certificate.specs.ProgramLines.{texts, listed_entry, listed_text, entries_text, box_text}
use Rattle.field_certificate.proofs.FieldNumbers.{entries_at, flat_map-numbers, listed_entries}

-- ---- texts by numbers
same-from : (f g : ℕ → List ℕ) (a n : ℕ) → ((k : ℕ) → a ≤ k → k < a + n → f k ≡ g k) → flat_map f (range_with_len a n) ≡ flat_map g (range_with_len a n)
same-from f g a zero h = refl
same-from f g a (suc n) h = ap₂ (λ x y. x ++ y) (h a (omega arith) (omega arith)) (same-from f g (a + 1) n (λ k le lt. h k (omega arith) (omega arith)))

pub texts-same : (f g : ℕ → List ℕ) (n : ℕ) → ((k : ℕ) → k < n → f k ≡ g k) → texts f n ≡ texts g n
texts-same f g n h = same-from f g 0 n (λ k le lt. h k (omega arith))

-- ---- rows
ends-from : (m n : ℕ → BoxEnds) (a P : ℕ) → ((k : ℕ) → a ≤ k → k < a + P → m k ≡ n k) → flat_map (λ k. box_numbers (m k)) (range_with_len a P) ≡ flat_map (λ k. box_numbers (n k)) (range_with_len a P)
ends-from m n a zero h = refl
ends-from m n a (suc P) h = ap₂ (λ x y. box_numbers x ++ y) (h a (omega arith) (omega arith)) (ends-from m n (a + 1) P (λ k le lt. h k (omega arith) (omega arith)))

pub row_ends-same : (P : ℕ) (m n : ℕ → BoxEnds) → AreSameRows P m n → row_ends P m ≡ row_ends P n
row_ends-same P m n h = ends-from m n 0 P (λ k le lt. h k (omega arith))

pub multipole_line-same : (P : ℕ) (has some : Bool) (m n : ℕ → BoxEnds) → has ≡ some → AreSameRows P m n → multipole_line P has m ≡ multipole_line P some n
multipole_line-same P has some m n e h = ap₂ (λ (b : Bool) ends. cond b (line (codes "m") ends) (line (codes "m -") [])) e (row_ends-same P m n h)

-- where nothing is under a node, the row and the radius may be any
pub local_line-same : (P : ℕ) (has some : Bool) (r s : ℕ) (m n : ℕ → BoxEnds) → has ≡ some → (has ≡ true → (r ≡ s) × AreSameRows P m n) → local_line P has r m ≡ local_line P some s n
local_line-same P true some r s m n e h = ap₂ (λ radius ends. line (codes "l") (pos radius ∷ ends)) (h refl).0 (row_ends-same P m n (h refl).1) ∙ ap (λ (b : Bool). local_line P b s n) e
local_line-same P false some r s m n e h = ap (λ (b : Bool). local_line P b s n) e

-- ---- entries
listed-lines : (lists : EntryListsModel) (letter : Letter) (n : ℕ) → flat_map line_bytes (map entry_line (listed_entries lists letter n)) ≡ listed_text letter n (list_at (lists_of lists letter) n)
listed-lines lists letter n =
    flat_map-map line_bytes entry_line (listed_entries lists letter n)
    ∙ flat_map-map (λ e. line_bytes (entry_line e)) (listed_entry letter n) (list_at (lists_of lists letter) n)

lines-append : (es fs : List Entry) → flat_map line_bytes (map entry_line (es ++ fs)) ≡ flat_map line_bytes (map entry_line es) ++ flat_map line_bytes (map entry_line fs)
lines-append es fs =
    flat_map-map line_bytes entry_line (es ++ fs) ∙ flat_map-append (λ e. line_bytes (entry_line e)) es fs
    ∙ ap₂ (λ x y. x ++ y) (sym (flat_map-map line_bytes entry_line es)) (sym (flat_map-map line_bytes entry_line fs))

entries-lines-at : (lists : EntryListsModel) (n : ℕ) → flat_map line_bytes (map entry_line (entries_at lists n)) ≡ entries_text lists n
entries-lines-at lists n =
    lines-append (listed_entries lists U n) (listed_entries lists V n ++ (listed_entries lists W n ++ listed_entries lists X n))
    ∙ ap₂ (λ x y. x ++ y) (listed-lines lists U n) (lines-append (listed_entries lists V n) (listed_entries lists W n ++ listed_entries lists X n)
    ∙ ap₂ (λ x y. x ++ y) (listed-lines lists V n) (lines-append (listed_entries lists W n) (listed_entries lists X n)
    ∙ ap₂ (λ x y. x ++ y) (listed-lines lists W n) (listed-lines lists X n)))

pub entries-lines : (lists : EntryListsModel) (ns : List ℕ) → flat_map line_bytes (map entry_line (flat_map (entries_at lists) ns)) ≡ flat_map (entries_text lists) ns
entries-lines lists [] = refl
entries-lines lists (n ∷ ns) = lines-append (entries_at lists n) (flat_map (entries_at lists) ns) ∙ ap₂ (λ x y. x ++ y) (entries-lines-at lists n) (entries-lines lists ns)

-- ---- boxes
pub boxes-lines : (values : List CBox) → flat_map (λ b. line_bytes (given_target_line b)) (map box_ends values) ≡ texts (box_text values) (length values)
boxes-lines values =
    flat_map-map (λ b. line_bytes (given_target_line b)) box_ends values
    ∙ flat_map-numbers (λ v. line_bytes (given_target_line (box_ends v))) (box_text values) values 0
    (λ k v e. ap (λ w. line_bytes (given_target_line (box_ends w))) (sym (get_or_from_slice_get values k v zero_cbox e)) ∙ ap (box_text values) (omega arith))

-- ---- the whole
-- six sections between two lines, each put behind the others
pub whole-pieces : (h n a m e l t end : List ℕ) → (((((((h ++ n) ++ a) ++ m) ++ e) ++ l) ++ t) ++ end) ≡ h ++ ((n ++ (a ++ (m ++ (e ++ (l ++ t))))) ++ end)
whole-pieces h n a m e l t end = simp append_assoc

pub sections-bytes : (nodes ats multipoles entries locals targets : List Line)
    → flat_map line_bytes (nodes ++ (ats ++ (multipoles ++ (entries ++ (locals ++ targets)))))
    ≡ flat_map line_bytes nodes ++ (flat_map line_bytes ats ++ (flat_map line_bytes multipoles ++ (flat_map line_bytes entries ++ (flat_map line_bytes locals ++ flat_map line_bytes targets))))
sections-bytes nodes ats multipoles entries locals targets =
    flat_map-append line_bytes nodes (ats ++ (multipoles ++ (entries ++ (locals ++ targets))))
    ∙ ap (λ x. flat_map line_bytes nodes ++ x) (flat_map-append line_bytes ats (multipoles ++ (entries ++ (locals ++ targets)))
    ∙ ap (λ x. flat_map line_bytes ats ++ x) (flat_map-append line_bytes multipoles (entries ++ (locals ++ targets))
    ∙ ap (λ x. flat_map line_bytes multipoles ++ x) (flat_map-append line_bytes entries (locals ++ targets)
    ∙ ap (λ x. flat_map line_bytes entries ++ x) (flat_map-append line_bytes locals targets))))

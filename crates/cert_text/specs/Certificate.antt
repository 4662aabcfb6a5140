-- A certificate as data, and its one text.
use Rattle.std.specs.Prelude.{ℕ, ◌+◌, ◌*◌, ◌≡◌, ℤ, pos, List, [], ◌∷◌, ◌++◌, length, codes, flat_map, slice_index_or, drop}
use Rattle.exact_math.specs.Ends.{Ends, BoxEnds}
use Rattle.cert_text.specs.Lines.{Line, line, Head, line_bytes, cert_head_line}
use Rattle.cert_text.specs.Sections.{IsHead, AreLinesFrom}

-- line 1, and the lines of each section
pub record Certificate : Type 0 where
  pub head : Head
  pub nodes : List Line
  pub ats : List Line
  pub multipoles : List Line
  pub entries : List Line
  pub locals : List Line
  pub targets : List Line

abbrev pub end_line : Line
end_line = line (codes "end") []

-- all lines behind line 1 but the last, in order
abbrev pub lines_of : Certificate → List Line
lines_of c = c.nodes ++ (c.ats ++ (c.multipoles ++ (c.entries ++ (c.locals ++ c.targets))))

-- there are as many lines in each section as line 1 says, each of its form and in its range
pub record IsCertificate (c : Certificate) : Type 0 where
  pub head_is : IsHead c.head
  pub nodes_are : length c.nodes ≡ c.head.cells
  pub ats_are : length c.ats ≡ c.head.points
  pub multipoles_are : length c.multipoles ≡ c.head.cells
  pub entries_are : length c.entries ≡ c.head.entries
  pub locals_are : length c.locals ≡ c.head.cells
  pub targets_are : length c.targets ≡ c.head.targets
  pub lines_are : AreLinesFrom c.head 0 (lines_of c)

abbrev pub certificate_text : Certificate → List ℕ
certificate_text c = line_bytes (cert_head_line c.head) ++ (flat_map line_bytes (lines_of c) ++ line_bytes end_line)

pub record SpellsCert (bytes : List ℕ) (c : Certificate) : Type 0 where
  pub is_certificate : IsCertificate c
  pub text : bytes ≡ certificate_text c

-- ---- what a reader gives
-- the n-th line of a section
abbrev pub nth_line : List Line → ℕ → Line
nth_line ls n = slice_index_or ls n (line [] [])

-- the k-th number of a line; 0 past its last, as in the zero row
abbrev pub nth_number : List ℤ → ℕ → ℤ
nth_number zs k = slice_index_or zs k (pos 0)

-- the k-th box of four ends each
abbrev pub nth_box : List ℤ → ℕ → BoxEnds
nth_box zs k = record {
  re = record { lo = nth_number zs (4 * k); hi = nth_number zs (4 * k + 1) };
  im = record { lo = nth_number zs (4 * k + 2); hi = nth_number zs (4 * k + 3) };
}

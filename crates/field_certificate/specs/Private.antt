-- What the contracts of private functions say.
use Rattle.std.specs.Prelude.{ℕ, ℤ, List, [], ◌∷◌, ◌++◌, codes}
use Rattle.accounting_text.specs.Written.{row_ends}
use Rattle.cert_text.specs.Lines.{Line, line}
use Rattle.complex_box.specs.declared.CBox.{CBox}
use Rattle.number_text.specs.Numbers.{int_text}
use Rattle.number_text.specs.Parts.{space}
use Rattle.row_recursions.specs.Rows.{row_of}

-- the numbers, each behind a space, before a text
abbrev pub numbers_before : List ℤ → List ℕ → List ℕ
numbers_before [] text = text
numbers_before (z ∷ zs) text = space ∷ (int_text z ++ numbers_before zs text)

-- the line of a multipole row
abbrev pub line_of_multipole : ℕ → List CBox → Line
line_of_multipole P cells = line (codes "m") (row_ends P (row_of cells))

-- the line of a radius and a local row
abbrev pub line_of_local : ℕ → ℤ → List CBox → Line
line_of_local P radius cells = line (codes "l") (radius ∷ row_ends P (row_of cells))

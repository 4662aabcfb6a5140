-- How a certificate is kept: each item as the line that it stands for.
use Rattle.std.specs.Prelude.{ℕ, pos, ℤ, List, [], ◌∷◌, codes}
use Rattle.letters.specs.declared.Entry.{Entry}
use Rattle.cert_text.specs.declared.stored.Header.{Header}
use Rattle.cert_text.specs.declared.stored.NodeLine.{NodeLine}
use Rattle.cert_text.specs.Lines.{Line, line, Head, letter_word}

-- what line 1 says
abbrev pub head_of : Header → Head
head_of h = record { version = h.version; order = h.order; points = h.points; targets = h.targets; cells = h.cells; entries = h.entries }

abbrev pub node_numbers : NodeLine → List ℤ
node_numbers n = pos n.parent ∷ pos n.level ∷ pos n.i ∷ pos n.j ∷ []

abbrev pub kept_node : NodeLine → Line
kept_node n = line (codes "node") (node_numbers n)

abbrev pub kept_at : ℕ → Line
kept_at at = line (codes "at") (pos at ∷ [])

abbrev pub kept_entry : Entry → Line
kept_entry e = line (letter_word e.letter) (pos e.b ∷ pos e.c ∷ [])

-- a row with no numbers is the one given by `-`
abbrev pub kept_multipole : List ℤ → Line
kept_multipole [] = line (codes "m -") []
kept_multipole (z ∷ zs) = line (codes "m") (z ∷ zs)

abbrev pub kept_local : List ℤ → Line
kept_local [] = line (codes "l -") []
kept_local (z ∷ zs) = line (codes "l") (z ∷ zs)

abbrev pub kept_target : List ℤ → Line
kept_target zs = line (codes "t") zs

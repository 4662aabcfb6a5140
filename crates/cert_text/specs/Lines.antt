-- A line of a certificate: a word, and whole numbers in base ten, each behind a space.
use Rattle.std.specs.Prelude.{ℕ, ℤ, pos, List, [], ◌∷◌, ◌++◌, codes}
use Rattle.letters.specs.declared.Letter.{Letter}
use Rattle.letters.specs.declared.Letter.TheVariants.{U, V, W, X}
use Rattle.number_text.specs.Numbers.{numbers_text}

pub record Line : Type 0 where
  pub word : List ℕ
  pub numbers : List ℤ

abbrev pub line : List ℕ → List ℤ → Line
line word numbers = record { word = word; numbers = numbers }

-- its bytes, with its line feed
abbrev pub line_bytes : Line → List ℕ
line_bytes l = l.word ++ numbers_text l.numbers

-- the word of an entry's line
abbrev pub letter_word : Letter → List ℕ
letter_word U = codes "u"
letter_word V = codes "v"
letter_word W = codes "w"
letter_word X = codes "x"

-- what line 1 says: the version of the points, the order, and how many points, targets, cells and entries there are
pub record Head : Type 0 where
  pub version : ℕ
  pub order : ℕ
  pub points : ℕ
  pub targets : ℕ
  pub cells : ℕ
  pub entries : ℕ

-- line 1, with four counts
abbrev pub first_line : ℕ → ℕ → List ℤ → Line
first_line version order counts = line (codes "fmmcert") (pos version ∷ pos order ∷ counts)

abbrev pub head_counts : Head → List ℤ
head_counts h = pos h.points ∷ pos h.targets ∷ pos h.cells ∷ pos h.entries ∷ []

abbrev pub cert_head_line : Head → Line
cert_head_line h = first_line h.version h.order (head_counts h)

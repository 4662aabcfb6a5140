-- Texts cut at a byte: lines at line feeds, words at spaces.
use Rattle.std.specs.Prelude.{◌≡◌, ◌≢◌, ℕ, List, ◌∷◌, ◌++◌}
use Rattle.std.specs.List.{AllByRecursion}

-- ends a line
abbrev pub line_feed : ℕ
line_feed = 10

-- stands between two words
abbrev pub space : ℕ
space = 32

-- the byte stands nowhere in the text
abbrev pub IsFreeOf : ℕ → List ℕ → Type 0
IsFreeOf byte text = AllByRecursion (λ b. b ≢ byte) text

-- the text is cut at the first place of the byte: front stands before it and back behind it
pub record IsCut (byte : ℕ) (text front back : List ℕ) : Type 0 where
  pub whole : text ≡ front ++ byte ∷ back
  pub first : IsFreeOf byte front

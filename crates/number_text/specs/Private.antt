-- Words that only the contracts of private functions cite: a number at the front of a text.
use Rattle.std.specs.Prelude.{◌≡◌, ℕ, ℤ, List, [], ◌∷◌, ◌++◌}
use Rattle.std.specs.List.{AllByRecursion}
use Rattle.number_text.specs.Numbers.{IsDigit, uint_text, int_text}
use Rattle.number_text.specs.Parts.{space}

-- the text goes on with no digit
abbrev pub EndsDigits : List ℕ → Type 0
EndsDigits [] = Unit {0}
EndsDigits (c ∷ cs) = IsDigit c → ⊥

-- the text begins with these digits, and no digit follows
pub record BeginsWithDigits (text digits rest : List ℕ) : Type 0 where
  pub whole : text ≡ digits ++ rest
  pub all : AllByRecursion IsDigit digits
  pub ends : EndsDigits rest

-- the text begins with n, and no digit follows
pub record BeginsWithUint (text : List ℕ) (n : ℕ) (rest : List ℕ) : Type 0 where
  pub whole : text ≡ uint_text n ++ rest
  pub ends : EndsDigits rest

-- the text begins with z, and no digit follows
pub record BeginsWithInt (text : List ℕ) (z : ℤ) (rest : List ℕ) : Type 0 where
  pub whole : text ≡ int_text z ++ rest
  pub ends : EndsDigits rest

-- the text begins with a space and z, and no digit follows
pub record BeginsWithSpaced (text : List ℕ) (z : ℤ) (rest : List ℕ) : Type 0 where
  pub whole : text ≡ space ∷ (int_text z ++ rest)
  pub ends : EndsDigits rest

-- Whole numbers as text, in base ten. Each number has one spelling.
use Rattle.std.specs.Int.Digits.{digits_of}
use Rattle.std.specs.Prelude.{◌≡◌, ℕ, zero, suc, ◌+◌, ◌-◌, ◌*◌, ◌^◌, ◌≤◌, ◌⊎◌, min, List, [], ◌∷◌, ◌++◌, map, ℤ, pos, negsuc, neg_ℤ}
use Rattle.std.specs.List.{AllByRecursion}
use Rattle.number_text.specs.Parts.{IsCut, line_feed, space}

-- a digit, `0` to `9`
abbrev pub IsDigit : ℕ → Type 0
IsDigit c = (48 ≤ c) × (c ≤ 57)

-- `0`, or a digit from 1 to 9 followed by any number of digits
abbrev pub IsPlainNumber : List ℕ → Type 0
IsPlainNumber [] = ⊥
IsPlainNumber (c ∷ cs) = ((c ≡ 48) × (cs ≡ [])) ⊎ ((49 ≤ c) × (c ≤ 57) × AllByRecursion IsDigit cs)

-- what the digits stand for, where those before them stand for n
abbrev pub value_after : ℕ → List ℕ → ℕ
value_after n [] = n
value_after n (c ∷ cs) = value_after (10 * n + (c - 48)) cs

-- the word spells n
pub record IsUint (word : List ℕ) (n : ℕ) : Type 0 where
  pub form : IsPlainNumber word
  pub value : value_after 0 word ≡ n

-- the word spells z: a number below 0 as `-` and its size, so that `-0` spells nothing
abbrev pub IsInt : List ℕ → ℤ → Type 0
IsInt word (pos n) = IsUint word n
IsInt word (negsuc n) = (digits : List ℕ) × (word ≡ 45 ∷ digits) × IsUint digits (suc n)

-- the greatest size of a number that is read as it is: 10^18
abbrev pub most_read : ℕ
most_read = 1_000_000_000_000_000_000

-- n, or the greatest size that is read where n is greater
abbrev pub cut_uint : ℕ → ℕ
cut_uint n = min n most_read

-- z, or the number of its sign and of the greatest size that is read where z is greater in size
abbrev pub cut_int : ℤ → ℤ
cut_int (pos n) = pos (cut_uint n)
cut_int (negsuc n) = neg_ℤ (pos (cut_uint (suc n)))

-- n in base ten, of any number of digits, the highest first
unfoldable pub uint_text : ℕ → List ℕ
uint_text zero = 48 ∷ []
uint_text (suc n) = map (λ d. 48 + d) (digits_of 10 (suc n))

-- z in base ten, the one word that spells it
abbrev pub int_text : ℤ → List ℕ
int_text (pos n) = uint_text n
int_text (negsuc n) = 45 ∷ uint_text (suc n)

-- the numbers in base ten, each behind a space, and a line feed
abbrev pub numbers_text : List ℤ → List ℕ
numbers_text [] = line_feed ∷ []
numbers_text (z ∷ zs) = space ∷ (int_text z ++ numbers_text zs)

-- the greatest size of a wide number that is read as it is
abbrev pub most_wide : ℕ
most_wide = 2 ^ 100

-- z, or the number of its sign and of the greatest size that is read where z is greater in size
abbrev pub cut_wide : ℤ → ℤ
cut_wide (pos n) = pos (min n most_wide)
cut_wide (negsuc n) = neg_ℤ (pos (min (suc n) most_wide))

-- the words of the text spell these numbers, with one space between each two of them
abbrev pub AreInts : List ℕ → List ℤ → Type 0
AreInts text [] = text ≡ []
AreInts text (z ∷ []) = IsInt text z
AreInts text (z ∷ y ∷ zs) = (word rest : List ℕ) × IsCut space text word rest × IsInt word z × AreInts rest (y ∷ zs)

-- The decimal text of a count of 10^-12.
use Rattle.std.specs.Prelude.{ℕ, zero, suc, ◌+◌, ◌/◌, ◌%◌, ◌^◌, ℤ, pos, negsuc, List, [], ◌∷◌, ◌++◌, codes, decimal}

-- the last k decimal digits of n, leading zeros included
unfoldable pub digits_in : ℕ → ℕ → List ℕ
digits_in zero n = []
digits_in (suc k) n = digits_in k (n / 10) ++ (48 + n % 10) ∷ []

-- the whole part without leading zeros, a point, and 12 digits
abbrev pub unsigned_text : ℕ → List ℕ
unsigned_text n = decimal (n / 10 ^ 12) ++ codes "." ++ digits_in 12 (n % 10 ^ 12)

-- the same with `-` exactly where the count is negative
abbrev pub decimal_text : ℤ → List ℕ
decimal_text (pos n) = unsigned_text n
decimal_text (negsuc n) = codes "-" ++ unsigned_text (suc n)

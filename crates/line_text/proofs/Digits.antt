-- Numbers written from the last digit to the first.
use Rattle.std.proofs.Common.{◌≡◌, ℕ, suc, ◌+◌, ◌/◌, ◌%◌, ◌^◌, ◌<◌, ◌≤◌, List, ◌∷◌, [], ◌++◌, length, refl, ap, ◌∙◌, length-append, append_assoc, arith, decimal}
use Rattle.std.proofs.lemmas.Fmt.{decimal_digit, decimal_step, decimal_nonempty, length-decimal-le}
use Rattle.line_text.specs.Decimals.{digits_in}

-- the last of the places
pub digits_in-last : (k n : ℕ) (text : List ℕ) → digits_in (suc k) n ++ text ≡ digits_in k (n / 10) ++ ((48 + n % 10) ∷ text)
unfolding digits_in
digits_in-last k n text = append_assoc (digits_in k (n / 10)) ((48 + n % 10) ∷ []) text

pub digits_in-none : (n : ℕ) (text : List ℕ) → digits_in 0 n ++ text ≡ text
unfolding digits_in
digits_in-none n text = refl

-- the last digit of a number with more than one
pub decimal-last : (n : ℕ) (text : List ℕ) → 10 ≤ n → n < 2 ^ 64 → decimal n ++ text ≡ decimal (n / 10) ++ ((48 + n % 10) ∷ text)
decimal-last n text h fits = ap (λ l. l ++ text) (decimal_step n h fits) ∙ append_assoc (decimal (n / 10)) ((48 + n % 10) ∷ []) text

-- a number of one digit
pub decimal-one : (n : ℕ) (text : List ℕ) → n < 10 → decimal n ++ text ≡ (48 + n) ∷ text
decimal-one n text h = ap (λ l. l ++ text) (decimal_digit n h)

-- at most 20 digits are written of a number, so that one more finds room before the text
pub decimal_room : (n rest : ℕ) (old text : List ℕ) → n < 2 ^ 64 → rest < 2 ^ 64 → decimal n ++ old ≡ decimal rest ++ text → length text + 1 ≤ 20 + length old
decimal_room n rest old text fits rest_fits e =
    let most : length (decimal n) ≤ 20 = length-decimal-le 20 n (omega arith) (omega arith) fits in
    let least : 0 < length (decimal rest) = decimal_nonempty rest rest_fits in
    let sizes = simp length-append at (ap length e) in
    omega (arith, most, least, sizes)

-- Numbers of up to 39 digits, written from the last digit to the first.
use Rattle.std.proofs.Common.{◌≡◌, ℕ, ◌+◌, ◌/◌, ◌%◌, ◌^◌, ◌<◌, ◌≤◌, List, ◌∷◌, [], ◌++◌, length, ap, ◌∙◌, length-append, append_assoc, arith, decimal}
use Rattle.std.proofs.lemmas.Fmt.{decimal_step_wide, decimal_by_steps_wide, length-decimal-le_wide}

-- the last digit of a number with more than one
pub decimal-last : (n : ℕ) (text : List ℕ) → 10 ≤ n → n < 2 ^ 128 → decimal n ++ text ≡ decimal (n / 10) ++ ((48 + n % 10) ∷ text)
decimal-last n text h fits = ap (λ l. l ++ text) (decimal_step_wide n h (omega arith)) ∙ append_assoc (decimal (n / 10)) ((48 + n % 10) ∷ []) text

some_digit : (n : ℕ) → n < 2 ^ 128 → 0 < length (decimal n)
some_digit n fits = decimal_by_steps_wide (λ n ds. 0 < length ds) (λ n h. omega arith) (λ n ds h some. omega (arith, length-append ds ((48 + n % 10) ∷ []))) n (omega arith)

-- at most 39 digits are written of a number, so that one more finds room before the text
pub decimal_room : (n rest : ℕ) (old text : List ℕ) → n < 2 ^ 128 → rest < 2 ^ 128 → decimal n ++ old ≡ decimal rest ++ text → length text + 1 ≤ 39 + length old
decimal_room n rest old text fits rest_fits e =
    let most : length (decimal n) ≤ 39 = length-decimal-le_wide 39 n (omega arith) (omega arith) (omega arith) in
    let least : 0 < length (decimal rest) = some_digit rest rest_fits in
    let sizes = simp length-append at (ap length e) in
    omega (arith, most, least, sizes)

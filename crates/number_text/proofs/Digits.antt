-- Digits read from the left.
use Rattle.std.proofs.Common.{◌≡◌, ℕ, ◌+◌, ◌-◌, ◌*◌, ◌<◌, List, [], ◌∷◌, ◌++◌, length, take, get_or, min, refl, ap, ◌∙◌, arith, ◌≢◌, ℤ, pos, negsuc, neg_ℤ, zero, suc, drop}
use Rattle.std.proofs.lemmas.List.{take_more}
use Rattle.std.proofs.lemmas.List.Elements.{All-from_recursion, recursion_from_All, All-more}
use Rattle.std.specs.List.{AllByRecursion}
use Rattle.number_text.specs.Numbers.{IsDigit, IsUint, IsInt, value_after, cut_uint, cut_int, most_read}

pub value_after-append : (n : ℕ) (xs ys : List ℕ) → value_after n (xs ++ ys) ≡ value_after (value_after n xs) ys
value_after-append n [] ys = refl
value_after-append n (x ∷ xs) ys = value_after-append (10 * n + (x - 48)) xs ys

-- the value with one more digit
pub value_more : (digits : List ℕ) (i : ℕ) → i < length digits → value_after 0 (take (i + 1) digits) ≡ 10 * value_after 0 (take i digits) + (get_or digits i 0 - 48)
value_more digits i within = ap (value_after 0) (take_more digits i 0 within) ∙ value_after-append 0 (take i digits) (get_or digits i 0 ∷ [])

-- reading on from a value that was cut to the greatest one gives the value that is cut so
pub cut_more : (v m d : ℕ) → v ≡ cut_uint m → min (10 * v + d) most_read ≡ cut_uint (10 * m + d)
cut_more v m d e = omega arith

pub digits_more : (digits : List ℕ) (i : ℕ) → i < length digits → AllByRecursion IsDigit (take i digits) → IsDigit (get_or digits i 0) → AllByRecursion IsDigit (take (i + 1) digits)
digits_more digits i within before here = recursion_from_All IsDigit _ (All-more IsDigit digits i 0 within (All-from_recursion IsDigit _ before) here)

-- the number that `-` and a number other than 0 spell
pub below_zero : (word : List ℕ) (m size : ℕ) → word ≡ 45 ∷ drop 1 word → IsUint (drop 1 word) m → size ≡ cut_uint m → size ≢ 0 → (z : ℤ) × IsInt word z × (neg_ℤ (pos size) ≡ cut_int z)
below_zero word zero size whole uint read above = absurd (above (omega arith))
below_zero word (suc m) size whole uint read above = (negsuc m, (drop 1 word, whole, uint), ap (λ n. neg_ℤ (pos n)) read)

-- Digits read one by one, and the numbers that they are.
use Rattle.std.proofs.Common.{◌≡◌, ◌≢◌, ◌-ℤ◌, to_z, of_z, ◌+◌, ◌-◌, ◌*◌, ◌<◌, ℕ, zero, suc, min, List, [], ◌∷◌, ◌++◌, length, take, drop, get_or, ℤ, pos, negsuc, refl, sym, ap, ◌∙◌, subst, inl, inr, arith}
use Rattle.std.specs.Int.{w128}
use Rattle.std.specs.List.{AllByRecursion}
use Rattle.std.proofs.lemmas.Int.{ints}
use Rattle.std.proofs.lemmas.List.{drop_more, take_more, append_assoc, take-append-drop}
use Rattle.std.proofs.lemmas.Bool.{cases_lt}
use mathlib.Core.Logic.{⊎_elim}
use Rattle.number_text.specs.Numbers.{IsDigit, IsPlainNumber, value_after, uint_text, cut_wide, most_wide}
use Rattle.number_text.specs.Private.{BeginsWithUint, BeginsWithInt, EndsDigits, BeginsWithDigits}
use Rattle.number_text.proofs.Cuts.{head_of, tail_of}
use Rattle.number_text.proofs.Digits.{value_after-append}
use Rattle.number_text.proofs.Spelling.{one_uint}
use Rattle.number_text.proofs.NumbersText.{uint_of_text, digits_once, plain_digits_all, number_once}

-- ---- digits read one by one
-- reading on from a value that was cut to the greatest one gives the value that is cut so
pub cut_wide-more : (v m d : ℕ) → v ≡ min m most_wide → min (10 * v + d) most_wide ≡ min (10 * m + d) most_wide
cut_wide-more v m d e = omega arith

-- the value with one more digit
pub value_more-from : (n : ℕ) (digits : List ℕ) (i : ℕ) → i < length digits → value_after n (take (i + 1) digits) ≡ 10 * value_after n (take i digits) + (get_or digits i 0 - 48)
value_more-from n digits i within = ap (value_after n) (take_more digits i 0 within) ∙ value_after-append n (take i digits) (get_or digits i 0 ∷ [])

pub ends_at : (text : List ℕ) (i : ℕ) → i < length text → (IsDigit (get_or text i 0) → ⊥) → EndsDigits (drop i text)
ends_at text i within none = subst EndsDigits (sym (drop_more text i 0 within)) none

pub plain_of_digits : (digits : List ℕ) → AllByRecursion IsDigit digits → 0 < length digits → (1 < length digits → get_or digits 0 0 ≡ 48 → ⊥) → IsPlainNumber digits
plain_of_digits [] all some first = absurd (omega arith)
plain_of_digits (c ∷ []) all some first = ⊎_elim (λ low. inl (omega (arith, all.0), refl)) (λ high. inr (high, omega (arith, all.0), tt)) (cases_lt c 49)
plain_of_digits (c ∷ d ∷ cs) all some first = ⊎_elim (λ low. absurd (first (omega arith) (omega (arith, all.0)))) (λ high. inr (high, omega (arith, all.0), all.1)) (cases_lt c 49)

no_empty : (digits : List ℕ) → length digits ≡ 0 → IsPlainNumber digits → ⊥
no_empty [] none form = form
no_empty (c ∷ cs) none form = omega arith

no_leading_zero : (digits : List ℕ) → 1 < length digits → get_or digits 0 0 ≡ 48 → IsPlainNumber digits → ⊥
no_leading_zero [] more first form = form
no_leading_zero (c ∷ []) more first form = omega arith
no_leading_zero (c ∷ d ∷ cs) more first form = elim form [ inl alone ↦ (let e : length (d ∷ cs) ≡ 0 = ap length alone.1 in omega arith) | inr plain ↦ omega (arith, first) ]

-- the number that the digits are
pub uint_read : (text digits rest : List ℕ) → BeginsWithDigits text digits rest → IsPlainNumber digits → BeginsWithUint text (value_after 0 digits) rest
uint_read text digits rest begins form =
    let spelled : digits ≡ uint_text (value_after 0 digits) = one_uint digits _ _ (record { form = form; value = refl }) (uint_of_text _) in
    record { whole = begins.whole ∙ ap (λ front. front ++ rest) spelled; ends = begins.ends }

no_uint : (text digits rest : List ℕ) → BeginsWithDigits text digits rest → (IsPlainNumber digits → ⊥) → (n : ℕ) (back : List ℕ) → BeginsWithUint text n back → ⊥
no_uint text digits rest begins none n back uint =
    let form = (uint_of_text n).form in
    let same = digits_once digits (uint_text n) rest back begins.all (plain_digits_all (uint_text n) form) begins.ends uint.ends (sym begins.whole ∙ uint.whole) in
    none (subst IsPlainNumber (sym same.fronts) form)

pub no_uint-empty : (text digits rest : List ℕ) → BeginsWithDigits text digits rest → length digits ≡ 0 → (n : ℕ) (back : List ℕ) → BeginsWithUint text n back → ⊥
no_uint-empty text digits rest begins none = no_uint text digits rest begins (no_empty digits none)

pub first_of : (text front rest : List ℕ) → text ≡ front ++ rest → 0 < length front → get_or text 0 0 ≡ get_or front 0 0
first_of text [] rest e some = absurd (omega arith)
first_of text (c ∷ cs) rest e some = ap (λ xs. get_or xs 0 0) e

pub no_uint-zero : (text digits rest : List ℕ) → BeginsWithDigits text digits rest → 1 < length digits → get_or text 0 0 ≡ 48 → (n : ℕ) (back : List ℕ) → BeginsWithUint text n back → ⊥
no_uint-zero text digits rest begins more first = no_uint text digits rest begins (no_leading_zero digits more (sym (first_of text digits rest begins.whole (omega arith)) ∙ first))

-- ---- a sign in front of the digits
no_first : (c : ℕ) (word cs rest : List ℕ) → AllByRecursion IsDigit word → 0 < length word → (IsDigit c → ⊥) → c ∷ cs ≡ word ++ rest → ⊥
no_first c [] cs rest all some none e = omega arith
no_first c (d ∷ ds) cs rest all some none e = none (subst IsDigit (sym (head_of _ _ _ _ e)) all.0)

some_digits : (word : List ℕ) → IsPlainNumber word → 0 < length word
some_digits [] form = absurd form
some_digits (c ∷ cs) form = omega arith

no_sign_first : (n : ℕ) (cs rest : List ℕ) → 45 ∷ cs ≡ uint_text n ++ rest → ⊥
no_sign_first n cs rest e =
    let form = (uint_of_text n).form in
    no_first 45 (uint_text n) cs rest (plain_digits_all _ form) (some_digits _ form) (λ digit. omega (arith, digit.0)) e

pub no_int-signed : (text digits : List ℕ) → text ≡ 45 ∷ digits → ((n : ℕ) (rest : List ℕ) → BeginsWithUint digits n rest → ⊥) → (z : ℤ) (rest : List ℕ) → BeginsWithInt text z rest → ⊥
no_int-signed text digits sign none (pos n) rest int = no_sign_first n digits rest (sym sign ∙ int.whole)
no_int-signed text digits sign none (negsuc n) rest int = none (suc n) rest (record { whole = tail_of _ _ _ _ (sym sign ∙ int.whole); ends = int.ends })

pub no_int-zero : (text digits back : List ℕ) → text ≡ 45 ∷ digits → BeginsWithUint digits 0 back → (z : ℤ) (rest : List ℕ) → BeginsWithInt text z rest → ⊥
no_int-zero text digits back sign nought (pos n) rest int = no_sign_first n digits rest (sym sign ∙ int.whole)
no_int-zero text digits back sign nought (negsuc n) rest int =
    let same = number_once (pos (suc n)) (pos 0) rest back int.ends nought.ends (sym (tail_of _ _ _ _ (sym sign ∙ int.whole)) ∙ nought.whole) in
    absurd (omega (arith, ints, same.number))

-- a number that is read with its sign
pub above_read : (text rest : List ℕ) (n size : ℕ) → BeginsWithUint text n rest → size ≡ min n most_wide → (z : ℤ) × BeginsWithInt text z rest × (to_z w128 size ≡ cut_wide z)
above_read text rest n size uint cut = (pos n, record { whole = uint.whole; ends = uint.ends }, omega (arith, ints, cut))

pub below_read : (text digits rest : List ℕ) (n size : ℕ) → text ≡ 45 ∷ digits → BeginsWithUint digits n rest → size ≡ min n most_wide → size ≢ 0
    → (z : ℤ) × BeginsWithInt text z rest × (to_z w128 (of_z w128 (pos 0 -ℤ to_z w128 size)) ≡ cut_wide z)
below_read text digits rest zero size sign uint cut some = absurd (some (omega arith))
below_read text digits rest (suc n) size sign uint cut some =
    (negsuc n, record { whole = sign ∙ ap (λ cs. 45 ∷ cs) uint.whole; ends = uint.ends }, omega (arith, ints, cut))

all_both : (xs ys : List ℕ) → AllByRecursion IsDigit xs → AllByRecursion IsDigit ys → AllByRecursion IsDigit (xs ++ ys)
all_both [] ys a b = b
all_both (x ∷ xs) ys a b = (a.0, all_both xs ys a.1 b)

-- the first i digits, and those that were read behind them
pub digits_joined : (text digits rest : List ℕ) (i value size : ℕ) → AllByRecursion IsDigit (take i text) → value ≡ value_after 0 (take i text) → BeginsWithDigits (drop i text) digits rest
    → size ≡ min (value_after value digits) most_wide → (all : List ℕ) × BeginsWithDigits text all rest × (size ≡ min (value_after 0 all) most_wide)
digits_joined text digits rest i value size front is begins read = (
  take i text ++ digits,
  record {
    whole = sym (take-append-drop i text) ∙ ap (λ xs. take i text ++ xs) begins.whole ∙ sym (append_assoc (take i text) digits rest);
    all = all_both (take i text) digits front begins.all;
    ends = begins.ends;
  },
  read ∙ ap (λ n. min (value_after n digits) most_wide) is ∙ ap (λ n. min n most_wide) (sym (value_after-append 0 (take i text) digits)),
)

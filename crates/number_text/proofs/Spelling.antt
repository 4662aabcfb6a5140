-- The one spelling of each whole number: the digits of its size, the highest first.
use Rattle.std.proofs.Common.{◌≡◌, ℕ, zero, suc, ◌+◌, ◌-◌, ◌*◌, ◌/◌, ◌%◌, ◌^◌, ◌<◌, ◌≤◌, List, [], ◌∷◌, ◌++◌, map, get_or, ℤ, pos, negsuc, refl, sym, ap, ◌∙◌, subst, inl, inr, arith}
use Rattle.std.specs.List.{AllByRecursion}
use Rattle.std.specs.Int.Digits.{digits_of, number_from_digits_after, AllBelowBase}
use Rattle.std.specs.Fmt.{decimal, signed_decimal}
use Rattle.std.proofs.lemmas.List.{append-nil, append_assoc, map-append}
use Rattle.std.proofs.lemmas.Int.Digits.{digits_of_step, first_digits_of, all_below_base_digits_of, number_digits_of}
use Rattle.std.proofs.lemmas.Fmt.{decimal-digits_of, decimal_digit}
use lib.Signed.{mag}
use Rattle.number_text.specs.Numbers.{IsDigit, IsPlainNumber, IsUint, IsInt, value_after}

-- the byte of a digit
abbrev pub ascii : ℕ → ℕ
ascii d = 48 + d

one_more : (n d next : ℕ) → 0 < n → d < 10 → next ≡ 10 * n + d → digits_of 10 next ≡ digits_of 10 n ++ d ∷ []
one_more n d next above small is =
    let quotient : next / 10 ≡ n = omega arith in
    let rest : next % 10 ≡ d = omega arith in
    digits_of_step 10 next (omega arith) (omega arith) ∙ ap (λ q. digits_of 10 q ++ next % 10 ∷ []) quotient ∙ ap (λ r. digits_of 10 n ++ r ∷ []) rest

-- the digits of a number go on with the bytes that are read on
spelled_after : (n : ℕ) (cs : List ℕ) → 0 < n → AllByRecursion IsDigit cs → map ascii (digits_of 10 (value_after n cs)) ≡ map ascii (digits_of 10 n) ++ cs
spelled_after n [] above all = sym (append-nil _)
spelled_after n (c ∷ cs) above all =
    let next = 10 * n + (c - 48) in
    let more = one_more n (c - 48) next above (omega (arith, all.0)) refl in
    let byte : ascii (c - 48) ≡ c = omega (arith, all.0) in
    let texts : map ascii (digits_of 10 next) ≡ map ascii (digits_of 10 n) ++ c ∷ [] =
    ap (map ascii) more ∙ map-append ascii (digits_of 10 n) ((c - 48) ∷ []) ∙ ap (λ b. map ascii (digits_of 10 n) ++ b ∷ []) byte in
    spelled_after next cs (omega arith) all.1 ∙ ap (λ front. front ++ cs) texts ∙ append_assoc (map ascii (digits_of 10 n)) (c ∷ []) cs

pub one_digit : (d n : ℕ) → 0 < d → d < 10 → n ≡ d → digits_of 10 n ≡ d ∷ []
one_digit d n above small is =
    let quotient : n / 10 ≡ 0 = omega arith in
    let rest : n % 10 ≡ d = omega arith in
    digits_of_step 10 n (omega arith) (omega arith) ∙ ap (λ q. digits_of 10 q ++ n % 10 ∷ []) quotient ∙ ap (λ r. r ∷ []) rest

not_zero : (c : ℕ) (cs : List ℕ) (n : ℕ) → c ≡ 48 → cs ≡ [] → value_after 0 (c ∷ cs) ≡ n → n ≡ 0
not_zero c cs n head tail value = sym value ∙ ap (λ b. value_after 0 (b ∷ cs)) head ∙ ap (λ bs. value_after 0 (48 ∷ bs)) tail

-- a word that spells a number above 0 is its digits
pub uint_spelling : (word : List ℕ) (n : ℕ) → IsUint word n → 0 < n → word ≡ map ascii (digits_of 10 n)
uint_spelling [] n uint above = absurd uint.form
uint_spelling (c ∷ cs) n uint above = elim uint.form [
  | inl alone ↦ absurd (let e = not_zero c cs n alone.0 alone.1 uint.value in omega arith)
  | inr plain ↦
      let first = one_digit (c - 48) (10 * 0 + (c - 48)) (omega arith) (omega arith) (omega arith) in
      let text = spelled_after (10 * 0 + (c - 48)) cs (omega arith) plain.2 in
      let byte : ascii (c - 48) ≡ c = omega arith in
      sym (ap (λ v. map ascii (digits_of 10 v)) (sym uint.value) ∙ text ∙ ap (λ ds. map ascii ds ++ cs) first ∙ ap (λ b. b ∷ cs) byte)
]

value_grows : (n : ℕ) (cs : List ℕ) → n ≤ value_after n cs
value_grows n [] = omega arith
value_grows n (c ∷ cs) = omega (arith, value_grows (10 * n + (c - 48)) cs)

zero_spelling : (word : List ℕ) → IsUint word 0 → word ≡ 48 ∷ []
zero_spelling [] uint = absurd uint.form
zero_spelling (c ∷ cs) uint = elim uint.form [
  | inl alone ↦ ap (λ b. b ∷ cs) alone.0 ∙ ap (λ bs. 48 ∷ bs) alone.1
  | inr plain ↦ absurd (omega (arith, value_grows (10 * 0 + (c - 48)) cs, uint.value))
]

pub one_uint : (word other : List ℕ) (n : ℕ) → IsUint word n → IsUint other n → word ≡ other
one_uint word other zero a b = zero_spelling word a ∙ sym (zero_spelling other b)
one_uint word other (suc n) a b = uint_spelling word (suc n) a (omega arith) ∙ sym (uint_spelling other (suc n) b (omega arith))

pub one_word : (word other : List ℕ) (z : ℤ) → IsInt word z → IsInt other z → word ≡ other
one_word word other (pos n) a b = one_uint word other n a b
one_word word other (negsuc n) a b = a.1 ∙ ap (λ digits. 45 ∷ digits) (one_uint a.0 b.0 (suc n) a.2 b.2) ∙ sym b.1

-- each number has a spelling
plain_digits : (ds : List ℕ) → AllBelowBase 10 ds → AllByRecursion IsDigit (map ascii ds)
plain_digits [] all = tt
plain_digits (d ∷ ds) all = ((omega arith, omega (arith, all.0)), plain_digits ds all.1)

plain_number : (ds : List ℕ) → AllBelowBase 10 ds → 0 < get_or ds 0 0 → IsPlainNumber (map ascii ds)
plain_number [] all first = absurd (omega arith)
plain_number (d ∷ ds) all first = inr (omega arith, omega (arith, all.0), plain_digits ds all.1)

value_of_digits : (n : ℕ) (ds : List ℕ) → value_after n (map ascii ds) ≡ number_from_digits_after 10 n ds
value_of_digits n [] = refl
value_of_digits n (d ∷ ds) =
    let next : 10 * n + (48 + d - 48) ≡ n * 10 + d = omega arith in
    ap (λ m. value_after m (map ascii ds)) next ∙ value_of_digits (n * 10 + d) ds

pub uint_of_digits : (n : ℕ) → 0 < n → IsUint (map ascii (digits_of 10 n)) n
uint_of_digits n above = record {
  form = plain_number (digits_of 10 n) (all_below_base_digits_of 10 n (omega arith)) (first_digits_of 10 n (omega arith) above);
  value = value_of_digits 0 (digits_of 10 n) ∙ number_digits_of 10 n (omega arith);
}

pub uint_of_decimal : (n : ℕ) → n < 2 ^ 64 → IsUint (decimal n) n
uint_of_decimal zero small =
    let alone : IsUint (48 ∷ []) 0 = record { form = inl (refl, refl); value = refl } in
    subst (λ word. IsUint word 0) (sym (decimal_digit 0 (omega arith))) alone
uint_of_decimal (suc n) small = subst (λ word. IsUint word (suc n)) (sym (decimal-digits_of (suc n) (omega arith) small)) (uint_of_digits (suc n) (omega arith))

pub int_of_decimal : (z : ℤ) → mag z < 2 ^ 63 → IsInt (signed_decimal z) z
int_of_decimal (pos n) small = uint_of_decimal n (omega arith)
int_of_decimal (negsuc n) small = (decimal (suc n), refl, uint_of_decimal (suc n) (omega arith))

-- Rows of numbers in base ten: what begins with one begins with no other. Numbers that are cut where they are read.
use Rattle.std.proofs.Common.{◌≡◌, ◌+◌, ◌/◌, ◌%◌, ◌<◌, ◌≤◌, ◌^◌, ℕ, zero, suc, List, [], ◌∷◌, ◌++◌, length, map, ℤ, pos, negsuc, neg_ℤ, ◌≤ℤ◌, ◌<ℤ◌, refl, sym, ap, ◌∙◌, subst, inl, inr, arith}
use Rattle.std.specs.Int.Digits.{digits_of}
use Rattle.std.specs.Fmt.{decimal, signed_decimal}
use Rattle.std.specs.List.{AllByRecursion}
use Rattle.std.proofs.lemmas.Int.{ints}
use Rattle.std.proofs.lemmas.Int.Digits.{digits_of_step}
use Rattle.std.proofs.lemmas.Fmt.{decimal_digit, decimal_by_steps_wide}
use Rattle.std.proofs.lemmas.List.{append_assoc, map_push}
use lib.Signed.{mag}
use Rattle.number_text.specs.Numbers.{IsDigit, IsPlainNumber, IsUint, IsInt, uint_text, int_text, numbers_text, cut_wide, most_wide}
use Rattle.number_text.specs.Private.{EndsDigits}
use Rattle.number_text.proofs.Cuts.{head_of, tail_of}
use Rattle.number_text.proofs.Rows.{one_number}
use Rattle.number_text.proofs.Spelling.{ascii, one_digit, uint_of_digits}

-- ---- the spelling of each number
pub uint_of_text : (n : ℕ) → IsUint (uint_text n) n
unfolding uint_text
uint_of_text zero = record { form = inl (refl, refl); value = refl }
uint_of_text (suc n) = uint_of_digits (suc n) (omega arith)

pub int_of_text : (z : ℤ) → IsInt (int_text z) z
int_of_text (pos n) = uint_of_text n
int_of_text (negsuc n) = (uint_text (suc n), refl, uint_of_text (suc n))

-- ---- where a number ends
pub numbers_end : (zs : List ℤ) (r : List ℕ) → EndsDigits (numbers_text zs ++ r)
numbers_end [] r = λ digit. omega (arith, digit.0)
numbers_end (z ∷ zs) r = λ digit. omega (arith, digit.0)

-- a text and what follows it, read in one way
pub record SameParts (front other back rest : List ℕ) : Type 0 where
  pub fronts : front ≡ other
  pub backs : back ≡ rest

pub digits_once : (xs ys r s : List ℕ) → AllByRecursion IsDigit xs → AllByRecursion IsDigit ys → EndsDigits r → EndsDigits s → xs ++ r ≡ ys ++ s → SameParts xs ys r s
digits_once [] [] r s _ _ _ _ e = record { fronts = refl; backs = e }
digits_once [] (y ∷ ys) [] s _ _ _ _ e = cc
digits_once [] (y ∷ ys) (c ∷ r) s _ all end _ e = absurd (end (subst IsDigit (sym (head_of _ _ _ _ e)) all.0))
digits_once (x ∷ xs) [] r [] _ _ _ _ e = cc
digits_once (x ∷ xs) [] r (c ∷ s) all _ _ end e = absurd (end (subst IsDigit (head_of _ _ _ _ e) all.0))
digits_once (x ∷ xs) (y ∷ ys) r s a b end end' e =
    let rest = digits_once xs ys r s a.1 b.1 end end' (tail_of _ _ _ _ e) in
    let heads : x ≡ y = head_of _ _ _ _ e in
    record { fronts = ap (λ c. c ∷ xs) heads ∙ ap (λ cs. y ∷ cs) rest.fronts; backs = rest.backs }

-- a word of digits, or a sign and digits
abbrev pub IsSigned : List ℕ → Type 0
IsSigned [] = ⊥
IsSigned (c ∷ cs) = AllByRecursion IsDigit cs

pub plain_digits_all : (word : List ℕ) → IsPlainNumber word → AllByRecursion IsDigit word
plain_digits_all [] form = absurd form
plain_digits_all (c ∷ cs) form = elim form [
  | inl alone ↦ ((omega arith, omega arith), subst (AllByRecursion IsDigit) (sym alone.1) tt)
  | inr plain ↦ ((omega arith, omega arith), plain.2)
]

plain_signed : (word : List ℕ) → IsPlainNumber word → IsSigned word
plain_signed [] form = absurd form
plain_signed (c ∷ cs) form = (plain_digits_all (c ∷ cs) form).1

int_signed : (word : List ℕ) (z : ℤ) → IsInt word z → IsSigned word
int_signed word (pos n) int = plain_signed word int.form
int_signed word (negsuc n) int = subst IsSigned (sym int.1) (plain_digits_all int.0 int.2.form)

signed_once : (word other r s : List ℕ) → IsSigned word → IsSigned other → EndsDigits r → EndsDigits s → word ++ r ≡ other ++ s → SameParts word other r s
signed_once [] other r s a b end end' e = absurd a
signed_once (x ∷ xs) [] r s a b end end' e = absurd b
signed_once (x ∷ xs) (y ∷ ys) r s a b end end' e =
    let rest = digits_once xs ys r s a b end end' (tail_of _ _ _ _ e) in
    let heads : x ≡ y = head_of _ _ _ _ e in
    record { fronts = ap (λ c. c ∷ xs) heads ∙ ap (λ cs. y ∷ cs) rest.fronts; backs = rest.backs }

pub record SameNumber (y z : ℤ) (back rest : List ℕ) : Type 0 where
  pub number : y ≡ z
  pub backs : back ≡ rest

-- a text begins with one number, where no digit follows it
pub number_once : (y z : ℤ) (r s : List ℕ) → EndsDigits r → EndsDigits s → int_text y ++ r ≡ int_text z ++ s → SameNumber y z r s
number_once y z r s end end' e =
    let a = int_of_text y in
    let b = int_of_text z in
    let same = signed_once (int_text y) (int_text z) r s (int_signed _ y a) (int_signed _ z b) end end' e in
    record { number = one_number (int_text z) y z (subst (λ w. IsInt w y) same.fronts a) b; backs = same.backs }

-- ---- rows
-- a text begins with one row of a given length
pub numbers_text-once : (zs ws : List ℤ) (r s : List ℕ) → length zs ≡ length ws → numbers_text zs ++ r ≡ numbers_text ws ++ s → (zs ≡ ws) × (r ≡ s)
numbers_text-once [] [] r s same e = (refl, tail_of _ _ _ _ e)
numbers_text-once [] (w ∷ ws) r s same e = absurd (omega arith)
numbers_text-once (z ∷ zs) [] r s same e = absurd (omega arith)
numbers_text-once (z ∷ zs) (w ∷ ws) r s same e =
    let behind = tail_of _ _ _ _ e in
    let split : int_text z ++ (numbers_text zs ++ r) ≡ int_text w ++ (numbers_text ws ++ s) =
    sym (append_assoc (int_text z) (numbers_text zs) r) ∙ behind ∙ append_assoc (int_text w) (numbers_text ws) s in
    let first = number_once z w (numbers_text zs ++ r) (numbers_text ws ++ s) (numbers_end zs r) (numbers_end ws s) split in
    let rest = numbers_text-once zs ws r s (omega arith) first.backs in
    (ap (λ n. n ∷ zs) first.number ∙ ap (λ ns. w ∷ ns) rest.0, rest.1)

-- ---- as printed
decimal_is : (n : ℕ) → n < 10 ^ 64 → 0 < n → decimal n ≡ map ascii (digits_of 10 n)
decimal_is = decimal_by_steps_wide (λ m ds. 0 < m → ds ≡ map ascii (digits_of 10 m)) one more
  where
    one : (m : ℕ) → m < 10 → 0 < m → (48 + m) ∷ [] ≡ map ascii (digits_of 10 m)
    one m small above = ap (map ascii) (sym (one_digit m m above small refl))

    more : (m : ℕ) (ds : List ℕ) → 10 ≤ m → (0 < m / 10 → ds ≡ map ascii (digits_of 10 (m / 10))) → 0 < m → ds ++ ((48 + m % 10) ∷ []) ≡ map ascii (digits_of 10 m)
    more m ds large front above =
        ap (λ xs. xs ++ ((48 + m % 10) ∷ [])) (front (omega arith)) ∙ sym (map_push ascii (digits_of 10 (m / 10)) (m % 10)) ∙ ap (map ascii) (sym (digits_of_step 10 m (omega arith) above))

uint_text-decimal : (n : ℕ) → n < 10 ^ 64 → uint_text n ≡ decimal n
unfolding uint_text
uint_text-decimal zero small = sym (decimal_digit 0 (omega arith))
uint_text-decimal (suc n) small = sym (decimal_is (suc n) small (omega arith))

-- what is printed of a number of at most 64 digits
pub int_text-decimal : (z : ℤ) → mag z + 1 < 10 ^ 64 → int_text z ≡ signed_decimal z
int_text-decimal (pos n) small = uint_text-decimal n (omega arith)
int_text-decimal (negsuc n) small = ap (λ digits. 45 ∷ digits) (uint_text-decimal (suc n) (omega arith))

-- ---- numbers that are cut
-- nothing is cut off a number below the greatest size
pub cut_wide-within : (n : ℕ) (z : ℤ) → n < 2 ^ 100 → neg_ℤ (pos n) ≤ℤ z → z ≤ℤ pos n → cut_wide z ≡ z
cut_wide-within n (pos m) small above below = omega (arith, ints)
cut_wide-within n (negsuc m) small above below = omega (arith, ints)

-- what is read as a number below the greatest size is that number
pub cut_wide-small : (n : ℕ) (z : ℤ) → n < 2 ^ 100 → neg_ℤ (pos n) ≤ℤ cut_wide z → cut_wide z ≤ℤ pos n → cut_wide z ≡ z
cut_wide-small n (pos m) small above below = omega (arith, ints)
cut_wide-small n (negsuc m) small above below = omega (arith, ints)

-- the same of a number from 0 on that is read as one below n
pub cut_wide-below : (n : ℕ) (z : ℤ) → n ≤ 2 ^ 100 → pos 0 ≤ℤ cut_wide z → cut_wide z <ℤ pos n → cut_wide z ≡ z
cut_wide-below n (pos m) small above below = omega (arith, ints)
cut_wide-below n (negsuc m) small above below = omega (arith, ints)

-- the sign stays
pub cut_wide-sign : (z : ℤ) → pos 0 ≤ℤ z → pos 0 ≤ℤ cut_wide z
cut_wide-sign (pos m) sign = omega (arith, ints)
cut_wide-sign (negsuc m) sign = omega (arith, ints)

pub cut_wide-signed : (z : ℤ) → pos 0 ≤ℤ cut_wide z → pos 0 ≤ℤ z
cut_wide-signed (pos m) sign = omega (arith, ints)
cut_wide-signed (negsuc m) sign = omega (arith, ints)

-- and so does the order
pub cut_wide-le : (y z : ℤ) → y ≤ℤ z → cut_wide y ≤ℤ cut_wide z
cut_wide-le (pos m) (pos n) le = omega (arith, ints)
cut_wide-le (pos m) (negsuc n) le = omega (arith, ints)
cut_wide-le (negsuc m) (pos n) le = omega (arith, ints)
cut_wide-le (negsuc m) (negsuc n) le = omega (arith, ints)

-- a number is cut to one of at most the greatest size
pub cut_wide-most : (z : ℤ) → (neg_ℤ (pos most_wide) ≤ℤ cut_wide z) × (cut_wide z ≤ℤ pos most_wide)
cut_wide-most (pos m) = (omega (arith, ints), omega (arith, ints))
cut_wide-most (negsuc m) = (omega (arith, ints), omega (arith, ints))

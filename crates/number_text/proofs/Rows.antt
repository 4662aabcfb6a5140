-- Numbers in a row, and casts of what is read.
use Rattle.std.proofs.Common.{◌≡◌, ◌<◌, ◌≤ℤ◌, List, [], ◌∷◌, ◌++◌, length, ℕ, suc, ℤ, pos, negsuc, neg_ℤ, refl, sym, ap, ◌∙◌, subst, arith, to_z, of_z, w64, inl, inr}
use Rattle.std.proofs.lemmas.Int.{ints}
use Rattle.number_text.specs.Numbers.{IsDigit, IsPlainNumber, IsInt, AreInts, value_after, cut_int, most_read}
use Rattle.std.specs.List.{AllByRecursion}
use Rattle.number_text.specs.Parts.{IsCut, IsFreeOf, space}
use Rattle.number_text.proofs.Spelling.{one_word}
use Rattle.number_text.proofs.Cuts.{same_cut, tail_of}

-- behind the first word stand the other numbers
pub later_ints : (text word rest : List ℕ) (x y : ℤ) (zs : List ℤ) → IsCut space text word rest → AreInts text (x ∷ y ∷ zs) → AreInts rest (y ∷ zs)
later_ints text word rest x y zs cut ints =
    let same = same_cut space text ints.0 ints.1 word rest ints.2 cut in
    subst (λ t. AreInts t (y ∷ zs)) same.backs ints.4

-- what is read passes through a cast
pub kept : (v z : ℤ) → v ≡ cut_int z → to_z w64 (of_z w64 v) ≡ cut_int z
kept v (pos n) read = omega (arith, ints)
kept v (negsuc n) read = omega (arith, ints)

-- the sign begins no number from 0 on
no_sign : (digits : List ℕ) → IsPlainNumber (45 ∷ digits) → ⊥
no_sign digits form = elim form [ inl alone ↦ omega arith | inr plain ↦ omega arith ]

-- a word spells one number
pub one_number : (word : List ℕ) (y z : ℤ) → IsInt word y → IsInt word z → y ≡ z
one_number word (pos m) (pos n) a b = ap pos (sym a.value ∙ b.value)
one_number word (negsuc m) (negsuc n) a b =
    let digits = tail_of 45 45 a.0 b.0 (sym a.1 ∙ b.1) in
    let sizes : suc m ≡ suc n = sym a.2.value ∙ ap (value_after 0) digits ∙ b.2.value in
    ap negsuc (omega arith)
one_number word (pos m) (negsuc n) a b = absurd (no_sign b.0 (subst IsPlainNumber b.1 a.form))
one_number word (negsuc m) (pos n) a b = absurd (no_sign a.0 (subst IsPlainNumber a.1 b.form))

-- a text spells one row of a given length
pub one_row : (text : List ℕ) (ys zs : List ℤ) → length ys ≡ length zs → AreInts text ys → AreInts text zs → ys ≡ zs
one_row text [] [] same a b = refl
one_row text [] (z ∷ zs) same a b = absurd (omega arith)
one_row text (y ∷ ys) [] same a b = absurd (omega arith)
one_row text (y ∷ []) (z ∷ []) same a b = ap (λ n. n ∷ []) (one_number text y z a b)
one_row text (y ∷ []) (z ∷ w ∷ zs) same a b = absurd (omega arith)
one_row text (y ∷ x ∷ ys) (z ∷ []) same a b = absurd (omega arith)
one_row text (y ∷ x ∷ ys) (z ∷ w ∷ zs) same a b =
    let cuts = same_cut space text a.0 a.1 b.0 b.1 a.2 b.2 in
    let first = one_number b.0 y z (subst (λ t. IsInt t y) cuts.fronts a.3) b.3 in
    let rest = one_row b.1 (x ∷ ys) (w ∷ zs) (omega arith) (subst (λ t. AreInts t (x ∷ ys)) cuts.backs a.4) b.4 in
    ap (λ n. n ∷ x ∷ ys) first ∙ ap (λ ns. z ∷ ns) rest

-- nothing is cut off a number below the greatest size
pub cut_small : (n : ℕ) (z : ℤ) → n < most_read → neg_ℤ (pos n) ≤ℤ z → z ≤ℤ pos n → cut_int z ≡ z
cut_small n (pos m) small above below = omega (arith, ints)
cut_small n (negsuc m) small above below = omega (arith, ints)

-- a number that is cut lies beyond all that is below the greatest size
pub small_cut : (n : ℕ) (z : ℤ) → n < most_read → neg_ℤ (pos n) ≤ℤ cut_int z → cut_int z ≤ℤ pos n → cut_int z ≡ z
small_cut n (pos m) small above below = omega (arith, ints)
small_cut n (negsuc m) small above below = omega (arith, ints)

-- the bytes of a number stand at or above the sign
digits_free : (byte : ℕ) (digits : List ℕ) → byte < 48 → AllByRecursion IsDigit digits → IsFreeOf byte digits
digits_free byte [] below all = tt
digits_free byte (c ∷ cs) below all = ((λ same. omega (arith, same, all.0)), digits_free byte cs below all.1)

plain_free : (byte : ℕ) (word : List ℕ) → byte < 48 → IsPlainNumber word → IsFreeOf byte word
plain_free byte [] below form = absurd form
plain_free byte (c ∷ cs) below form = elim form [
  | inl alone ↦ ((λ same. omega (arith, same, alone.0)), subst (IsFreeOf byte) (sym alone.1) tt)
  | inr plain ↦ ((λ same. omega (arith, same)), digits_free byte cs below plain.2)
]

pub int_free : (byte : ℕ) (word : List ℕ) (z : ℤ) → byte < 45 → IsInt word z → IsFreeOf byte word
int_free byte word (pos n) below int = plain_free byte word (omega arith) int.form
int_free byte word (negsuc n) below int = subst (IsFreeOf byte) (sym int.1) ((λ same. omega (arith, same)), plain_free byte int.0 (omega arith) int.2.form)

-- a row has one spelling
pub one_spelled_row : (text other : List ℕ) (zs : List ℤ) → AreInts text zs → AreInts other zs → text ≡ other
one_spelled_row text other [] a b = a ∙ sym b
one_spelled_row text other (z ∷ []) a b = one_word text other z a b
one_spelled_row text other (z ∷ y ∷ zs) a b =
    let first = one_word a.0 b.0 z a.3 b.3 in
    let rest = one_spelled_row a.1 b.1 (y ∷ zs) a.4 b.4 in
    a.2.whole ∙ ap (λ word. word ++ 32 ∷ a.1) first ∙ ap (λ back. b.0 ++ 32 ∷ back) rest ∙ sym b.2.whole

-- A list of words from its words, and numbers by their decimals.
use Rattle.std.proofs.Common.{◌≡◌, ℕ, ◌<◌, ◌≤◌, ◌^◌, List, [], ◌∷◌, codes, length, slice_get, slice_index_or, take, Some, arith, sym, ap, subst, ◌∙◌}
use Rattle.std.specs.Prelude.{decimal}
use Rattle.exact_math.proofs.Orders.{order_bounds}
use Rattle.exact_math.specs.Orders.{IsCapacity, IsOrder}
use Rattle.number_text.proofs.Spelling.{one_uint, uint_of_decimal}
use Rattle.number_text.specs.Numbers.{IsUint, value_after}
use Rattle.fmm_program.proofs.FrontWords.{front_word}
use Rattle.fmm_program.specs.Forms.{IsCheck, IsNoSolve, IsSolve}
use Rattle.fmm_program.specs.Samples.{IsSample}

-- the same word in both
pub same_word : (a b : List ℕ) → Some a ≡ Some b → a ≡ b
same_word a b e = cc

-- the two words of a list
pub two_words : (xs : List (List ℕ)) (a b : List ℕ) → length xs ≡ 2 → slice_get xs 0 ≡ Some a → slice_get xs 1 ≡ Some b → xs ≡ a ∷ b ∷ []
two_words [] a b n p q = absurd (omega arith)
two_words (w ∷ []) a b n p q = absurd (omega arith)
two_words (w ∷ x ∷ []) a b n p q = cc
two_words (w ∷ x ∷ y ∷ rest) a b n p q = absurd (omega arith)

-- the first four words of a list
pub four_words : (xs : List (List ℕ)) (a b c d : List ℕ) → 4 ≤ length xs → slice_get xs 0 ≡ Some a → slice_get xs 1 ≡ Some b → slice_get xs 2 ≡ Some c → slice_get xs 3 ≡ Some d → take 4 xs ≡ a ∷ b ∷ c ∷ d ∷ []
four_words [] a b c d n p q r s = absurd (omega arith)
four_words (w ∷ []) a b c d n p q r s = absurd (omega arith)
four_words (w ∷ x ∷ []) a b c d n p q r s = absurd (omega arith)
four_words (w ∷ x ∷ y ∷ []) a b c d n p q r s = absurd (omega arith)
four_words (w ∷ x ∷ y ∷ z ∷ rest) a b c d n p q r s = cc

-- and the first five
pub five_words : (xs : List (List ℕ)) (a b c d e : List ℕ) → 5 ≤ length xs → slice_get xs 0 ≡ Some a → slice_get xs 1 ≡ Some b → slice_get xs 2 ≡ Some c → slice_get xs 3 ≡ Some d → slice_get xs 4 ≡ Some e → take 5 xs ≡ a ∷ b ∷ c ∷ d ∷ e ∷ []
five_words [] a b c d e n p q r s t = absurd (omega arith)
five_words (v ∷ []) a b c d e n p q r s t = absurd (omega arith)
five_words (v ∷ w ∷ []) a b c d e n p q r s t = absurd (omega arith)
five_words (v ∷ w ∷ x ∷ []) a b c d e n p q r s t = absurd (omega arith)
five_words (v ∷ w ∷ x ∷ y ∷ []) a b c d e n p q r s t = absurd (omega arith)
five_words (v ∷ w ∷ x ∷ y ∷ z ∷ rest) a b c d e n p q r s t = cc

-- ---- decimals
-- a word that spells a number is its decimal
pub is_decimal : (word : List ℕ) (m n : ℕ) → IsUint word m → m ≡ n → n < 2 ^ 64 → word ≡ decimal n
is_decimal word m n spells same small = one_uint word (decimal n) n (subst (IsUint word) same spells) (uint_of_decimal n small)

-- a decimal spells its number alone
pub spelled_by : (word : List ℕ) (m n : ℕ) → IsUint word m → word ≡ decimal n → n < 2 ^ 64 → m ≡ n
spelled_by word m n spells e small = sym spells.value ∙ ap (value_after 0) e ∙ (uint_of_decimal n small).value

pub one_number : (m n : ℕ) → m < 2 ^ 64 → n < 2 ^ 64 → decimal m ≡ decimal n → m ≡ n
one_number m n m_small n_small e = spelled_by (decimal m) m n (uint_of_decimal m m_small) e n_small

pub small_order : (order : ℕ) → IsOrder order → order < 2 ^ 64
small_order order is = omega (arith, (order_bounds order is).1)

pub small_capacity : (cap : ℕ) → IsCapacity cap → cap < 2 ^ 64
small_capacity cap is = omega (arith, is.most)

-- ---- the words of one form have one order and one capacity
module _ (words : List (List ℕ)) (order cap other limit : ℕ) (file rest : List ℕ) (p : IsSolve words order cap file) (q : IsSolve words other limit rest) where
  solve_word : (k : ℕ) → k < 4 → slice_get (codes "solve" ∷ decimal order ∷ decimal cap ∷ file ∷ []) k ≡ slice_get (codes "solve" ∷ decimal other ∷ decimal limit ∷ rest ∷ []) k
  solve_word k h = sym (front_word words _ k p.words_are h) ∙ front_word words _ k q.words_are h

  pub one_order : order ≡ other
  one_order = one_number order other (small_order order p.is_order) (small_order other q.is_order) (same_word _ _ (solve_word 1 (omega arith)))

  pub one_capacity : cap ≡ limit
  one_capacity = one_number cap limit (small_capacity cap p.is_capacity) (small_capacity limit q.is_capacity) (same_word _ _ (solve_word 2 (omega arith)))

-- and so of the other
module _ (words : List (List ℕ)) (seed n order cap seed' n' order' cap' : ℕ) (p : IsSample words seed n order cap) (q : IsSample words seed' n' order' cap') where
  sample_word : (k : ℕ) → k < 5 → slice_get (codes "sample" ∷ decimal seed ∷ decimal n ∷ decimal order ∷ decimal cap ∷ []) k ≡ slice_get (codes "sample" ∷ decimal seed' ∷ decimal n' ∷ decimal order' ∷ decimal cap' ∷ []) k
  sample_word k h = sym (front_word words _ k p.words_are h) ∙ front_word words _ k q.words_are h

  pub one_seed : seed ≡ seed'
  one_seed = one_number seed seed' (omega (arith, p.seed_fits)) (omega (arith, q.seed_fits)) (same_word _ _ (sample_word 1 (omega arith)))

  pub one_count : n ≡ n'
  one_count = one_number n n' (omega (arith, p.count_fits.1)) (omega (arith, q.count_fits.1)) (same_word _ _ (sample_word 2 (omega arith)))

  pub one_sample_order : order ≡ order'
  one_sample_order = one_number order order' (small_order order p.is_order.is_order) (small_order order' q.is_order.is_order) (same_word _ _ (sample_word 3 (omega arith)))

  pub one_sample_capacity : cap ≡ cap'
  one_sample_capacity = one_number cap cap' (small_capacity cap p.is_capacity) (small_capacity cap' q.is_capacity) (same_word _ _ (sample_word 4 (omega arith)))

-- words that ask for a sample ask for no solve
pub sample_is_no_solve : (words : List (List ℕ)) (seed n order cap : ℕ) → IsSample words seed n order cap → IsNoSolve words
sample_is_no_solve words seed n order cap p order' cap' file q =
    let same : codes "sample" ≡ codes "solve" = same_word _ _ (sym (front_word words _ 0 p.words_are (omega arith)) ∙ front_word words _ 0 q.words_are (omega arith)) in
    absurd (let l = ap length same in omega arith)

-- words that ask for a check ask for no solve and for no sample
pub check_is_no_solve : (words : List (List ℕ)) (file : List ℕ) → IsCheck words file → IsNoSolve words
check_is_no_solve words file p order cap other q =
    let same : codes "check" ≡ codes "solve" = same_word _ _ (sym (ap (λ w. slice_get w 0) p.words_are) ∙ front_word words _ 0 q.words_are (omega arith)) in
    absurd (let first = ap (λ w. slice_index_or w 0 0) same in omega (arith, first))

pub check_is_no_sample : (words : List (List ℕ)) (file : List ℕ) → IsCheck words file → (seed n order cap : ℕ) → IsSample words seed n order cap → ⊥
check_is_no_sample words file p seed n order cap q =
    let same : codes "check" ≡ codes "sample" = same_word _ _ (sym (ap (λ w. slice_get w 0) p.words_are) ∙ front_word words _ 0 q.words_are (omega arith)) in
    absurd (let l = ap length same in omega arith)

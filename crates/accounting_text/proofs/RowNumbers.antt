-- Boxes among the numbers of a line: the k-th box of the ends of a row is the k-th of the row.
use Rattle.std.proofs.Common.{ℕ, zero, suc, ◌≡◌, ◌+◌, ◌*◌, ◌<◌, ℤ, List, ◌∷◌, refl, ap, ◌∙◌, arith}
use Rattle.std.specs.List.{range_with_len, flat_map}
use Rattle.exact_math.specs.Ends.{BoxEnds}
use Rattle.cert_text.specs.Certificate.{nth_box}
use Rattle.accounting_text.specs.Written.{box_numbers, row_ends}

-- four numbers in front are one box
after_four : (a b c d : ℤ) (zs : List ℤ) (k : ℕ) → nth_box (a ∷ b ∷ c ∷ d ∷ zs) (suc k) ≡ nth_box zs k
after_four a b c d zs k =
    let first : 4 * suc k ≡ suc (suc (suc (suc (4 * k)))) = omega arith in
    let second : suc (suc (suc (suc (4 * k)))) + 1 ≡ suc (suc (suc (suc (4 * k + 1)))) = omega arith in
    let third : suc (suc (suc (suc (4 * k)))) + 2 ≡ suc (suc (suc (suc (4 * k + 2)))) = omega arith in
    let fourth : suc (suc (suc (suc (4 * k)))) + 3 ≡ suc (suc (suc (suc (4 * k + 3)))) = omega arith in
    rw (first, second, third, fourth) refl

-- the boxes of the ends of n boxes from the a-th on
boxes_from : (row : ℕ → BoxEnds) (n a k j : ℕ) → k < n → a + k ≡ j → nth_box (flat_map (λ k. box_numbers (row k)) (range_with_len a n)) k ≡ row j
boxes_from row zero a k j lt e = absurd (omega (arith, lt))
boxes_from row (suc n) a zero j lt e = let same : a ≡ j = omega (arith, e) in ap row same
boxes_from row (suc n) a (suc k) j lt e =
    after_four (row a).re.lo (row a).re.hi (row a).im.lo (row a).im.hi (flat_map (λ k. box_numbers (row k)) (range_with_len (a + 1) n)) k
    ∙ boxes_from row n (a + 1) k j (omega (arith, lt)) (omega (arith, e))

pub boxes_of_row : (P : ℕ) (row : ℕ → BoxEnds) (k : ℕ) → k < P → nth_box (row_ends P row) k ≡ row k
boxes_of_row P row k lt = boxes_from row P 0 k k lt (omega arith)

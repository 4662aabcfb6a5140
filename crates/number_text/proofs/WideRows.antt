-- Rows of wide numbers, read one by one.
use Rattle.std.proofs.Common.{Option, Some, None, IfSome, Bor, ◌≡◌, ◌+◌, ◌<◌, ℕ, List, [], ◌∷◌, ◌++◌, length, map, take, drop, set, get_or, ℤ, pos, negsuc, to_z, of_z, refl, sym, ap, ◌∙◌, arith, length-append, length-set}
use Rattle.std.specs.Int.{w128}
use Rattle.std.proofs.lemmas.Int.{ints}
use Rattle.std.proofs.lemmas.List.{append_assoc, map_push, drop_more, take_all, take_more_set}
use Rattle.number_text.specs.Numbers.{int_text, numbers_text, cut_wide}
use Rattle.number_text.specs.Private.{BeginsWithSpaced}
use Rattle.number_text.proofs.Cuts.{tail_of}
use Rattle.number_text.proofs.NumbersText.{numbers_end, number_once}

-- the numbers, each behind a space
abbrev pub row_text : List ℤ → List ℕ
row_text [] = []
row_text (z ∷ zs) = 32 ∷ (int_text z ++ row_text zs)

row_more : (zs : List ℤ) (z : ℤ) (rest : List ℕ) → row_text zs ++ (32 ∷ (int_text z ++ rest)) ≡ row_text (zs ++ z ∷ []) ++ rest
row_more [] z rest = ap (λ text. 32 ∷ text) (sym (append_assoc (int_text z) [] rest))
row_more (y ∷ zs) z rest =
    ap (λ text. 32 ∷ text) (append_assoc (int_text y) (row_text zs) (32 ∷ (int_text z ++ rest)) ∙ ap (λ text. int_text y ++ text) (row_more zs z rest) ∙ sym (append_assoc (int_text y) (row_text (zs ++ z ∷ [])) rest))

row_and_feed : (zs : List ℤ) (rest : List ℕ) → numbers_text zs ++ rest ≡ row_text zs ++ (10 ∷ rest)
row_and_feed [] rest = refl
row_and_feed (z ∷ zs) rest =
    ap (λ text. 32 ∷ text) (append_assoc (int_text z) (numbers_text zs) rest ∙ ap (λ text. int_text z ++ text) (row_and_feed zs rest) ∙ sym (append_assoc (int_text z) (row_text zs) (10 ∷ rest)))

-- the first n places hold the numbers in front of the rest, and a row of the whole text goes on with the rest
pub record ReadsFront (text rest : List ℕ) (numbers : List ℤ) (n : ℕ) : Type 0 where
  pub zs : List ℤ
  pub count : length zs ≡ n
  pub front : text ≡ row_text zs ++ rest
  pub read : take n numbers ≡ map cut_wide zs
  pub only : (ws : List ℤ) (back : List ℕ) → length ws ≡ length numbers → text ≡ numbers_text ws ++ back → rest ≡ numbers_text (drop n ws) ++ back

pub reads_first : (text : List ℕ) (numbers : List ℤ) → ReadsFront text text numbers 0
reads_first text numbers = record { zs = []; count = refl; front = refl; read = refl; only = λ ws back same whole. whole }

-- a row goes on with its next number
row_next : (rest : List ℕ) (ws : List ℤ) (n : ℕ) (back : List ℕ) → n < length ws → rest ≡ numbers_text (drop n ws) ++ back
    → rest ≡ 32 ∷ (int_text (get_or ws n (pos 0)) ++ (numbers_text (drop (n + 1) ws) ++ back))
row_next rest ws n back within e =
    e ∙ ap (λ xs. numbers_text xs ++ back) (drop_more ws n (pos 0) within) ∙ ap (λ text. 32 ∷ text) (append_assoc (int_text (get_or ws n (pos 0))) (numbers_text (drop (n + 1) ws)) back)

pub reads_next : (text rest more : List ℕ) (numbers : List ℤ) (n : ℕ) (value z : ℤ) → n < length numbers → ReadsFront text rest numbers n → BeginsWithSpaced rest z more → value ≡ cut_wide z
    → ReadsFront text more (set numbers n value) (n + 1)
reads_next text rest more numbers n value z within reads spaced is =
    let whole = spaced.whole in
    record {
      zs = reads.zs ++ z ∷ [];
      count = omega (arith, length-append reads.zs (z ∷ []), reads.count);
      front = reads.front ∙ ap (λ text. row_text reads.zs ++ text) whole ∙ row_more reads.zs z more;
      read = take_more_set numbers n value within ∙ ap (λ xs. xs ++ value ∷ []) reads.read ∙ ap (λ v. map cut_wide reads.zs ++ v ∷ []) is ∙ sym (map_push cut_wide reads.zs z);
      only = λ ws back same e.
          let lengths : length ws ≡ length numbers = same ∙ length-set numbers n value in
          let next = row_next rest ws n back (omega (arith, lengths)) (reads.only ws back lengths e) in
          let once = number_once z (get_or ws n (pos 0)) more (numbers_text (drop (n + 1) ws) ++ back) spaced.ends (numbers_end (drop (n + 1) ws) back) (tail_of _ _ _ _ (sym whole ∙ next)) in
          once.backs;
    }

-- where the rest begins with no number, the text begins with no row
pub no_row : (text rest : List ℕ) (numbers : List ℤ) (n : ℕ) → n < length numbers → ReadsFront text rest numbers n → ((z : ℤ) (back : List ℕ) → BeginsWithSpaced rest z back → ⊥)
    → (ws : List ℤ) (back : List ℕ) → length ws ≡ length numbers → text ≡ numbers_text ws ++ back → ⊥
no_row text rest numbers n within reads none ws back same e =
    let next = row_next rest ws n back (omega (arith, same)) (reads.only ws back same e) in
    let after = numbers_text (drop (n + 1) ws) ++ back in
    none (get_or ws n (pos 0)) after (record { whole = next; ends = numbers_end (drop (n + 1) ws) back })

-- where all numbers are read, a line feed ends the row
pub row_read : (text rest : List ℕ) (numbers : List ℤ) (n : ℕ) → n ≡ length numbers → ReadsFront text rest numbers n
    → (found : Option (Bor (List ℕ))) → IfSome found (λ back. rest ≡ 10 ∷ back.now)
    → IfSome found (λ back. (zs : List ℤ) × (length zs ≡ n) × (text ≡ numbers_text zs ++ back.now) × (numbers ≡ map cut_wide zs))
row_read text rest numbers n all reads None feed = tt
row_read text rest numbers n all reads (Some back) feed =
    (reads.zs, reads.count, reads.front ∙ ap (λ xs. row_text reads.zs ++ xs) feed ∙ sym (row_and_feed reads.zs back.now), sym (take_all n numbers (omega arith)) ∙ reads.read)

-- a number that is read passes through a cast
pub kept_wide : (v z : ℤ) → v ≡ cut_wide z → to_z w128 (of_z w128 v) ≡ cut_wide z
kept_wide v (pos n) read = omega (arith, ints)
kept_wide v (negsuc n) read = omega (arith, ints)

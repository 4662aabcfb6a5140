-- A text is cut at the first place of a byte in one way alone.
use Rattle.std.proofs.Common.{◌≡◌, ◌≢◌, ℕ, ◌+◌, ◌<◌, ◌≤◌, false, List, [], ◌∷◌, ◌++◌, length, take, drop, get_or, refl, sym, ap, ◌∙◌, arith}
use Rattle.std.specs.Prelude.{Some, None, position, ◌==◌}
use Rattle.std.specs.List.{position_or_len}
use Rattle.std.proofs.lemmas.List.Sums.{fails_before_first}
use Rattle.std.proofs.lemmas.Bool.Decides.{nat_tests}
use Rattle.std.proofs.lemmas.List.{take-append-drop, drop_more, get_or-take, length-take}
use Rattle.std.proofs.lemmas.List.Elements.{recursion_from_All, All-from_get_or}
use Rattle.std.proofs.lemmas.List.Quantifiers.{position-Some}
use Rattle.number_text.specs.Parts.{IsCut, IsFreeOf}

pub record Same (front other back rest : List ℕ) : Type 0 where
  pub fronts : front ≡ other
  pub backs : back ≡ rest

pub head_of : (a b : ℕ) (xs ys : List ℕ) → a ∷ xs ≡ b ∷ ys → a ≡ b
head_of a b xs ys e = cc

pub tail_of : (a b : ℕ) (xs ys : List ℕ) → a ∷ xs ≡ b ∷ ys → xs ≡ ys
tail_of a b xs ys e = cc

pub one_cut : (byte : ℕ) (front back other rest : List ℕ) → IsFreeOf byte front → IsFreeOf byte other → front ++ byte ∷ back ≡ other ++ byte ∷ rest → Same front other back rest
one_cut byte [] back [] rest _ _ e = record { fronts = refl; backs = tail_of byte byte back rest e }
one_cut byte [] back (b ∷ other) rest _ free e = absurd (free.0 (sym (head_of _ _ _ _ e)))
one_cut byte (a ∷ front) back [] rest free _ e = absurd (free.0 (head_of _ _ _ _ e))
one_cut byte (a ∷ front) back (b ∷ other) rest free free' e =
    let same = one_cut byte front back other rest free.1 free'.1 (tail_of _ _ _ _ e) in
    let heads : a ≡ b = head_of _ _ _ _ e in
    record { fronts = ap (λ x. x ∷ front) heads ∙ ap (λ xs. b ∷ xs) same.fronts; backs = same.backs }

-- two cuts of one text are the same
pub same_cut : (byte : ℕ) (text front back other rest : List ℕ) → IsCut byte text front back → IsCut byte text other rest → Same front other back rest
same_cut byte text front back other rest a b = one_cut byte front back other rest a.first b.first (sym a.whole ∙ b.whole)

-- a text that the byte stands nowhere in has no cut
pub no_cut : (byte : ℕ) (front back : List ℕ) → IsFreeOf byte (front ++ byte ∷ back) → ⊥
no_cut byte [] back free = free.0 refl
no_cut byte (a ∷ front) back free = no_cut byte front back free.1

-- what a search for the first place of the byte finds
pub cut_at_position : (byte : ℕ) (text : List ℕ) (at : ℕ) → position (λ b. b == byte) text ≡ Some at → IsCut byte text (take at text) (drop (at + 1) text)
cut_at_position byte text at e =
    let found = position-Some (λ b. b == byte) text at 0 e in
    let here : get_or text at 0 ≡ byte = grind (arith, nat_tests, found.1) in
    let before : (k : ℕ) → k < length (take at text) → get_or (take at text) k 0 ≢ byte = λ k within.
    let small : k < at = omega (arith, length-take at text, found.0) in
    let other : get_or text k 0 == byte ≡ false = found.2 k small in
    let apart : get_or text k 0 ≢ byte = grind (arith, nat_tests, other) in
    λ same. apart (sym (get_or-take at text k 0 small) ∙ same) in
    record {
      whole = sym (take-append-drop at text) ∙ ap (λ xs. take at text ++ xs) (drop_more text at 0 found.0 ∙ ap (λ b. b ∷ drop (at + 1) text) here);
      first = recursion_from_All (λ b. b ≢ byte) _ (All-from_get_or (λ b. b ≢ byte) _ 0 before);
    }

-- a search that finds no place
pub free_of_none : (byte : ℕ) (text : List ℕ) → position (λ b. b == byte) text ≡ None → IsFreeOf byte text
free_of_none byte text e =
    let past : length text ≤ position_or_len (λ b. b == byte) text = grind (arith, nat_tests, e) in
    let apart : (k : ℕ) → k < length text → get_or text k 0 ≢ byte = λ k within.
    let other : get_or text k 0 == byte ≡ false = fails_before_first (λ b. b == byte) text k 0 (omega arith) in
    grind (arith, nat_tests, other) in
    recursion_from_All (λ b. b ≢ byte) text (All-from_get_or (λ b. b ≢ byte) text 0 apart)

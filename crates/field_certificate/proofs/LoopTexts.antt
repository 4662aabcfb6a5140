-- Texts that go out one after another.
use Rattle.std.proofs.Common.{ℕ, ◌≡◌, ◌+◌, ◌-◌, ◌<◌, zero, suc, List, [], ◌∷◌, ◌++◌, append_assoc, length, take, drop, get_or, sym, ap, ap₂, ◌∙◌, subst, arith}
use Rattle.std.proofs.KnownBytes.{Appends-trans}
use Rattle.std.proofs.lemmas.List.{append-nil, take_more, take-append-drop}
use Rattle.std.proofs.lemmas.List.Concat.{flat_map-append}
use Rattle.std.specs.Io.KnownBytes.{Appends}
use Rattle.std.specs.List.{flat_map, range_with_len}
use Rattle.std.specs.declared.option.Option.{Option}
use Rattle.io_ports.specs.Bytes.{AppendsPrefix}
use Rattle.field_report.proofs.Pieces.{AppendsPrefix-then, AppendsPrefix-front}
use Rattle.field_certificate.specs.ProgramLines.{texts}

split : (f : ℕ → List ℕ) (a j k : ℕ) → flat_map f (range_with_len a (j + k)) ≡ flat_map f (range_with_len a j) ++ flat_map f (range_with_len (a + j) k)
split f a zero k = ap₂ (λ b n. flat_map f (range_with_len b n)) (omega arith) (omega arith)
split f a (suc j) k =
    let longer : suc j + k ≡ suc (j + k) = omega arith in
    let later : a + 1 + j ≡ a + suc j = omega arith in
    ap (λ n. flat_map f (range_with_len a n)) longer
    ∙ ap (λ t. f a ++ t) (split f (a + 1) j k)
    ∙ sym (append_assoc (f a) (flat_map f (range_with_len (a + 1) j)) (flat_map f (range_with_len (a + 1 + j) k)))
    ∙ ap (λ b. (f a ++ flat_map f (range_with_len (a + 1) j)) ++ flat_map f (range_with_len b k)) later

module _ (f : ℕ → List ℕ) (n : ℕ) where
  texts-more : texts f (n + 1) ≡ texts f n ++ f n
  texts-more = split f 0 n 1 ∙ ap (λ t. texts f n ++ t) (append-nil (f (0 + n)) ∙ ap f (omega arith))

  -- one text more
  pub texts-step : (before mid after : Option (List ℕ)) → Appends before mid (texts f n) → Appends mid after (f n) → Appends before after (texts f (n + 1))
  texts-step before mid after p q = subst (Appends before after) (sym texts-more) (Appends-trans before mid after _ _ p q)

  -- or a part of it
  pub texts-exit : (m : ℕ) → n < m → (before mid after : Option (List ℕ)) → Appends before mid (texts f n) → AppendsPrefix mid after (f n) → AppendsPrefix before after (texts f m)
  texts-exit m lt before mid after p q =
      let rest : List ℕ = flat_map f (range_with_len (0 + (n + 1)) (m - (n + 1))) in
      let whole : texts f m ≡ (texts f n ++ f n) ++ rest = ap (texts f) (omega arith) ∙ split f 0 (n + 1) (m - (n + 1)) ∙ ap (λ t. t ++ rest) texts-more in
      subst (AppendsPrefix before after) (sym whole) (AppendsPrefix-front before after _ rest (AppendsPrefix-then before mid after _ _ p q))

-- ---- over a list
module _ (f : ℕ → List ℕ) (xs : List ℕ) (i d : ℕ) (lt : i < length xs) where
  list-more : flat_map f (take (i + 1) xs) ≡ flat_map f (take i xs) ++ f (get_or xs i d)
  list-more = ap (flat_map f) (take_more xs i d lt) ∙ flat_map-append f (take i xs) (get_or xs i d ∷ []) ∙ ap (λ t. flat_map f (take i xs) ++ t) (append-nil (f (get_or xs i d)))

  pub list-step : (before mid after : Option (List ℕ)) → Appends before mid (flat_map f (take i xs)) → Appends mid after (f (get_or xs i d)) → Appends before after (flat_map f (take (i + 1) xs))
  list-step before mid after p q = subst (Appends before after) (sym list-more) (Appends-trans before mid after _ _ p q)

  pub list-exit : (before mid after : Option (List ℕ)) → Appends before mid (flat_map f (take i xs)) → AppendsPrefix mid after (f (get_or xs i d)) → AppendsPrefix before after (flat_map f xs)
  list-exit before mid after p q =
      let rest : List ℕ = flat_map f (drop (i + 1) xs) in
      let whole : flat_map f xs ≡ (flat_map f (take i xs) ++ f (get_or xs i d)) ++ rest =
      ap (flat_map f) (sym (take-append-drop (i + 1) xs)) ∙ flat_map-append f (take (i + 1) xs) (drop (i + 1) xs) ∙ ap (λ t. t ++ rest) list-more in
      subst (AppendsPrefix before after) (sym whole) (AppendsPrefix-front before after _ rest (AppendsPrefix-then before mid after _ _ p q))

-- The translations that the rows of all cells take together.
use Rattle.std.proofs.Common.{ℕ, ◌≡◌, ◌+◌, ◌<◌, inl, inr, List, [], ◌∷◌, length, Bool, true, false, cond, refl, sym, ap, ◌∙◌, arith}
use Rattle.std.specs.Prelude.{nat_lt, ◌&&◌, sum_by, count_by}
use Rattle.std.specs.List.{range_with_len}
use Rattle.std.proofs.lemmas.Bool.{true≢false, cases_lt, and_from, lt-ltb}
use Rattle.std.proofs.lemmas.List.FromFn.{fill_by_all}
use Rattle.std.proofs.lemmas.List.Sums.{sum_by-cons}
use Rattle.cell_lists.proofs.CellNumbers.{first_level}
use Rattle.cell_lists.specs.ListAt.{list_at}
use Rattle.letters.specs.declared.Letter.TheVariants.{V}
use Rattle.field_basis.specs.Place.{PlaceModel, no_place, place_at, all_translations}
use Rattle.quadtree.specs.TreeModel.{size, square_of, node_of}
use Rattle.exact_math.proofs.Lists.{All-from_members, range_below}
use Rattle.soundness.proofs.Sums.{sum_by-map, sum_by-same}
use Rattle.field_basis.proofs.PlaceSums.{sum_by_number}
use Rattle.field_basis.proofs.Trees.{some_tree, tree_of_basis}
use Rattle.field_basis.specs.Basis.{BasisModel, IsBasis}
use Rattle.field_basis.specs.Counts.{translations_into}
use Rattle.downward_rows.specs.Translations.{all_translations_into}
use Rattle.downward_rows.proofs.EntryPlaces.{entry_at}

sum_of_both : (f g : ℕ → ℕ) (xs : List ℕ) → sum_by (λ n. f n + g n) xs ≡ sum_by f xs + sum_by g xs
sum_of_both f g [] = refl
sum_of_both f g (x ∷ xs) = omega (arith, sum_by-cons (λ n. f n + g n) x xs, sum_by-cons f x xs, sum_by-cons g x xs, sum_of_both f g xs)

counted : (b : Bool) (m : ℕ) → (b ≡ false → m ≡ 0) → cond {A = ℕ} b (1 + m) 0 ≡ m + cond {A = ℕ} b 1 0
counted true m none = omega arith
counted false m none = omega (arith, none refl)

module _ (P : ℕ) (b : BasisModel) (is : IsBasis P b) where
  -- the root and a cell without a target have an empty V list
  no_entries : (n : ℕ) → n < size b.tree → (nat_lt 0 n && (node_of b.tree n).has_target) ≡ false → length (list_at b.lists.v n) ≡ 0
  no_entries n lt out = elim (cases_lt 0 (length (list_at b.lists.v n))) [
    | inr le ↦ omega arith
    | inl lo ↦
        let e = entry_at P b is n lt V 0 0 lo in
        let root : n ≡ 0 → (square_of b.tree n).level ≡ 0 = λ z. ap (λ m. (square_of b.tree m).level) z ∙ first_level b.tree (some_tree b.points b.tree (tree_of_basis P b is)) (omega arith) in
        let below : 0 < n = elim (cases_lt 0 n) [ inl l ↦ l | inr le ↦ absurd (omega (arith, root (omega arith), e.pair.2.below_root)) ] in
        absurd (true≢false (sym (and_from (nat_lt 0 n) (node_of b.tree n).has_target (lt-ltb 0 n below) ((is.is_tree.nodes_are n lt).target.1 e.target)) ∙ out))
  ]

  sum_by_numbers : sum_by (λ list. length list) b.lists.v ≡ sum_by (λ n. length (list_at b.lists.v n)) (range_with_len 0 (size b.tree))
  sum_by_numbers =
      ap (sum_by (λ list. length list)) (fill_by_all (list_at b.lists.v) b.lists.v (size b.tree) [] (is.lists_are.as_many V) (λ k lt. refl))
      ∙ sum_by-map (λ list. length list) (list_at b.lists.v) (range_with_len 0 (size b.tree))

  translations_of_all : sum_by (translations_into b) (range_with_len 0 (size b.tree)) ≡ all_translations_into b
  translations_of_all =
      sum_by-same (translations_into b) (λ n. length (list_at b.lists.v n) + cond {A = ℕ} (nat_lt 0 n && (node_of b.tree n).has_target) 1 0) (range_with_len 0 (size b.tree))
      (All-from_members _ (range_with_len 0 (size b.tree)) (λ n h. counted (nat_lt 0 n && (node_of b.tree n).has_target) (length (list_at b.lists.v n)) (no_entries n (range_below (size b.tree) n h))))
      ∙ sum_of_both (λ n. length (list_at b.lists.v n)) (λ n. cond {A = ℕ} (nat_lt 0 n && (node_of b.tree n).has_target) 1 0) (range_with_len 0 (size b.tree))
      ∙ ap (λ s. s + count_by (λ n. nat_lt 0 n && (node_of b.tree n).has_target) (range_with_len 0 (size b.tree))) (sym sum_by_numbers)

  -- where each place keeps those of its cell
  pub translations_all : (places : List PlaceModel) → length places ≡ size b.tree → ((n : ℕ) → n < size b.tree → (place_at places n).translations ≡ translations_into b n) → all_translations places ≡ all_translations_into b
  translations_all places len each =
      sum_by_number (λ p. p.translations) (translations_into b) places no_place (λ n lt. each n (omega arith))
      ∙ ap (λ m. sum_by (translations_into b) (range_with_len 0 m)) len
      ∙ translations_of_all

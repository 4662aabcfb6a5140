-- Sums over places by their numbers.
use Rattle.std.proofs.Common.{ℕ, ◌≡◌, ◌<◌, ◌∙◌, List, length, get_or, refl, ap}
use Rattle.std.specs.Prelude.{sum_by}
use Rattle.std.specs.List.{range_with_len}
use Rattle.std.proofs.lemmas.List.FromFn.{fill_by_all}
use Rattle.exact_math.proofs.Lists.{range_below}
use Rattle.std.proofs.lemmas.List.Elements.{Contains-get_or}
use Rattle.soundness.proofs.Sums.{sum_by-map, sum_by-same}

-- a sum over a list is one over its numbers
pub sum_by_number : {X : Type 0} (f : X → ℕ) (g : ℕ → ℕ) (xs : List X) (d : X) → ((n : ℕ) → n < length xs → f (get_or xs n d) ≡ g n) → sum_by f xs ≡ sum_by g (range_with_len 0 (length xs))
sum_by_number f g xs d same =
    let numbers : List ℕ = range_with_len 0 (length xs) in
    ap (sum_by f) (fill_by_all (λ n. get_or xs n d) xs (length xs) d refl (λ k lt. refl))
    ∙ sum_by-map f (λ n. get_or xs n d) numbers
    ∙ sum_by-same (λ n. f (get_or xs n d)) g numbers (λ i e lt. same (get_or numbers i e) (range_below (length xs) (get_or numbers i e) (Contains-get_or numbers i e lt)))

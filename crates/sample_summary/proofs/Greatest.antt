-- The greatest width, with one further box.
use Rattle.std.proofs.Common.{ℕ, suc, ◌≡◌, ◌+◌, ◌<◌, List, [], ◌∷◌, ◌++◌, length, map, take, max, refl, ap, ◌∙◌, arith}
use Rattle.std.specs.List.{fold}
use Rattle.std.proofs.lemmas.List.{map-append}
use Rattle.std.proofs.Math.Seq.{take-suc}
use Rattle.exact_math.specs.Ends.{BoxEnds}
use Rattle.complex_box.specs.Box.{box_ends}
use Rattle.complex_box.specs.Rows.{at, zero_cbox}
use Rattle.complex_box.specs.declared.CBox.{CBox}

greatest-more : (ns : List ℕ) (m n : ℕ) → fold max m (ns ++ n ∷ []) ≡ max (fold max m ns) n
greatest-more [] m n = refl
greatest-more (k ∷ ns) m n = greatest-more ns (max m k) n

next : (k : ℕ) → k + 1 ≡ suc k
next k = omega arith

-- the first k + 1 boxes are the first k and box k
pub greatest_box-more : (f : BoxEnds → ℕ) (values : List CBox) (k : ℕ) → k < length values → fold max 0 (map f (map box_ends (take (k + 1) values))) ≡ max (fold max 0 (map f (map box_ends (take k values)))) (f (box_ends (at values k)))
greatest_box-more f values k lt =
    let one : take (k + 1) values ≡ take k values ++ at values k ∷ [] = ap (λ n. take n values) (next k) ∙ take-suc values k zero_cbox lt in
    let ends : map box_ends (take (k + 1) values) ≡ map box_ends (take k values) ++ box_ends (at values k) ∷ [] = ap (map box_ends) one ∙ map-append box_ends (take k values) (at values k ∷ []) in
    ap (λ bs. fold max 0 (map f bs)) ends ∙ ap (fold max 0) (map-append f (map box_ends (take k values)) (box_ends (at values k) ∷ [])) ∙ greatest-more (map f (map box_ends (take k values))) 0 (f (box_ends (at values k)))

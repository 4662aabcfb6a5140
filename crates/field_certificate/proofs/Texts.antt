-- Numbers before a text.
use Rattle.std.proofs.Common.{◌≡◌, ◌+◌, ◌-◌, ◌≤◌, ℕ, suc, List, [], ◌∷◌, ◌++◌, ℤ, refl, sym, ap, ◌∙◌, arith}
use Rattle.std.specs.List.{flat_map, range_with_len}
use Rattle.std.proofs.lemmas.List.Concat.{flat_map-cons}
use Rattle.accounting_text.specs.Written.{box_numbers}
use Rattle.complex_box.specs.Box.{box_ends}
use Rattle.complex_box.specs.Rows.{at}
use Rattle.complex_box.specs.declared.CBox.{CBox}
use Rattle.field_certificate.specs.Private.{numbers_before}
use Rattle.number_text.specs.Numbers.{int_text, numbers_text}
use Rattle.number_text.specs.Parts.{line_feed}
use Rattle.row_recursions.specs.Rows.{row_of}

-- before a line feed they are the numbers of a line
pub numbers_before-feed : (zs : List ℤ) → numbers_before zs (line_feed ∷ []) ≡ numbers_text zs
numbers_before-feed [] = refl
numbers_before-feed (z ∷ zs) = ap (λ t. 32 ∷ (int_text z ++ t)) (numbers_before-feed zs)

pub numbers_before-append : (ys zs : List ℤ) (text : List ℕ) → numbers_before (ys ++ zs) text ≡ numbers_before ys (numbers_before zs text)
numbers_before-append [] zs text = refl
numbers_before-append (y ∷ ys) zs text = ap (λ t. 32 ∷ (int_text y ++ t)) (numbers_before-append ys zs text)

-- a row whose boxes from k on stand before a text, with the box before them
pub row_grows : (cells : List CBox) (b : CBox) (P k j : ℕ) (old line new : List ℕ) → j + 1 ≡ k → k ≤ P → at cells j ≡ b
    → line ≡ numbers_before (flat_map (λ n. box_numbers (row_of cells n)) (range_with_len k (P - k))) old → new ≡ numbers_before (box_numbers (box_ends b)) line
    → new ≡ numbers_before (flat_map (λ n. box_numbers (row_of cells n)) (range_with_len j (P - j))) old
row_grows cells b P k j old line new next le here before step =
    let f : ℕ → List ℤ = λ n. box_numbers (row_of cells n) in
    let longer : P - j ≡ suc (P - k) = omega (arith, next, le) in
    step ∙ ap (numbers_before (box_numbers (box_ends b))) before
    ∙ sym (numbers_before-append (box_numbers (box_ends b)) (flat_map f (range_with_len k (P - k))) old)
    ∙ ap (λ x. numbers_before (box_numbers (box_ends x) ++ flat_map f (range_with_len k (P - k))) old) (sym here)
    ∙ ap (λ n. numbers_before (f j ++ flat_map f (range_with_len n (P - k))) old) (sym next)
    ∙ ap (λ t. numbers_before t old) (sym (flat_map-cons f j (range_with_len (j + 1) (P - k))))
    ∙ ap (λ m. numbers_before (flat_map f (range_with_len j m)) old) (sym longer)

-- four numbers before a text, one after the other
pub four_before : (t0 t1 t2 t3 t4 : List ℕ) (z1 z2 z3 z4 w1 w2 w3 w4 : ℤ) → z1 ≡ w1 → z2 ≡ w2 → z3 ≡ w3 → z4 ≡ w4 → t1 ≡ numbers_before (z1 ∷ []) t0
    → t2 ≡ numbers_before (z2 ∷ []) t1 → t3 ≡ numbers_before (z3 ∷ []) t2 → t4 ≡ numbers_before (z4 ∷ []) t3 → t4 ≡ numbers_before (w4 ∷ w3 ∷ w2 ∷ w1 ∷ []) t0
four_before t0 t1 t2 t3 t4 z1 z2 z3 z4 w1 w2 w3 w4 a b c d e f g h =
    h ∙ ap (numbers_before (z4 ∷ [])) (g ∙ ap (numbers_before (z3 ∷ [])) (f ∙ ap (numbers_before (z2 ∷ [])) e)) ∙ (λ i. numbers_before (d i ∷ c i ∷ b i ∷ a i ∷ []) t0)

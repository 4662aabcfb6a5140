-- A cell and those above it, and sums over them.
use Rattle.std.proofs.Common.{ℕ, zero, suc, ◌≡◌, ◌-◌, ◌/◌, ◌^◌, ◌<◌, refl, sym, ap, ap₂, ◌∙◌, arith}
use Rattle.std.proofs.Math.Nat.{div-div-eq-div-mul, pow-succ'}
use Rattle.exact_math.specs.Ratio.{ComplexRatio, ◌+ᶜ◌}
use Rattle.exact_math.specs.Sums.{sum_complex}
use Rattle.cell_name.specs.Square.{Square, parent, ancestor}
use Rattle.cell_name.proofs.Cells.{same_square}

-- the cell itself, and what is above its parent
pub ancestor-self : (c : Square) (level : ℕ) → level ≡ c.level → ancestor c level ≡ c
ancestor-self c level e = same_square (ancestor c level) c refl e (whole c.i) (whole c.j)
  where
    whole : (i : ℕ) → i / 2 ^ (c.level - level) ≡ i
    whole i =
        let none : c.level - level ≡ 0 = omega arith in
        let one : i / 1 ≡ i = omega arith in
        ap (λ n. i / 2 ^ n) none ∙ one

pub ancestor-parent : (c : Square) (level : ℕ) → level < c.level → ancestor c level ≡ ancestor (parent c) level
ancestor-parent c level lt = same_square (ancestor c level) (ancestor (parent c) level) refl refl (halved c.i) (halved c.j)
  where
    halved : (i : ℕ) → i / 2 ^ (c.level - level) ≡ i / 2 / 2 ^ (c.level - 1 - level)
    halved i =
        let next : c.level - level ≡ suc (c.level - 1 - level) = omega arith in
        ap (λ n. i / 2 ^ n) next ∙ ap (λ n. i / n) (pow-succ' 2 (c.level - 1 - level)) ∙ sym (div-div-eq-div-mul i 2 (2 ^ (c.level - 1 - level)))

pub sum_complex-same : (n : ℕ) (f g : ℕ → ComplexRatio) → ((k : ℕ) → k < n → f k ≡ g k) → sum_complex n f ≡ sum_complex n g
sum_complex-same zero f g e = refl
sum_complex-same (suc n) f g e = ap₂ ◌+ᶜ◌ (sum_complex-same n f g (λ k lt. e k (omega arith))) (e n (omega arith))

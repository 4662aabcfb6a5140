-- What an entry brings, by its letter.
use Rattle.std.proofs.Common.{ℕ, ◌≡◌, ◌⊎◌, inl, inr, false, cond, ap}
use Rattle.cell_name.specs.Square.{side}
use Rattle.exact_math.specs.Ends.{zero_box}
use Rattle.exact_math.specs.Gaussian.{Gaussian}
use Rattle.letters.specs.declared.Entry.{Entry}
use Rattle.letters.specs.declared.Letter.{Letter}
use Rattle.letters.specs.declared.Letter.TheVariants.{U, V, W, X}
use Rattle.near_field.specs.Pair.{pair_box}
use Rattle.row_recursions.specs.Rows.{multipole_value}
use Rattle.soundness.specs.Accounts.{Accounting, is_letter, sources_under}
use Rattle.soundness.specs.Computed.{point_of, total_box, weight_under}
use Rattle.soundness.specs.Squares.{offset}
use Rattle.truncation.specs.Tails.{single_loss}
use Rattle.certificate_targets.specs.Parts.{loss_of, pairs_of, value_of}

not_u : (l : Letter) → (l ≡ V) ⊎ ((l ≡ W) ⊎ (l ≡ X)) → is_letter U l ≡ false
not_u l h = elim h [ inl e ↦ ap (is_letter U) e | inr h ↦ elim h [ inl e ↦ ap (is_letter U) e | inr e ↦ ap (is_letter U) e ] ]

not_w : (l : Letter) → (l ≡ U) ⊎ ((l ≡ V) ⊎ (l ≡ X)) → is_letter W l ≡ false
not_w l h = elim h [ inl e ↦ ap (is_letter W) e | inr h ↦ elim h [ inl e ↦ ap (is_letter W) e | inr e ↦ ap (is_letter W) e ] ]

module _ (A : Accounting) (e : Entry) where
  pub pairs_of_u : (z : Gaussian) → e.letter ≡ U → pairs_of A z e ≡ total_box (λ x. pair_box z (point_of x)) (sources_under A e.c)
  unfolding pairs_of
  pairs_of_u z is = ap (λ l. cond (is_letter U l) (total_box (λ x. pair_box z (point_of x)) (sources_under A e.c)) zero_box) is

  pub pairs_of_other : (z : Gaussian) → (e.letter ≡ V) ⊎ ((e.letter ≡ W) ⊎ (e.letter ≡ X)) → pairs_of A z e ≡ zero_box
  unfolding pairs_of
  pairs_of_other z h = ap (λ b. cond b (total_box (λ x. pair_box z (point_of x)) (sources_under A e.c)) zero_box) (not_u e.letter h)

  module _ (P : ℕ) where
    pub value_of_w : (z : Gaussian) → e.letter ≡ W → value_of A P z e ≡ multipole_value P (A.multipole e.c) (side (A.cell e.c)) (offset (A.cell e.c) z)
    unfolding value_of
    value_of_w z is = ap (λ l. cond (is_letter W l) (multipole_value P (A.multipole e.c) (side (A.cell e.c)) (offset (A.cell e.c) z)) zero_box) is

    pub value_of_other : (z : Gaussian) → (e.letter ≡ U) ⊎ ((e.letter ≡ V) ⊎ (e.letter ≡ X)) → value_of A P z e ≡ zero_box
    unfolding value_of
    value_of_other z h = ap (λ b. cond b (multipole_value P (A.multipole e.c) (side (A.cell e.c)) (offset (A.cell e.c) z)) zero_box) (not_w e.letter h)

    pub loss_of_w : e.letter ≡ W → loss_of A P e ≡ single_loss P (weight_under P A e.c) (side (A.cell e.c))
    unfolding loss_of
    loss_of_w is = ap (λ l. cond (is_letter W l) (single_loss P (weight_under P A e.c) (side (A.cell e.c))) 0) is

    pub loss_of_other : (e.letter ≡ U) ⊎ ((e.letter ≡ V) ⊎ (e.letter ≡ X)) → loss_of A P e ≡ 0
    unfolding loss_of
    loss_of_other h = ap (λ b. cond b (single_loss P (weight_under P A e.c) (side (A.cell e.c))) 0) (not_w e.letter h)

-- Places that are written one after another.
use Rattle.std.proofs.Common.{ℕ, ◌+◌, ◌-◌, ◌≡◌, ◌<◌, inl, inr, List, ◌++◌, length, ap, sym, subst, ◌∙◌, arith, get_or-set_same, get_or-set_other}
use Rattle.std.proofs.lemmas.List.{set-append_right, length-set}
use Rattle.std.specs.Prelude.{slice_set}
use Rattle.std.proofs.lemmas.Bool.{cases_lt}
use Rattle.field_basis.specs.Place.{PlaceModel, OthersStay, no_place, place_at}

-- what holds of the places before n and of the one that is written there
pub one_place_more : (Q : ℕ → PlaceModel → Type 0) (old moved : List PlaceModel) (n : ℕ) (x : PlaceModel) → n < length old → OthersStay n old moved
    → ((m : ℕ) → m < n → Q m (place_at old m)) → Q n x → (m : ℕ) → m < n + 1 → Q m (place_at (slice_set moved n x) m)
one_place_more Q old moved n x lt stay before here m h = elim (cases_lt m n) [
  | inl less ↦ subst (Q m) (sym (get_or-set_other moved n m x no_place (λ e. absurd (omega arith)) ∙ stay.others m (λ e. absurd (omega arith)))) (before m less)
  | inr ge ↦
      let own : Q n (place_at (slice_set moved n x) n) = subst (Q n) (sym (get_or-set_same moved n x no_place (omega (arith, lt, stay.as_many)))) here in
      let R : ℕ → Type 0 = λ j. Q j (place_at (slice_set moved n x) j) in
      subst R (omega arith) own
]

-- the first of the rest is written
module _ (places above rest : List PlaceModel) (n : ℕ) (x : PlaceModel) (whole : places ≡ above ++ rest) (len : length above ≡ n) where
  moved_rest : slice_set places n x ≡ above ++ slice_set rest 0 x
  moved_rest =
      let start : n - n ≡ 0 = omega arith in
      ap (λ l. slice_set l n x) whole ∙ set-append_right above rest n n x len (omega arith) ∙ ap (λ k. above ++ slice_set rest k x) start

  pub rest_written : OthersStay n places (above ++ slice_set rest 0 x)
  rest_written = subst (OthersStay n places) moved_rest (record { as_many = length-set places n x; others = λ m other. get_or-set_other places n m x no_place other })

  pub rest_own : n < length places → place_at (above ++ slice_set rest 0 x) n ≡ x
  rest_own inside = sym (ap (λ l. place_at l n) moved_rest) ∙ get_or-set_same places n x no_place inside

use Rattle.std.proofs.Common.{◌⊎◌, ℕ, ◌≤◌, inl, inr, max, arith, rules, ℤ, pos, ◌-ℤ◌, unsigned_abs, to_z, of_z, w64}
use Rattle.std.proofs.lemmas.Bool.{cases_lt}
use mathlib.Core.Logic.{⊎_elim}
use Rattle.number_tests.proofs.kernels.every_distance_has_its_entry.Goals as goal

either : (m n : ℕ) → 2 ≤ max m n → (2 ≤ m) ⊎ (2 ≤ n)
either m n h = ⊎_elim (λ l. inr (omega arith)) (λ l. inl (omega arith)) (cases_lt m 2)

pub is_reciprocal-requires : goal.is_reciprocal-requires
is_reciprocal-requires g c =
    let x : ℤ = to_z w64 (of_z w64 (to_z w64 (of_z w64 c.from.result) -ℤ pos 3)) in
    let y : ℤ = to_z w64 (of_z w64 (to_z w64 (of_z w64 c.from-in-loop-n.result) -ℤ pos 3)) in
    let far : 2 ≤ max (unsigned_abs x) (unsigned_abs y) = search rules in
    record {
      apart = either (unsigned_abs x) (unsigned_abs y) far;
      near = record { re = record { above = search rules; below = search rules }; im = record { above = search rules; below = search rules } };
    }

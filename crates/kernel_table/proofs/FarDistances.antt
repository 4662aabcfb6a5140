-- The index of a distance whose first part is 2 or 3 in size.
use mathlib.Core.Path.{◌≡◌, ap, ap₂, ◌∙◌}
use Prim.Native.Nat.{ℕ, ◌+◌, ◌*◌, ◌<◌}
use native.Mathlib.Omega.{arith}
use lib.IntN.{pos, ◌-ℤ◌}
use Rattle.std.proofs.Common.{true, nat_lt}
use Rattle.std.proofs.lemmas.Bool.Decides.{nat_tests}
use Rattle.std.proofs.lemmas.Nat.{div-mul-add}
use Rattle.exact_math.specs.Gaussian.{Gaussian, gaussian}
use Rattle.kernel_table.specs.Table.{far_part, distance_at}
use Rattle.kernel_table.proofs.Places.{mod-mul-add}

pub first_far : (a u : ℕ) (e : Gaussian) → a < 4 → u < 7 → far_part a ≡ e.re → (pos u -ℤ pos 3) ≡ e.im → distance_at (a * 7 + u) ≡ e
first_far a u e h k re im =
    let t : nat_lt (a * 7 + u) 28 ≡ true = grind (arith, nat_tests) in
    rw t (ap₂ gaussian (ap far_part (div-mul-add a 7 u k) ∙ re) (ap (λ m. pos m -ℤ pos 3) (mod-mul-add a 7 u k) ∙ im))

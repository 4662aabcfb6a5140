-- The bound on widths of two lists, against numbers that were reckoned by hand.
use Rattle.exact_math.proofs.Common.{◌≡◌, refl, ℤ, pos, negsuc}
use Rattle.std.specs.Prelude.{List, [], ◌∷◌}
use Rattle.points.specs.declared.Kind.{Kind}
use Rattle.points.specs.declared.Kind.TheVariants.{Charge, Dipole, Vortex, Target}
use Rattle.points.specs.declared.Point.{Point}
use Rattle.truncation.specs.Tails.{pair_tail}
use Rattle.field_widths.specs.Bound.{width_bound}

-- where a point stands is nothing to the bound
abbrev at_origin : Kind → Point
at_origin kind = record { x = pos 0; y = pos 0; kind = kind }

abbrev unit_charge : Point
unit_charge = at_origin (Charge (pos 1))

-- Nine charges 1 at order 4, with the side 1: 9 and 9 for S and n, and the tail 198874331312.
-- 3579737963616 for what is cut off, then 864, 69120, 1024 and 60.
nine_charges : width_bound 4 1 (unit_charge ∷ unit_charge ∷ unit_charge ∷ unit_charge ∷ unit_charge ∷ unit_charge ∷ unit_charge ∷ unit_charge ∷ unit_charge ∷ []) ≡ 3579738034684
unfolding pair_tail
nine_charges = refl

-- A dipole 3 - 4i, a vortex -5 and a target at order 8, with the side 4: the dipole weighs 16 times 7 and the vortex 5, so S is 117; n is 2, as
-- a target isn't counted; and the tail is 17985712319. 4208656682646 for what is cut off, then 44928, 245760, 4096 and 4 times 18.
dipole_and_vortex : width_bound 8 4 (at_origin (Dipole (pos 3) (negsuc 3)) ∷ at_origin (Vortex (negsuc 4)) ∷ at_origin Target ∷ []) ≡ 4208656977502
unfolding pair_tail
dipole_and_vortex = refl

-- The recursions, computed, against boxes that are known from elsewhere.
use Rattle.std.specs.Prelude.{ℕ, ℤ, pos, negsuc, neg_ℤ, ◌≡◌}
use mathlib.Core.Path.{refl}
use Rattle.exact_math.specs.Ends.{BoxEnds, scale_box}
use Rattle.exact_math.specs.Gaussian.{Gaussian, gaussian}
use Rattle.kernel_table.specs.Kernel.{kernel_power, kernel_entry}
use Rattle.row_recursions.specs.Rows.{source_moment, up_round, shifted_up, converted, far_source, down_round, shifted_down, local_round, local_value, multipole_round, multipole_value, powers, far_powers}

abbrev pub box : ℤ → ℤ → ℤ → ℤ → BoxEnds
box a b c d = record { re = record { lo = a; hi = b }; im = record { lo = c; hi = d } }

abbrev none : Gaussian
none = gaussian (pos 0) (pos 0)

abbrev one : Gaussian
one = gaussian (pos 1) (pos 0)

-- the lower left quadrant, and the offset of that corner of a cell of side 1
abbrev corner : Gaussian
corner = gaussian (negsuc 0) (negsuc 0)

-- nine charges 1 at (0, 0), in the cell of side 1 whose corner that is
abbrev nine : ℕ → BoxEnds
nine k = scale_box (source_moment 1 one none corner k) (pos 9)

-- their value at (2, 0), through the row of the cell 2 sides away, at order 4
converted_value : local_value 4 (converted 4 (kernel_entry (gaussian (pos 2) (pos 0))) nine) 1 corner
    ≡ box (pos 5102421147648) (pos 5102421147648) (pos 193273528320) (pos 193273528320)
unfolding local_value local_round converted kernel_entry kernel_power source_moment powers
converted_value = refl

-- their value at (8, 0), from the row of the cell of side 4
value_of_cell : multipole_value 4 (shifted_up (shifted_up nine corner) corner) 4 (gaussian (pos 12) (negsuc 3))
    ≡ box (pos 1250804427757) (pos 1250804427759) (pos 47498902319) (pos 47498902321)
unfolding multipole_value multipole_round shifted_up up_round source_moment powers
value_of_cell = refl

-- the value at (0, 0) of a charge 1 at (8, 0), from the local row of the cell of side 4, brought down twice
value_of_source : local_value 4 (shifted_down 4 (shifted_down 4 (far_source 4 one none (gaussian (pos 12) (negsuc 3))) corner) corner) 1 corner
    ≡ box (neg_ℤ (pos 138978269756)) (neg_ℤ (pos 138978269745)) (neg_ℤ (pos 5277655819)) (neg_ℤ (pos 5277655807))
unfolding local_value local_round shifted_down down_round far_source far_powers
value_of_source = refl

-- a dipole 3 - 2 i at the offset 1 - 3 i in a cell of side 4: moments 1 and 3, and moment 3 about the centre of the parent, where the cell is below on the right
abbrev dipole : Gaussian
dipole = gaussian (pos 3) (negsuc 1)

abbrev dipole_row : ℕ → BoxEnds
dipole_row = source_moment 4 none dipole (gaussian (pos 1) (negsuc 2))

dipole_moments : (dipole_row 1 ≡ box (pos 824633720832) (pos 824633720832) (negsuc 549755813887) (negsuc 549755813887))
    × (dipole_row 3 ≡ box (negsuc 463856467967) (negsuc 463856467967) (negsuc 25769803775) (negsuc 25769803775))
    × (shifted_up dipole_row (gaussian (pos 1) (negsuc 0)) 3 ≡ box (negsuc 341449900031) (negsuc 341449900031) (negsuc 260919263231) (negsuc 260919263231))
unfolding shifted_up up_round source_moment powers
dipole_moments = (refl, refl, refl)

-- the same dipole seen from a cell of side 4, at the offset 13 - 5 i
far_dipole_row : (far_source 4 none dipole (gaussian (pos 13) (negsuc 4)) 0 ≡ box (pos 323461386511) (pos 323461386512) (pos 47677834427) (pos 47677834429))
    × (far_source 4 none dipole (gaussian (pos 13) (negsuc 4)) 2 ≡ box (pos 206000150568) (pos 206000150577) (pos 249542804058) (pos 249542804064))
unfolding far_source far_powers
far_dipole_row = (refl, refl)

-- How the kernel's table lies in memory: words of the functions that make it and look it up. What callers cite stands in Kernel.antt.
use Rattle.std.specs.Prelude.{ℕ, ◌≡◌, ◌+◌, ◌-◌, ◌/◌, ◌%◌, ◌<◌, List, length, slice_index_or, nat_lt, if◌then◌else◌, ℤ, pos, ◌-ℤ◌}
use Rattle.exact_math.specs.Binomials.{choose}
use Rattle.exact_math.specs.Gaussian.{Gaussian, gaussian}
use Rattle.complex_box.specs.Box.{box_ends}
use Rattle.complex_box.specs.declared.CBox.{CBox}
use Rattle.kernel_table.specs.Kernel.{kernel_power, kernel_entry}

-- -3, -2, 2 and 3, from 0 on
abbrev pub far_part : ℕ → ℤ
far_part n = if nat_lt n 2 then pos n -ℤ pos 3 else pos n

-- the 40 distances from 0 on: 28 whose first part is 2 or 3 in size, then the 12 others
abbrev pub distance_at : ℕ → Gaussian
distance_at n = if nat_lt n 28 then gaussian (far_part (n / 7)) (pos (n % 7) -ℤ pos 3) else gaussian (pos ((n - 28) / 4) -ℤ pos 1) (far_part ((n - 28) % 4))

-- the boxes are the powers of the kernel at e, from the first on
abbrev pub ArePowers : Gaussian → List CBox → Type 0
ArePowers e powers = (n : ℕ) (other : CBox) → n < length powers → box_ends (slice_index_or powers n other) ≡ kernel_power e n

-- C(k + l, k) at the index l P + k
abbrev pub AreWays : ℕ → List ℤ → Type 0
AreWays P ways = (i : ℕ) (other : ℤ) → i < length ways → slice_index_or ways i other ≡ pos (choose (i % P + i / P) (i % P))

-- at each distance in turn, for each l in turn, the entries over k: the entry (k, l) of the distance n has the index (n P + l) P + k
abbrev pub IsKernelTable : ℕ → List CBox → Type 0
IsKernelTable P table = (i : ℕ) (other : CBox) → i < length table
    → box_ends (slice_index_or table i other) ≡ kernel_entry (distance_at (i / P / P)) (i % P) (i / P % P)

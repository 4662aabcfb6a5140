-- The limits of each version of the text. Version 1 has a grid of 16 bits and version 2 one of 20, and the grid tells all others.
use Rattle.std.specs.Prelude.{ℕ, ◌-◌, ◌^◌, ◌==◌, ◌||◌, IsTrue, cond}

abbrev pub first_grid : ℕ
first_grid = 16

abbrev pub widest_grid : ℕ
widest_grid = 20

-- the grid of one of the versions
abbrev pub IsGrid : ℕ → Type 0
IsGrid grid = IsTrue ((grid == first_grid) || (grid == widest_grid))

-- the versions of the text
abbrev pub IsVersion : ℕ → Type 0
IsVersion version = IsTrue ((version == 1) || (version == 2))

-- the bits of the grid of a version
abbrev pub grid_of : ℕ → ℕ
grid_of version = cond (version == 2) widest_grid first_grid

-- a limit of version 1 and one of version 2, told by the grid
abbrev pub by_grid : ℕ → ℕ → ℕ → ℕ
by_grid grid first widest = cond (grid == first_grid) first widest

-- the greatest size of a strength component
abbrev pub most_strength : ℕ
most_strength = 1048576

-- the greatest number of points in a list
abbrev pub most_points : ℕ → ℕ
most_points grid = by_grid grid 65536 131072

-- the greatest total weight of a list
abbrev pub most_weight : ℕ → ℕ
most_weight grid = by_grid grid (2 ^ 32) (2 ^ 36)

-- the greatest number of cells of a tree
abbrev pub most_cells : ℕ → ℕ
most_cells grid = by_grid grid 65536 131072

-- the greatest order of a solve
abbrev pub most_order : ℕ → ℕ
most_order grid = by_grid grid 24 32

-- the greatest number of points at one place
abbrev pub most_at_a_place : ℕ
most_at_a_place = 4096

-- the greatest sizes of the ends of multipole rows, local rows and target boxes: they stay below a power of two
abbrev pub most_multipole : ℕ → ℕ
most_multipole grid = by_grid grid (2 ^ 74 - 1) (2 ^ 78 - 1)

abbrev pub most_local : ℕ → ℕ
most_local grid = by_grid grid (2 ^ 82 - 1) (2 ^ 86 - 1)

abbrev pub most_box : ℕ → ℕ
most_box grid = by_grid grid (2 ^ 84 - 1) (2 ^ 94 - 1)

-- the greatest size of an end that is printed, in any version
abbrev pub most_printed : ℕ
most_printed = 2 ^ 96

-- the greatest number of workers of a solve, in any version
abbrev pub most_workers : ℕ
most_workers = 64

-- ---- certificates
-- the greatest number of bytes of a certificate
abbrev pub most_certificate : ℕ → ℕ
most_certificate grid = by_grid grid (2 ^ 30) (2 ^ 31)

-- the greatest number of its entries, which no text of so many bytes passes
abbrev pub most_entries : ℕ → ℕ
most_entries grid = by_grid grid (2 ^ 28 - 1) (2 ^ 29 - 1)

-- the greatest sizes of what it gives as ends of multipole rows, as ends of local rows and radii, and as ends of target boxes and counts
abbrev pub most_given_multipole : ℕ
most_given_multipole = 2 ^ 80

abbrev pub most_given_local : ℕ
most_given_local = 2 ^ 90

abbrev pub most_given_target : ℕ → ℕ
most_given_target grid = by_grid grid (2 ^ 84) (2 ^ 96)

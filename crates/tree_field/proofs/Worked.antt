-- The field, computed, against boxes that are known from elsewhere.
use Rattle.std.specs.Prelude.{ℕ, ℤ, pos, neg_ℤ, ◌≡◌, ◌==◌, Bool, ◌&&◌, cond, List, [], ◌∷◌}
use mathlib.Core.Path.{refl}
use Rattle.exact_math.specs.Gaussian.{gaussian}
use Rattle.cell_name.specs.Square.{Square}
use Rattle.letters.specs.declared.Letter.{Letter}
use Rattle.letters.specs.declared.Letter.TheVariants.{U, V, W, X}
use Rattle.kernel_table.specs.Kernel.{kernel_power, kernel_entry}
use Rattle.points.specs.declared.Kind.TheVariants.{Charge, Target}
use Rattle.points.specs.declared.Point.{Point}
use Rattle.row_recursions.proofs.Worked.{box}
use Rattle.row_recursions.specs.Rows.{source_moment, up_round, shifted_up, converted, far_source, down_round, shifted_down, local_round, local_value, multipole_round, multipole_value, powers, far_powers}
use Rattle.truncation.specs.Tails.{pair_tail, single_tail}
use Rattle.quadtree.specs.Splitting.{cells_to_level}
use Rattle.tree_field.specs.Lists.{TreeLists}
use Rattle.tree_field.proofs.Sorting.{sorted_cells}
use Rattle.tree_field.specs.Field.{multipole_above, leaf_below, local_at_level, radius_at_level, target_box}
use Rattle.tree_field.specs.Work.{translations, pairs}

abbrev charge : ℤ → Point
charge x = record { x = x; y = pos 0; kind = Charge (pos 1) }

abbrev target : ℤ → Point
target x = record { x = x; y = pos 0; kind = Target }

abbrev nine : Point → List Point → List Point
nine p rest = p ∷ p ∷ p ∷ p ∷ p ∷ p ∷ p ∷ p ∷ p ∷ rest

-- a grid of 5 bits, with places from -16 to 15
abbrev cell : ℕ → ℕ → ℕ → Square
cell level i j = record { grid = 5; level = level; i = i; j = j }

abbrev is_cell : Square → ℕ → ℕ → ℕ → Bool
is_cell c level i j = (c.level == level) && (c.i == i) && (c.j == j)

-- the cells of (0, 0)
abbrev down_to_origin : List Square → List Square
down_to_origin rest = cell 0 0 0 ∷ cell 1 1 1 ∷ cell 2 2 2 ∷ cell 3 4 4 ∷ cell 4 8 8 ∷ rest

-- ---- nine charges 1 at (0, 0) and nine targets at (2, 0): one V entry of the cells of side 1
abbrev v_points : List Point
v_points = nine (charge (pos 0)) (nine (target (pos 2)) [])

abbrev v_lists : TreeLists
v_lists = record { grid = 5; cells = down_to_origin (cell 4 9 8 ∷ cell 5 16 16 ∷ cell 5 18 16 ∷ []); entries = given }
  where
    given : Letter → Square → List Square
    given U b = []
    given V b = cond (is_cell b 5 18 16) (cell 5 16 16 ∷ []) []
    given W b = []
    given X b = []

v_cells : sorted_cells (cells_to_level 5 v_points 8 5) ≡ v_lists.cells
v_cells = refl

v_box : target_box v_points 8 4 v_lists (gaussian (pos 2) (pos 0)) ≡ box (pos 3312552165840) (pos 6892290129456) (neg_ℤ (pos 1596595453488)) (pos 1983142510128)
unfolding leaf_below local_at_level radius_at_level multipole_above local_value local_round shifted_down down_round converted kernel_entry kernel_power source_moment powers pair_tail
v_box = refl

v_work : (translations v_points v_lists ≡ 11) × (pairs v_points v_lists ≡ 0)
v_work = (refl, refl)

-- ---- the targets at (1, 0): one U entry
abbrev u_points : List Point
u_points = nine (charge (pos 0)) (nine (target (pos 1)) [])

abbrev u_lists : TreeLists
u_lists = record { grid = 5; cells = down_to_origin (cell 5 16 16 ∷ cell 5 17 16 ∷ []); entries = given }
  where
    given : Letter → Square → List Square
    given U b = cond (is_cell b 5 17 16) (cell 5 16 16 ∷ []) []
    given V b = []
    given W b = []
    given X b = []

u_cells : sorted_cells (cells_to_level 5 u_points 8 5) ≡ u_lists.cells
u_cells = refl

u_box : target_box u_points 8 4 u_lists (gaussian (pos 1) (pos 0)) ≡ box (pos 9895604649984) (pos 9895604649984) (pos 0) (pos 0)
unfolding leaf_below local_at_level radius_at_level local_value local_round shifted_down down_round
u_box = refl

u_work : (translations u_points u_lists ≡ 10) × (pairs u_points u_lists ≡ 81)
u_work = (refl, refl)

-- ---- nine charges 1 at (0, 0) and a target at (8, 0): one W entry, of the cell of side 4
abbrev w_points : List Point
w_points = nine (charge (pos 0)) (target (pos 8) ∷ [])

abbrev w_lists : TreeLists
w_lists = record { grid = 5; cells = cell 0 0 0 ∷ cell 1 1 1 ∷ cell 2 2 2 ∷ cell 2 3 2 ∷ cell 3 4 4 ∷ cell 4 8 8 ∷ cell 5 16 16 ∷ []; entries = given }
  where
    given : Letter → Square → List Square
    given U b = []
    given V b = []
    given W b = cond (is_cell b 2 3 2) (cell 3 4 4 ∷ []) []
    given X b = []

w_cells : sorted_cells (cells_to_level 5 w_points 8 5) ≡ w_lists.cells
w_cells = refl

w_box : target_box w_points 8 4 w_lists (gaussian (pos 8) (pos 0)) ≡ box (pos 1127786607614) (pos 1373822247902) (neg_ℤ (pos 75518917824)) (pos 170516722464)
unfolding leaf_below local_at_level radius_at_level multipole_above local_value local_round shifted_down down_round multipole_value multipole_round shifted_up up_round source_moment powers single_tail
w_box = refl

w_work : (translations w_points w_lists ≡ 7) × (pairs w_points w_lists ≡ 0)
w_work = (refl, refl)

-- ---- a charge 1 at (8, 0) and nine targets at (0, 0): one X entry, of the cell of side 4
abbrev x_points : List Point
x_points = charge (pos 8) ∷ nine (target (pos 0)) []

abbrev x_lists : TreeLists
x_lists = record { grid = 5; cells = w_lists.cells; entries = given }
  where
    given : Letter → Square → List Square
    given U b = []
    given V b = []
    given W b = []
    given X b = cond (is_cell b 3 4 4) (cell 2 3 2 ∷ []) []

x_cells : sorted_cells (cells_to_level 5 x_points 8 5) ≡ x_lists.cells
x_cells = refl

x_box : target_box x_points 8 4 x_lists (gaussian (pos 0) (pos 0)) ≡ box (neg_ℤ (pos 152646916439)) (neg_ℤ (pos 125309623062)) (neg_ℤ (pos 18946302502)) (pos 8390990876)
unfolding leaf_below local_at_level radius_at_level local_value local_round shifted_down down_round far_source far_powers single_tail
x_box = refl

x_work : (translations x_points x_lists ≡ 7) × (pairs x_points x_lists ≡ 0)
x_work = (refl, refl)

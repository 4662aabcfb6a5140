-- Reports, computed from the definitions and compared with texts that were worked out elsewhere.
use Rattle.std.proofs.Common.{◌≡◌, refl, pos, negsuc, ℤ, List, [], ◌∷◌, ◌++◌, codes}
use Rattle.std.specs.Fmt.{digits}
use Rattle.cell_name.specs.Square.{Square, root}
use Rattle.letters.specs.declared.Letter.{Letter}
use Rattle.letters.specs.declared.Letter.TheVariants.{U, V, W, X}
use Rattle.exact_math.specs.Gaussian.{gaussian}
use Rattle.limits.specs.Limits.{first_grid}
use Rattle.near_field.specs.DirectSum.{direct_sum}
use Rattle.number_text.specs.Parts.{line_feed}
use Rattle.points.specs.declared.Kind.{Kind}
use Rattle.points.specs.declared.Kind.TheVariants.{Charge, Dipole, Vortex, Target}
use Rattle.points.specs.declared.Mode.{Mode}
use Rattle.points.specs.declared.Mode.TheVariants.{Field, Velocity}
use Rattle.points.specs.declared.Point.{Point}
use Rattle.points.specs.declared.Points.{Points}
use Rattle.row_recursions.specs.Rows.{local_round, local_value}
use Rattle.tree_field.specs.Field.{leaf_below, local_at_level, radius_at_level}
use Rattle.tree_field.specs.Lists.{TreeLists}
use Rattle.line_text.specs.Decimals.{digits_in}
use Rattle.field_report.specs.FieldText.{field_text}

-- lists of these cells, with the same U entries for each of them and no others
abbrev lists_of : List Square → List Square → TreeLists
lists_of cells near = record { grid = first_grid; cells = cells; entries = given }
  where
    given : Letter → Square → List Square
    given U b = near
    given V b = []
    given W b = []
    given X b = []

-- a tree of one cell, with a target and a source, or with only one of them; and a tree of none
abbrev one_leaf : TreeLists
one_leaf = lists_of (root first_grid ∷ []) (root first_grid ∷ [])

abbrev lone_leaf : TreeLists
lone_leaf = lists_of (root first_grid ∷ []) []

abbrev no_cell : TreeLists
no_cell = lists_of [] []

abbrev at : ℤ → ℤ → Kind → Point
at x y kind = record { x = x; y = y; kind = kind }

abbrev listed : Mode → List Point → Points
listed mode points = record { version = 1; mode = mode; list = points }

-- a charge of 1, five places away
five_away : field_text (listed Field (at (pos 0) (pos 0) (Charge (pos 1)) ∷ at (pos 3) (pos 4) Target ∷ [])) 8 8 one_leaf
    ≡ codes "fmm report 1 field order 8 cap 8" ++ line_feed
    ∷ codes "target 3 4 re 0.119999999999 0.120000000001 im -0.160000000001 -0.159999999999" ++ line_feed
    ∷ codes "work translations 0 pairs 1" ++ line_feed ∷ codes "end" ++ line_feed ∷ []
unfolding digits digits_in leaf_below local_at_level radius_at_level local_value local_round
five_away = refl

-- an exact value has no width
one_away : field_text (listed Field (at (pos 0) (pos 0) (Charge (pos 1)) ∷ at (pos 1) (pos 0) Target ∷ [])) 8 8 one_leaf
    ≡ codes "fmm report 1 field order 8 cap 8" ++ line_feed
    ∷ codes "target 1 0 re 1.000000000000 1.000000000000 im 0.000000000000 0.000000000000" ++ line_feed
    ∷ codes "work translations 0 pairs 1" ++ line_feed ∷ codes "end" ++ line_feed ∷ []
unfolding digits digits_in leaf_below local_at_level radius_at_level local_value local_round
one_away = refl

-- a vortex of circulation 1: the second number is the negative of the imaginary part
vortex : field_text (listed Velocity (at (pos 0) (pos 0) (Vortex (pos 1)) ∷ at (pos 1) (pos 0) Target ∷ [])) 8 8 one_leaf
    ≡ codes "fmm report 1 velocity order 8 cap 8" ++ line_feed
    ∷ codes "target 1 0 u 0.000000000000 0.000000000000 v 1.000000000000 1.000000000000" ++ line_feed
    ∷ codes "work translations 0 pairs 1" ++ line_feed ∷ codes "end" ++ line_feed ∷ []
unfolding digits digits_in leaf_below local_at_level radius_at_level local_value local_round
vortex = refl

-- a source at the place of the target is left out
same_place : field_text (listed Field (at (pos 5) (pos 5) (Charge (pos 7)) ∷ at (pos 5) (pos 5) Target ∷ [])) 8 8 one_leaf
    ≡ codes "fmm report 1 field order 8 cap 8" ++ line_feed
    ∷ codes "target 5 5 re 0.000000000000 0.000000000000 im 0.000000000000 0.000000000000" ++ line_feed
    ∷ codes "work translations 0 pairs 0" ++ line_feed ∷ codes "end" ++ line_feed ∷ []
unfolding digits digits_in leaf_below local_at_level radius_at_level local_value local_round
same_place = refl

-- the largest difference
across : field_text (listed Field (at (negsuc 32767) (negsuc 32767) (Charge (pos 1)) ∷ at (pos 32767) (pos 32767) Target ∷ [])) 8 8 one_leaf
    ≡ codes "fmm report 1 field order 8 cap 8" ++ line_feed
    ∷ codes "target 32767 32767 re 0.000007629510 0.000007629512 im -0.000007629512 -0.000007629510" ++ line_feed
    ∷ codes "work translations 0 pairs 1" ++ line_feed ∷ codes "end" ++ line_feed ∷ []
unfolding digits digits_in leaf_below local_at_level radius_at_level local_value local_round
across = refl

-- a dipole, two places away
dipole : field_text (listed Field (at (pos 0) (pos 0) (Dipole (pos 1) (pos 0)) ∷ at (pos 0) (pos 2) Target ∷ [])) 8 8 one_leaf
    ≡ codes "fmm report 1 field order 8 cap 8" ++ line_feed
    ∷ codes "target 0 2 re -0.250000000000 -0.250000000000 im 0.000000000000 0.000000000000" ++ line_feed
    ∷ codes "work translations 0 pairs 1" ++ line_feed ∷ codes "end" ++ line_feed ∷ []
unfolding digits digits_in leaf_below local_at_level radius_at_level local_value local_round
dipole = refl

-- no point, and a target alone
nothing : field_text (listed Field []) 8 8 no_cell ≡ codes "fmm report 1 field order 8 cap 8" ++ line_feed ∷ codes "work translations 0 pairs 0" ++ line_feed ∷ codes "end" ++ line_feed ∷ []
unfolding digits digits_in leaf_below local_at_level radius_at_level local_value local_round
nothing = refl

alone : field_text (listed Field (at (pos 0) (pos 0) Target ∷ [])) 8 8 lone_leaf
    ≡ codes "fmm report 1 field order 8 cap 8" ++ line_feed
    ∷ codes "target 0 0 re 0.000000000000 0.000000000000 im 0.000000000000 0.000000000000" ++ line_feed
    ∷ codes "work translations 0 pairs 0" ++ line_feed ∷ codes "end" ++ line_feed ∷ []
unfolding digits digits_in leaf_below local_at_level radius_at_level local_value local_round
alone = refl

-- a charge alone
unasked : field_text (listed Field (at (pos 0) (pos 0) (Charge (pos 1)) ∷ [])) 8 8 lone_leaf
    ≡ codes "fmm report 1 field order 8 cap 8" ++ line_feed ∷ codes "work translations 0 pairs 0" ++ line_feed ∷ codes "end" ++ line_feed ∷ []
unfolding digits digits_in leaf_below local_at_level radius_at_level local_value local_round
unasked = refl

-- strengths that cancel
cancel : field_text (listed Field (at (pos 0) (pos 0) (Charge (pos 1048576)) ∷ at (pos 1) (pos 0) (Charge (negsuc 1048575)) ∷ at (pos 100) (pos 0) Target ∷ [])) 8 8 one_leaf
    ≡ codes "fmm report 1 field order 8 cap 8" ++ line_feed
    ∷ codes "target 100 0 re -105.916767676770 -105.916767676767 im 0.000000000000 0.000000000000" ++ line_feed
    ∷ codes "work translations 0 pairs 2" ++ line_feed ∷ codes "end" ++ line_feed ∷ []
unfolding digits digits_in leaf_below local_at_level radius_at_level local_value local_round
cancel = refl

abbrev unit : Point
unit = at (pos 0) (pos 0) (Charge (pos 1))

-- seven charges at one place
seven : field_text (listed Field (unit ∷ unit ∷ unit ∷ unit ∷ unit ∷ unit ∷ unit ∷ at (pos 1) (pos 0) Target ∷ [])) 8 8 one_leaf
    ≡ codes "fmm report 1 field order 8 cap 8" ++ line_feed
    ∷ codes "target 1 0 re 7.000000000000 7.000000000000 im 0.000000000000 0.000000000000" ++ line_feed
    ∷ codes "work translations 0 pairs 7" ++ line_feed ∷ codes "end" ++ line_feed ∷ []
unfolding digits digits_in leaf_below local_at_level radius_at_level local_value local_round
seven = refl

-- ---- exact sums: 1/(3 + 4i), 1/(2i)^2, and nothing at one place
sum_of_a_charge : direct_sum (gaussian (pos 3) (pos 4)) (at (pos 0) (pos 0) (Charge (pos 1)) ∷ []) ≡ record { re = pos 3; im = negsuc 3; denominator = pos 25 }
sum_of_a_charge = refl

sum_of_a_dipole : direct_sum (gaussian (pos 0) (pos 2)) (at (pos 0) (pos 0) (Dipole (pos 1) (pos 0)) ∷ []) ≡ record { re = negsuc 3; im = pos 0; denominator = pos 16 }
sum_of_a_dipole = refl

sum_at_one_place : direct_sum (gaussian (pos 5) (pos 5)) (at (pos 5) (pos 5) (Charge (pos 7)) ∷ []) ≡ record { re = pos 0; im = pos 0; denominator = pos 1 }
sum_at_one_place = refl

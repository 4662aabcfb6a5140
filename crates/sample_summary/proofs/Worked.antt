-- Summaries that are known from elsewhere.
use Rattle.std.specs.Prelude.{pos, neg_ℤ, ◌≡◌, List, [], ◌∷◌, codes}
use Rattle.std.specs.Fmt.{digits}
use mathlib.Core.Path.{refl}
use Rattle.cell_name.specs.Square.{Square, root}
use Rattle.letters.specs.declared.Letter.{Letter}
use Rattle.letters.specs.declared.Letter.TheVariants.{U, V, W, X}
use Rattle.limits.specs.Limits.{first_grid}
use Rattle.points.specs.declared.Kind.TheVariants.{Charge, Target}
use Rattle.points.specs.declared.Point.{Point}
use Rattle.quadtree.specs.Splitting.{cells_to_level}
use Rattle.row_recursions.specs.Rows.{local_round, local_value, down_round, shifted_down}
use Rattle.tree_field.specs.Field.{leaf_below, local_at_level, radius_at_level}
use Rattle.tree_field.specs.Lists.{TreeLists}
use Rattle.sample_summary.specs.Summary.{summary_text}

-- ---- two charges, the sample of seed 0 with two points: one leaf, and no target
abbrev charges : List Point
charges = record { x = neg_ℤ (pos 32527); y = neg_ℤ (pos 32483); kind = Charge (pos 748) } ∷ record { x = neg_ℤ (pos 30222); y = neg_ℤ (pos 31361); kind = Charge (pos 261) } ∷ []

abbrev no_entries : TreeLists
no_entries = record { grid = first_grid; cells = root first_grid ∷ []; entries = λ letter b. [] }

charges_cells : cells_to_level first_grid charges 32 first_grid ≡ no_entries.cells
charges_cells = refl

charges_text : summary_text 0 charges 8 32 no_entries ≡ codes "sample 0 2 order 8 cap 32\npoints 2 sources 2 targets 0\ntree cells 1 leaves 1\nlists u 0 v 0 w 0 x 0\nwork translations 0 pairs 0\nwidest re 0 im 0\nend\n"
unfolding digits
charges_text = refl

-- ---- a charge 1 at (0, 0) and a target at (3, 4): one leaf, whose counts of 0.12 and -0.16 are two apart
abbrev pair : List Point
pair = record { x = pos 0; y = pos 0; kind = Charge (pos 1) } ∷ record { x = pos 3; y = pos 4; kind = Target } ∷ []

abbrev pair_lists : TreeLists
pair_lists = record { grid = first_grid; cells = root first_grid ∷ []; entries = given }
  where
    given : Letter → Square → List Square
    given U b = root first_grid ∷ []
    given V b = []
    given W b = []
    given X b = []

pair_text : summary_text 0 pair 8 8 pair_lists ≡ codes "sample 0 2 order 8 cap 8\npoints 2 sources 1 targets 1\ntree cells 1 leaves 1\nlists u 1 v 0 w 0 x 0\nwork translations 0 pairs 1\nwidest re 2 im 2\nend\n"
unfolding digits leaf_below local_at_level radius_at_level local_value local_round shifted_down down_round
pair_text = refl

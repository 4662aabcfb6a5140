-- How the counts of work are raised, and how many translations and pairs a row or a box takes.
use Rattle.std.specs.Prelude.{ℕ, ◌+◌, ◌&&◌, not, nat_lt, cond, List, length, map, filter, sum_by}
use Rattle.std.specs.List.{count_by}
use Rattle.exact_math.specs.Gaussian.{Gaussian}
use Rattle.cell_lists.specs.ListAt.{list_at}
use Rattle.cell_name.specs.Quarters.{quarters}
use Rattle.complex_box.specs.Counts.{Counts}
use Rattle.near_field.specs.Pair.{is_at}
use Rattle.points.specs.Points.{is_source}
use Rattle.points.specs.declared.Point.{Point}
use Rattle.quadtree.specs.TreeModel.{TreeModel, square_of, node_of}
use Rattle.field_basis.specs.Basis.{BasisModel, target_place, target_leaf}
use Rattle.field_basis.specs.Targets.{point_at}
use Rattle.quadtree.specs.Tree.{has_source}

-- so many translations more, and so many pairs
abbrev pub translated : ℕ → Counts → Counts
translated count work = record work { translations = work.translations + count }

abbrev pub paired : ℕ → Counts → Counts
paired count work = record work { pairs = work.pairs + count }

-- how many rows are shifted up into the row of the cell n: those of its quarters that have a source, and none into a leaf's
abbrev pub shifts_into : List Point → TreeModel → ℕ → ℕ
shifts_into points tree n = cond (node_of tree n).is_leaf 0 (count_by (has_source points) (quarters (square_of tree n)))

-- into the local row of the cell n: below the root, where the cell has a target, one from its parent and one for each cell of its V list
abbrev pub translations_into : BasisModel → ℕ → ℕ
translations_into b n = cond (nat_lt 0 n && (node_of b.tree n).has_target) (1 + length (list_at b.lists.v n)) 0

-- the sources at some positions, and how many of some points are at another place
abbrev pub sources_at : List Point → List ℕ → List Point
sources_at points positions = filter (λ p. is_source p.kind) (map (point_at points) positions)

abbrev pub count_apart : Gaussian → List Point → ℕ
count_apart z some = count_by (λ p. not (is_at z p)) some

-- the pairs of the k-th target: the sources of its leaf's U cells at other places
abbrev pub pairs_of_target : BasisModel → ℕ → ℕ
pairs_of_target b k = sum_by (λ c. count_apart (target_place b k) (sources_at b.points (node_of b.tree c).members)) (list_at b.lists.u (target_leaf b k))

-- How many translations all local rows take.
use Rattle.std.specs.Prelude.{ℕ, ◌+◌, ◌&&◌, nat_lt, length, sum_by, count_by}
use Rattle.std.specs.List.{range_with_len}
use Rattle.field_basis.specs.Basis.{BasisModel}
use Rattle.quadtree.specs.TreeModel.{size, node_of}

-- one for each V entry, and one for each cell below the root that has a target
abbrev pub all_translations_into : BasisModel → ℕ
all_translations_into b = sum_by (λ list. length list) b.lists.v + count_by (λ n. nat_lt 0 n && (node_of b.tree n).has_target) (range_with_len 0 (size b.tree))

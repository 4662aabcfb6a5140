-- Groups of numbers whose keys are given by a function.
use Rattle.std.proofs.Common.{ℕ, ◌+◌, ◌≡◌, ◌<◌, ◌==◌, Bool, List, length, map, filter, slice_index_or, sym, ap, ◌∙◌, subst, arith}
use Rattle.std.specs.Prelude.{All}
use Rattle.std.specs.List.{range_with_len}
use Rattle.std.proofs.lemmas.List.FromFn.{length-map-range_with_len, get_or-map-range_with_len}
use Rattle.exact_math.proofs.Lists.{filter_same}
use Rattle.groups.proofs.Members.{groups_are_indices, members_are_in_range, one_group_a_key}
use Rattle.groups.specs.GroupsByKey.{indices_of, groups_by, group_at}
use Rattle.cert_text.specs.Certificate.{Certificate}
use Rattle.points.specs.declared.Point.{Point}
use Rattle.certificate_nodes.proofs.Ranges.{range_each}
use Rattle.certificate_nodes.specs.Gathered.{point_groups}
use Rattle.certificate_nodes.specs.Keys.{key_at, point_keys}
use Rattle.certificate_nodes.specs.PointRows.{AreIndices}

pub indices_are : (key : ℕ → ℕ) (m n : ℕ) → indices_of (map key (range_with_len 0 m)) n ≡ filter (λ k. key k == n) (range_with_len 0 m)
indices_are key m n =
    ap (λ j. filter (λ k. slice_index_or (map key (range_with_len 0 m)) k 0 == n) (range_with_len 0 j)) (length-map-range_with_len key 0 m)
    ∙ filter_same (λ k. slice_index_or (map key (range_with_len 0 m)) k 0 == n) (λ k. key k == n) (range_with_len 0 m)
    (range_each (λ k. (slice_index_or (map key (range_with_len 0 m)) k 0 == n) ≡ (key k == n)) m (λ k lt. ap (λ x. x == n) (get_or-map-range_with_len key 0 m k k 0 lt (omega arith))))

pub group_of : (key : ℕ → ℕ) (m count n : ℕ) → n < count → group_at (groups_by (map key (range_with_len 0 m)) count) n ≡ filter (λ k. key k == n) (range_with_len 0 m)
group_of key m count n lt = groups_are_indices (map key (range_with_len 0 m)) count n lt ∙ indices_are key m n

-- the groups of the points have indices of theirs
pub many_groups : (c : Certificate) (sources : Bool) (points : List Point) (groups : List (List ℕ)) → groups ≡ point_groups points c sources → length groups ≡ c.head.cells + 1
many_groups c sources points groups e = ap length e ∙ one_group_a_key (point_keys c sources points) (c.head.cells + 1)

pub in_points : (c : Certificate) (sources : Bool) (points : List Point) (n : ℕ) → All (λ k. k < length points) (group_at (point_groups points c sources) n)
in_points c sources points n =
    subst (λ m. All (λ k. k < m) (group_at (point_groups points c sources) n)) (length-map-range_with_len (key_at c sources points) 0 (length points))
    (members_are_in_range (point_keys c sources points) (c.head.cells + 1) n)

pub are_indices : (c : Certificate) (sources : Bool) (points given : List Point) (groups : List (List ℕ)) (count : ℕ) → groups ≡ point_groups points c sources → given ≡ points → AreIndices (length given) count groups
are_indices c sources points given groups count e f n lt =
    subst (λ g. All (λ k. k < length given) (group_at g n)) (sym e)
    (subst (λ (ps : List Point). All (λ k. k < length ps) (group_at (point_groups points c sources) n)) (sym f) (in_points c sources points n))

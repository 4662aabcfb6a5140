-- The numbers of the cells below each cell, as the build gathers them. No public contract cites it.
use Rattle.std.specs.Prelude.{ℕ, ◌≡◌, ◌<◌, ◌==◌, ◌&&◌, nat_lt, List, length, filter, slice_index, slice_index_or}
use Rattle.std.specs.List.{range_with_len}
use Rattle.quadtree.specs.declared.children.Children.{Children}
use Rattle.quadtree.specs.Fields.{child_numbers, no_children}

-- the numbers of a list, each once and in its order
pub record HasNumbers (children : Children) (numbers : List ℕ) : Type 0 where
  pub count_is : children.count ≡ length numbers
  pub numbers_are : child_numbers children ≡ numbers

-- the numbers from 1 on, below `count`, whose parent is `n`
abbrev pub children_among : List ℕ → ℕ → ℕ → List ℕ
children_among parents n count = filter (λ k. nat_lt 0 k && (slice_index parents k == n)) (range_with_len 0 count)

-- of each number those below `count` whose parent it is
pub record AreFamiliesTo (parents : List ℕ) (families : List Children) (count : ℕ) : Type 0 where
  pub as_many : length families ≡ length parents
  pub each : (n : ℕ) → n < length parents → HasNumbers (slice_index_or families n no_children) (children_among parents n count)

-- The place of a target, as callers see it.
use Rattle.std.specs.Prelude.{ℕ, List, map, sum_by, slice_index_or}
use Rattle.complex_box.specs.Rows.{zero_cbox}
use Rattle.complex_box.specs.declared.CBox.{CBox}

-- a box, and the pairs that were summed for it
pub record TargetModel : Type 0 where
  pub value : CBox
  pub pairs : ℕ

-- what stands past the last place
abbrev pub no_target : TargetModel
no_target = record { value = zero_cbox; pairs = 0 }

-- the place of a number
abbrev pub target_at : List TargetModel → ℕ → TargetModel
target_at places k = slice_index_or places k no_target

-- the pairs of all places
abbrev pub all_pairs : List TargetModel → ℕ
all_pairs places = sum_by (λ p. p.pairs) places

-- the boxes of all places
abbrev pub values_of : List TargetModel → List CBox
values_of places = map (λ p. p.value) places

-- The list of a number.
use Rattle.std.specs.Prelude.{ℕ, List, [], slice_index_or}

-- the list of a number, empty past the last
abbrev pub list_at : List (List ℕ) → ℕ → List ℕ
list_at lists n = slice_index_or lists n []

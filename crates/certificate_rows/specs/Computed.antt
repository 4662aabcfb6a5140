-- The multipole row that the method computes at a node. No public contract cites it.
use Rattle.std.specs.Prelude.{ℕ, cond}
use Rattle.exact_math.specs.Ends.{BoxEnds}
use Rattle.soundness.specs.Accounts.{Accounting, is_leaf}
use Rattle.soundness.specs.Computed.{computed_leaf_row, shifted_rows}

-- of a leaf from its sources, and of another node from its children
abbrev pub computed_multipole : Accounting → ℕ → ℕ → BoxEnds
computed_multipole A n = cond (is_leaf A n) (computed_leaf_row A n) (shifted_rows A n)

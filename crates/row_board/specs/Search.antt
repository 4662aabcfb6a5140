-- Looking for the first cell that is not marked. No public contract cites it.
use Rattle.std.specs.Prelude.{ℕ, ◌≡◌, Bool, true, false, List, ◌∷◌, ◌++◌, All, slice_index_or}

abbrev pub AreMarked : List Bool → List ℕ → Type 0
AreMarked marks cells = All (λ c. slice_index_or marks c false ≡ true) cells

-- the first of some cells that is not marked
pub record IsFirstUnmarked (marks : List Bool) (cells : List ℕ) (c : ℕ) : Type 0 where
  pub before : List ℕ
  pub behind : List ℕ
  pub split : cells ≡ before ++ c ∷ behind
  pub marked : AreMarked marks before
  pub unmarked : slice_index_or marks c false ≡ false

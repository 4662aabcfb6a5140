-- Two chains of cells, one down to level `m` and one down to level `n`, and a relation `T` of their levels: where the letters stand. No public contract cites it.
use Rattle.std.specs.Prelude.{ℕ, ◌≡◌, ◌-◌, ◌<◌, ◌≤◌, min, cond, ltb}
use Rattle.letters.specs.declared.Letter.{Letter}
use Rattle.letters.specs.declared.Letter.TheVariants.{U, V, W, X}

-- both chains have ended, and `T` holds
pub record IsUCase (T : ℕ → ℕ → Type 0) (m n k l : ℕ) : Type 0 where
  pub first_ends : k ≡ m
  pub second_ends : l ≡ n
  pub holds : T k l

-- one level of both chains, the first at which `T` fails
pub record IsVCase (T : ℕ → ℕ → Type 0) (m n k l : ℕ) : Type 0 where
  pub same : k ≡ l
  pub below : 0 < k
  pub in_first : k ≤ m
  pub in_second : l ≤ n
  pub holds_above : T (k - 1) (l - 1)
  pub fails : T k l → ⊥

-- the first chain has ended, and the second goes on to the first level at which `T` fails
pub record IsWCase (T : ℕ → ℕ → Type 0) (m n k l : ℕ) : Type 0 where
  pub first_ends : k ≡ m
  pub deeper : k < l
  pub in_second : l ≤ n
  pub holds_above : T k (l - 1)
  pub fails : T k l → ⊥

-- the pair of levels at which a letter stands, for chains that end at the levels `m` and `n`; X is W with the chains in the other order
abbrev pub IsCase : (ℕ → ℕ → Type 0) → ℕ → ℕ → Letter → ℕ → ℕ → Type 0
IsCase T m n U k l = IsUCase T m n k l
IsCase T m n V k l = IsVCase T m n k l
IsCase T m n W k l = IsWCase T m n k l
IsCase T m n X k l = IsWCase (λ a b. T b a) n m l k

-- what a descent of both chains at once, each staying where it ends, has at level `t`
abbrev pub Both : (ℕ → ℕ → Type 0) → ℕ → ℕ → ℕ → Type 0
Both T m n t = T (min t m) (min t n)

-- the letter that belongs to the level at which the descent stops
abbrev pub letter_at : ℕ → ℕ → ℕ → Letter
letter_at m n t = cond (ltb m t) (cond (ltb n t) U W) (cond (ltb n t) X V)

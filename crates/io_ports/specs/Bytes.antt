-- What calls do to the bytes that a source has left and to those that a sink holds, where the port tells them.
use Rattle.std.specs.Prelude.{ℕ, ◌<◌, ◌≤◌, ◌≡◌, List, [], length, take, Result, IfOk, MatchResult, Some, None}
use Rattle.std.specs.Io.KnownBytes.{Appends}
use Rattle.std.specs.declared.option.Option.{Option}

-- a write takes at most the piece, and at least a byte of one that isn't empty
abbrev pub TakesSome : {E : Type 0} → Result ℕ E → List ℕ → Type 0
TakesSome result piece = IfOk result (λ n. (n ≤ length piece) × (0 < length piece → 0 < n))

-- some of the first bytes stand behind what was held
abbrev pub AppendsPrefix : Option (List ℕ) → Option (List ℕ) → List ℕ → Type 0
AppendsPrefix before after bytes = (n : ℕ) × Appends before after (take n bytes)

-- all of the text stands behind what was held, or, after a fault, some of its first bytes
abbrev pub Writes : {T E : Type 0} → Result T E → Option (List ℕ) → Option (List ℕ) → List ℕ → Type 0
Writes result before after text = MatchResult result (λ _. Appends before after text) (λ _. AppendsPrefix before after text)

-- how many bytes one read of a whole input asks for
abbrev pub read_size : ℕ
read_size = 4096

-- the bytes are all that was left, and nothing is left after them
abbrev pub GivesAll : Option (List ℕ) → Option (List ℕ) → List ℕ → Type 0
GivesAll None after bytes = Unit {0}
GivesAll (Some left) after bytes = (bytes ≡ left) × (after ≡ Some [])

-- The soundness of an accounting.
use Rattle.std.specs.Prelude.{ℕ, ◌≤◌, All}
use Rattle.exact_math.specs.Ends.{Ends, BoxEndsContain}
use Rattle.exact_math.specs.Units.{unit}
use Rattle.near_field.specs.DirectSum.{direct_sum}
use Rattle.soundness.specs.Accounts.{Accounting, points_of}
use Rattle.soundness.specs.Counts.{EncloseBox, CountsHold}
use Rattle.soundness.specs.Rules.{Rules}

-- the box of each target contains the direct sum of all sources
abbrev pub BoxesContain : Accounting → Type 0
BoxesContain A = All (λ t. BoxEndsContain unit t.box (direct_sum t.place (points_of A.sources))) A.targets

-- at every order from 2 on, whatever is presented
abbrev pub RulesImplyContainment : Type 0
RulesImplyContainment = (P : ℕ) (A : Accounting) → 2 ≤ P → Rules P A → BoxesContain A

-- and so counts that enclose the box of a target contain it
abbrev pub RulesImplyCounts : Type 0
RulesImplyCounts =
    (P : ℕ) (A : Accounting) → 2 ≤ P → Rules P A
    → All (λ t. (re im : Ends) → EncloseBox t.box re im → CountsHold re im (direct_sum t.place (points_of A.sources))) A.targets

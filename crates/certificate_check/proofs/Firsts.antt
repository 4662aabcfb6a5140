-- Of a loop that ends at the first number at which a test fails.
use Rattle.std.proofs.Common.{ℕ, ◌+◌, ◌≡◌, ◌<◌, inl, inr, subst, arith}
use Rattle.std.proofs.lemmas.Bool.{cases_lt}
use Rattle.certificate_check.specs.Failures.{LocalLineFails, LocalLineHolds}
use Rattle.certificate_nodes.specs.Presented.{PresentedModel}

-- what holds of all numbers below n and of n, holds below the next
pub one_more : (P : ℕ → Type 0) (n : ℕ) → P n → ((m : ℕ) → m < n → P m) → (m : ℕ) → m < n + 1 → P m
one_more P n here before m lt = elim (cases_lt m n) [ inl less ↦ before m less | inr le ↦ let e : n ≡ m = omega (arith, lt, le) in subst P e here ]

-- a rule that fails at the line of a local row
pub line_fails : (g : PresentedModel) (n rule : ℕ) → LocalLineFails g n rule → LocalLineHolds g n → ⊥
line_fails g n rule (inl (e, fails)) h = fails h.0
line_fails g n rule (inr (e, row, fails)) h = fails h.1

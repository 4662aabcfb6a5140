-- Translations that are counted one after another.
use Rattle.std.proofs.Common.{ℕ, ◌+◌, ◌≡◌, ap, ◌∙◌, arith}
use Rattle.complex_box.specs.Counts.{Counts}
use Rattle.field_basis.specs.Counts.{translated}

abbrev counts : ℕ → ℕ → Counts
counts translations pairs = record { translations = translations; pairs = pairs }

pub none_translated : (old : Counts) → old ≡ translated 0 old
none_translated old = ap (λ t. counts t old.pairs) (omega arith)

pub more_translated : (m n k : ℕ) (first old new : Counts) → new ≡ translated m old → old ≡ translated n first → k ≡ n + m → new ≡ translated k first
more_translated m n k first old new e f h = e ∙ ap (translated m) f ∙ ap (λ t. counts t first.pairs) (omega arith)

-- Equal ends.
use Rattle.std.proofs.Common.{◌≡◌, ap, ℤ}
use Rattle.exact_math.specs.Ends.{Ends}

abbrev pub ends : ℤ → ℤ → Ends
ends l h = record { lo = l; hi = h }

-- ends are equal where both are
pub ends-same : {l h l' h' : ℤ} → l ≡ l' → h ≡ h' → ends l h ≡ ends l' h'
ends-same p q = λ i. record { lo = p i; hi = q i }

pub lower-same : {e f : Ends} → e ≡ f → e.lo ≡ f.lo
lower-same h = ap (λ (e : Ends). e.lo) h

pub upper-same : {e f : Ends} → e ≡ f → e.hi ≡ f.hi
upper-same h = ap (λ (e : Ends). e.hi) h

-- What is equal lies inside, for whoever shows the rules of what the method itself computed.
use Rattle.std.proofs.Common.{◌≡◌, subst, ℕ, arith}
use Rattle.std.proofs.lemmas.Int.{ints}
use Rattle.exact_math.specs.Ends.{Ends, BoxEnds, EndsInside, BoxEndsInside}
use Rattle.soundness.specs.Rules.{RowInside}

itself : (i : Ends) → EndsInside i i
itself i = record { lo = omega (arith, ints); hi = omega (arith, ints) }

pub BoxEndsInside-same : {a b : BoxEnds} → a ≡ b → BoxEndsInside a b
BoxEndsInside-same {a} e = subst (BoxEndsInside a) e (record { re = itself a.re; im = itself a.im })

pub RowInside-same : (P : ℕ) (m n : ℕ → BoxEnds) → ((k : ℕ) → m k ≡ n k) → RowInside P m n
RowInside-same P m n e k l = BoxEndsInside-same (e k)

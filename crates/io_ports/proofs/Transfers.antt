-- What pieces add up to that came or were put one after another.
use Rattle.std.proofs.Common.{◌≡◌, ℕ, ◌+◌, ◌≤◌, List, ◌++◌, length, take, drop, arith, length-append, length-take}
use Rattle.std.proofs.Math.Seq.{take-add}
use Rattle.std.proofs.KnownBytes.{Appends-trans}
use Rattle.std.specs.declared.option.Option.{Option}
use Rattle.std.specs.Io.KnownBytes.{Appends}

-- the next c bytes of xs, after the first d
pub Appends-next : (before mid after : Option (List ℕ)) (d c : ℕ) (xs : List ℕ)
    → Appends before mid (take d xs) → Appends mid after (take c (drop d xs)) → Appends before after (take (d + c) xs)
Appends-next before mid after d c xs p q = rw (take-add d c xs) (Appends-trans before mid after _ _ p q)

-- how many bytes came, where the last read gave n
pub length-came : (bytes chunk : List ℕ) (size n : ℕ) → size ≡ length bytes → n ≤ length chunk → length (bytes ++ take n chunk) ≡ size + n
length-came bytes chunk size n e h = simp (length-append, length-take) (omega arith)

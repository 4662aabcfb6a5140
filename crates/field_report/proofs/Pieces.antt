-- Pieces that go out one after another.
use Rattle.std.proofs.Common.{◌≡◌, ◌∙◌, sym, subst, arith, ℕ, ◌+◌, List, ◌++◌, length, take, min, Ok, Err, Result}
use Rattle.std.proofs.KnownBytes.{Appends-trans}
use Rattle.std.proofs.Math.Seq.{take-append-add}
use Rattle.std.proofs.lemmas.List.{take-append-le, take_min}
use Rattle.std.specs.Io.KnownBytes.{Appends}
use Rattle.std.specs.Result.{IsErrAnd}
use Rattle.std.specs.declared.option.Option.{Option}
use Rattle.io_ports.specs.Bytes.{AppendsPrefix, Writes}

-- a piece, and then a prefix of the next
pub AppendsPrefix-then : (before mid after : Option (List ℕ)) (xs ys : List ℕ) → Appends before mid xs → AppendsPrefix mid after ys → AppendsPrefix before after (xs ++ ys)
AppendsPrefix-then before mid after xs ys p q = (length xs + q.0, subst (Appends before after) (sym (take-append-add xs ys q.0)) (Appends-trans before mid after xs (take q.0 ys) p q.1))

-- a prefix of the first piece is one of both
pub AppendsPrefix-front : (before after : Option (List ℕ)) (xs ys : List ℕ) → AppendsPrefix before after xs → AppendsPrefix before after (xs ++ ys)
AppendsPrefix-front before after xs ys p =
    let e : take (min p.0 (length xs)) (xs ++ ys) ≡ take p.0 xs = take-append-le (min p.0 (length xs)) xs ys (omega arith) ∙ take_min p.0 xs in
    (min p.0 (length xs), subst (Appends before after) (sym e) p.1)

-- a piece, and then what a call writes of the next
pub Writes-then : {T E : Type 0} (result : Result T E) (before mid after : Option (List ℕ)) (xs ys : List ℕ) → Appends before mid xs → Writes result mid after ys → Writes result before after (xs ++ ys)
Writes-then (Ok x) before mid after xs ys p q = Appends-trans before mid after xs ys p q
Writes-then (Err e) before mid after xs ys p q = AppendsPrefix-then before mid after xs ys p q

-- a call that failed after a piece
pub Writes-failed : {T E : Type 0} (Q : E → Type 0) (result : Result T E) (before after : Option (List ℕ)) (xs : List ℕ) → IsErrAnd result Q → AppendsPrefix before after xs → Writes result before after xs
Writes-failed Q (Ok x) before after xs h p = absurd h
Writes-failed Q (Err e) before after xs h p = p

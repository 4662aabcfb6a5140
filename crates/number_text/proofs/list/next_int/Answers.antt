use Rattle.std.proofs.Common.{subst}
use Rattle.number_text.specs.Numbers.{IsInt}
use Rattle.number_text.specs.Parts.{IsFreeOf}
use Rattle.number_text.proofs.Cuts.{no_cut, same_cut}
use Rattle.number_text.proofs.list.next_int.Goals as goal

pub returns-in_err-word-clause-none : goal.returns-in_err-word-clause-none
returns-in_err-word-clause-none c =
    rw c.from_residual.ensures (λ word back z cut int. no_cut 32 word back (subst (IsFreeOf 32) cut.whole c.in_err-word.ensures.none))

pub returns-in_err-read_int-clause-none : goal.returns-in_err-read_int-clause-none
returns-in_err-read_int-clause-none c =
    rw c.from_residual-in_err-read_int.ensures (λ word back z cut int.
    let same = same_cut 32 c.args.text.now word back _ _ cut c.in_ok-word.ensures.some in
    c.in_err-read_int.ensures.none z (subst (λ w. IsInt w z) same.fronts int))

use Rattle.std.proofs.Common.{◌≡◌, ◌+◌, take, sym, subst}
use Rattle.std.specs.Prelude.{Some, position, ◌==◌}
use Rattle.std.proofs.lemmas.List.{take_rest}
use Rattle.number_text.specs.Parts.{IsCut}
use Rattle.number_text.proofs.Cuts.{cut_at_position, free_of_none}
use Rattle.number_text.proofs.part.cut_at.Goals as goal

pub returns-clause-some : goal.returns-clause-some
returns-clause-some c =
    let byte = c.args.byte in
    let text = c.args.text.now in
    let at = c.in_ok-at.at in
    let found : position (λ b. b == byte) text ≡ Some at = sym c.in_ok-at.ensures in
    subst (λ back. IsCut byte text (take at text) back) (sym (take_rest text (at + 1))) (cut_at_position byte text at found)

pub returns-in_err-at-clause-none : goal.returns-in_err-at-clause-none
returns-in_err-at-clause-none c = rw c.from_residual.ensures (free_of_none c.args.byte c.args.text.now (sym c.in_err-at.ensures))

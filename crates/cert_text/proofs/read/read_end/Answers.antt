use Rattle.std.proofs.Common.{◌≡◌, length, [], ap, ◌∙◌, sym, arith}
use Rattle.std.specs.Prelude.{◌==◌, ◌≢◌}
use Rattle.std.proofs.lemmas.Bool.{false≢true}
use Rattle.std.proofs.lemmas.Bool.Decides.{nat_tests}
use Rattle.cert_text.proofs.Ends.{end_right, end_missing, more_behind}
use Rattle.cert_text.proofs.read.read_end.Goals as goal

pub returns-in_default : goal.returns-in_default
returns-in_default c = λ h cert bytes start are. end_missing h c.args.line cert bytes c.args.text.now start are c.in_default.ensures.none

pub returns-then-not-is_empty : goal.returns-then-not-is_empty
returns-then-not-is_empty c =
    let some : c.in-Some.rest.now ≢ [] = λ none. false≢true (sym c.if-not-is_empty.true ∙ c.is_empty.ensures ∙ ap (λ rest. length rest == 0) none) in
    λ h cert bytes start are. more_behind h c.args.line cert bytes c.args.text.now c.in-Some.rest.now start are c.in-Some.ensures.some some

pub returns : goal.returns
returns c =
    let none : length c.in-Some.rest.now ≡ 0 = grind (arith, nat_tests, c.is_empty.ensures, c.if-not-is_empty.false) in
    λ h cert bytes start are. end_right h c.args.line cert bytes c.args.text.now c.in-Some.rest.now start are c.in-Some.ensures.some none

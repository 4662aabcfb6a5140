use Rattle.std.proofs.Common.{◌≡◌, ◌≢◌, ◌∷◌, drop, get_or, pos, neg_ℤ, sym, ap, ◌∙◌, subst, arith, to_z, of_z, w64, ◌-ℤ◌}
use Rattle.std.proofs.lemmas.Int.{ints}
use Rattle.std.proofs.lemmas.List.{take_rest, drop_more}
use Rattle.number_text.specs.Numbers.{IsUint}
use Rattle.number_text.proofs.Digits.{below_zero}
use Rattle.number_text.proofs.number.read_int.Goals as goal

pub returns-then-branch-ne45-clause-some : goal.returns-then-branch-ne45-clause-some
returns-then-branch-ne45-clause-some c =
    let some = c.in_ok-read_uint.ensures.some in
    (pos some.0, some.1, omega (arith, ints, some.2))

pub returns-clause-some : goal.returns-clause-some
returns-clause-some c =
    let word = c.args.word.now in
    let item = c.in_ok-first.ensures.item in
    let first : get_or word 0 0 ≡ 45 = sym (item.3.1 0) ∙ c.if-branch-ne45.false in
    let whole : word ≡ 45 ∷ drop 1 word = drop_more word 0 0 item.3.0 ∙ ap (λ b. b ∷ drop 1 word) first in
    let some = c.in_ok-size.ensures.some in
    let uint = subst (λ digits. IsUint digits some.0) (take_rest word 1) some.1 in
    let above : c.in_ok-size.size ≢ 0 = λ zero. absurd (omega (arith, zero, c.if-size-eq0.false)) in
    let found = below_zero word some.0 c.in_ok-size.size whole uint some.2 above in
    let cast : to_z w64 (of_z w64 (pos 0 -ℤ to_z w64 c.in_ok-size.size)) ≡ neg_ℤ (pos c.in_ok-size.size) = omega (arith, ints, some.2) in
    (found.0, found.1, cast ∙ found.2)

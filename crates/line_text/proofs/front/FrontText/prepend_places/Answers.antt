use Rattle.std.proofs.Common.{◌≡◌, suc, ◌+◌, ◌-◌, ◌++◌, ◌∙◌, ap, sym, arith}
use Rattle.line_text.proofs.Digits.{digits_in-last, digits_in-none}
use Rattle.line_text.specs.Decimals.{digits_in}
use Rattle.line_text.proofs.front.FrontText.prepend_places.Goals as goal

pub loop-place-preserved : goal.loop-place-preserved
loop-place-preserved g c =
    let left : 12 - c.loop-place.place ≡ suc (12 - (c.loop-place.place + 1)) = omega arith in
    record {
      text = rw c.prepend.ensures (c.loop-place.invariant.text ∙ ap (λ k. digits_in k c.loop-place.rest ++ c.loop-place.self) left ∙ digits_in-last (12 - (c.loop-place.place + 1)) c.loop-place.rest c.loop-place.self);
      size = rw c.prepend.ensures (omega (arith, c.loop-place.invariant.size));
    }

pub returns-clause-text : goal.returns-clause-text
returns-clause-text g c =
    let left : 12 - c.loop-place.place ≡ 0 = omega arith in
    sym (c.loop-place.invariant.text ∙ ap (λ k. digits_in k c.loop-place.rest ++ c.loop-place.self) left ∙ digits_in-none c.loop-place.rest c.loop-place.self)

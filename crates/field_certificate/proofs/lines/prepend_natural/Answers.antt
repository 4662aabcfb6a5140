use Rattle.std.proofs.Common.{arith, pos, ap, sym, ◌∷◌, ◌++◌}
use Rattle.number_text.proofs.NumbersText.{int_text-decimal}
use Rattle.field_certificate.proofs.lines.prepend_natural.Goals as goal

pub returns-clause-text : goal.returns-clause-text
returns-clause-text g c = rw (c.prepend.ensures, c.prepend_decimal.ensures.text) (ap (λ t. 32 ∷ (t ++ c.args.line.now)) (sym (int_text-decimal (pos c.args.n) (omega arith))))

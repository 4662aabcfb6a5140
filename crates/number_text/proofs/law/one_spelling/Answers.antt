use Rattle.std.proofs.Common.{◌<◌, ◌^◌, ℤ, pos, negsuc, arith}
use Rattle.std.specs.Prelude.{FitsSigned}
use Rattle.std.specs.Int.{w64}
use Rattle.std.proofs.lemmas.Int.{ints}
use lib.Signed.{mag}
use Rattle.number_text.proofs.Spelling.{one_word, int_of_decimal}
use Rattle.number_text.proofs.NumbersText.{int_of_text}
use Rattle.number_text.proofs.law.one_spelling.Goals as goal

pub returns-clause-word : goal.returns-clause-word
returns-clause-word c = one_word

pub returns-clause-spelled : goal.returns-clause-spelled
returns-clause-spelled c = int_of_text

pub returns-clause-decimal : goal.returns-clause-decimal
returns-clause-decimal c = λ z fits. int_of_decimal z (small z fits)
  where
    small : (z : ℤ) → FitsSigned w64 z → mag z < 2 ^ 63
    small (pos n) fits = omega (arith, ints, fits)
    small (negsuc n) fits = omega (arith, ints, fits)

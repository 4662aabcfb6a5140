use Rattle.std.proofs.Common.{ap, ◌∙◌, inr, Some, arith}
use Rattle.fmm_program.proofs.FrontWords.{last_word}
use Rattle.fmm_program.proofs.words.workers_behind.Goals as goal

pub returns-clause-some : goal.returns-clause-some
returns-clause-some c = record {
  least = c.in_ok-workers.ensures.some.1;
  most = c.in_ok-workers.ensures.some.2;
  named = inr (last_word _ _ _ (omega arith) (c.word.ensures ∙ ap Some c.in_ok-workers.ensures.some.0));
}

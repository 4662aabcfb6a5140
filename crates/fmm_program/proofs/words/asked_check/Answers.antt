use Rattle.std.proofs.Common.{◌≡◌, ◌≢◌, ◌∙◌, ap, sym, codes, Some, arith}
use Rattle.std.proofs.lemmas.Bool.{not-false, true≢false}
use Rattle.std.specs.Cmp.Lexicographic.{bytes_decides}
use Rattle.fmm_program.proofs.WordForms.{same_word, two_words}
use Rattle.fmm_program.proofs.words.asked_check.Goals as goal

pub returns-clause-some : goal.returns-clause-some
returns-clause-some c =
    let is_check : c.word.result.now ≡ codes "check" = (bytes_decides _ _).0 (not-false _ (sym c.if-ne.ensures)) in
    let other : c.word-else-ne.result.now ≢ codes "-" = λ e. true≢false (sym ((bytes_decides _ _).1 e) ∙ sym c.if-eq.ensures) in
    let same : c.word-2.result.now ≡ c.word-else-ne.result.now = same_word _ _ (sym c.word-2.ensures ∙ c.word-else-ne.ensures) in
    record {
      words_are = two_words _ _ _ (omega arith) (c.word.ensures ∙ ap Some is_check) c.word-2.ensures;
      named = λ e. other (sym same ∙ e);
    }

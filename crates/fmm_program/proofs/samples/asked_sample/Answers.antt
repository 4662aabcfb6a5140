use Rattle.std.proofs.Common.{◌≡◌, refl, sym, ap, subst, ◌∙◌, codes, Some, arith}
use Rattle.std.proofs.lemmas.Bool.{not-false}
use Rattle.std.specs.Cmp.Lexicographic.{bytes_decides}
use Rattle.fmm_program.proofs.FrontWords.{with_workers}
use Rattle.fmm_program.proofs.WordForms.{five_words}
use Rattle.fmm_program.specs.Workers.{HasWorkers}
use Rattle.fmm_program.proofs.samples.asked_sample.Goals as goal

pub returns-clause-some : goal.returns-clause-some
returns-clause-some c =
    let is_sample : c.word.result.now ≡ codes "sample" = (bytes_decides _ _).0 (not-false _ (sym c.if-ne.ensures)) in
    let front = five_words _ _ _ _ _ _ (omega arith) (c.word.ensures ∙ ap Some is_sample)
    (c.word-2.ensures ∙ ap Some c.in_ok-seed.ensures.some.0) (c.word-3.ensures ∙ ap Some c.in_ok-count.ensures.some.0)
    (c.word-4.ensures ∙ ap Some c.in_ok-order.ensures.some.0) (c.word-5.ensures ∙ ap Some c.in_ok-cap.ensures.some.0) in
    let has = subst (λ first. HasWorkers c.args.words.now first c.in_ok-workers.workers) front c.in_ok-workers.ensures.some in (
      record {
        words_are = with_workers _ _ _ has;
        seed_fits = omega (arith, c.in_ok-seed.ensures.some.2);
        count_fits = (c.in_ok-count.ensures.some.1, omega (arith, c.in_ok-count.ensures.some.2, c.most_sampled.ensures));
        is_order = c.in_ok-order.ensures.some.1;
        is_capacity = c.in_ok-cap.ensures.some.1;
      },
      has,
    )

pub returns-in_err-workers-clause-none : goal.returns-in_err-workers-clause-none
returns-in_err-workers-clause-none c = rw c.from_residual-in_err-workers.ensures (λ seed n order cap form. c.in_err-workers.ensures.none _ refl form.words_are)

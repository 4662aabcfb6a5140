use Rattle.std.proofs.Common.{append_assoc}
use Rattle.sample_summary.proofs.text.prepend_lists.Goals as goal

pub returns-clause-text : goal.returns-clause-text
returns-clause-text c =
    rw (
      c.prepend_word-4.ensures,
      c.prepend_decimal-4.ensures.text,
      c.total-4.ensures,
      c.prepend_word-3.ensures,
      c.prepend_decimal-3.ensures.text,
      c.total-3.ensures,
      c.prepend_word-2.ensures,
      c.prepend_decimal-2.ensures.text,
      c.total-2.ensures,
      c.prepend_word.ensures,
      c.prepend_decimal.ensures.text,
      c.total.ensures,
      c.prepend.ensures,
    )
    (simp append_assoc)

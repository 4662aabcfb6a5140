use Rattle.std.proofs.Common.{append_assoc}
use Rattle.sample_summary.proofs.text.prepend_sample.Goals as goal

pub returns : goal.returns
returns c =
    rw (
      c.prepend_word-3.ensures,
      c.prepend_decimal-4.ensures.text,
      c.from-2.ensures,
      c.prepend-2.ensures,
      c.prepend_decimal-3.ensures.text,
      c.prepend_word-2.ensures,
      c.prepend_decimal-2.ensures.text,
      c.prepend_word.ensures,
      c.prepend_decimal.ensures.text,
      c.from.ensures,
      c.prepend.ensures,
    )
    (simp append_assoc)

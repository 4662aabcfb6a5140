use Rattle.std.proofs.Common.{append_assoc, w64}
use Rattle.std.proofs.lemmas.Int.{to_z-of_z}
use Rattle.report_lines.proofs.line.line_text.Goals as goal

pub returns : goal.returns
returns c =
    rw (
      c.prepend_word-3.ensures,
      c.prepend_int-2.ensures.text,
      c.prepend-2.ensures,
      c.prepend_int.ensures.text,
      c.prepend_word-2.ensures,
      c.first_label.ensures.word,
      c.prepend_counts-2.ensures.text,
      c.prepend_word.ensures,
      c.second_label.ensures.word,
      c.prepend_counts.ensures.text,
      c.prepend.ensures,
      c.new-line.ensures,
      to_z-of_z w64 c.args.x c.ranges.x,
      to_z-of_z w64 c.args.y c.ranges.y,
    )
    (simp append_assoc)

use Rattle.std.proofs.lemmas.Bool.Decides.{Decides-eqb}
use Rattle.std.proofs.lemmas.Slice.Eq.{strip_prefix_is}
use Rattle.cert_text.proofs.Forms.{word_there, word_missing}
use Rattle.cert_text.proofs.form.behind_word.Goals as goal

pub returns-clause-some : goal.returns-clause-some
returns-clause-some c = word_there c.args.text.now c.args.word.now c.strip_prefix.result (strip_prefix_is Decides-eqb c.args.text.now c.args.word.now c.strip_prefix.result c.strip_prefix.ensures.cases)

pub returns-clause-none : goal.returns-clause-none
returns-clause-none c = word_missing c.args.text.now c.args.word.now c.strip_prefix.result (strip_prefix_is Decides-eqb c.args.text.now c.args.word.now c.strip_prefix.result c.strip_prefix.ensures.cases)

use Rattle.accounting_text.proofs.Same.{written_given, counts_given, head_given}
use Rattle.accounting_text.proofs.law.written_is_given.Goals as goal

pub returns : goal.returns
returns c = record { same = written_given; counts = counts_given; head = head_given }

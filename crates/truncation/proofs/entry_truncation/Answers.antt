use Rattle.truncation.proofs.EntryBounds.{pair_entries, multipole_entries, local_entries}
use Rattle.truncation.proofs.entry_truncation.Goals as goal

pub returns-clause-pairs : goal.returns-clause-pairs
returns-clause-pairs c = pair_entries

pub returns-clause-multipoles : goal.returns-clause-multipoles
returns-clause-multipoles c = multipole_entries

pub returns-clause-locals : goal.returns-clause-locals
returns-clause-locals c = local_entries

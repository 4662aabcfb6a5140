use Rattle.kernel_table.proofs.Entries.{kernel_entries as entries_hold}
use Rattle.kernel_table.proofs.kernel_entries.Goals as goal

pub returns : goal.returns
returns c = entries_hold

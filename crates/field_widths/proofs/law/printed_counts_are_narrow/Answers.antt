use Rattle.field_widths.proofs.PrintedWidths.{printed_counts_narrow}
use Rattle.field_widths.proofs.law.printed_counts_are_narrow.Goals as goal

pub returns : goal.returns
returns c = printed_counts_narrow

-- The widths of rows and of printed counts, with all that they rest on.
use Rattle.field_widths.specs.Laws.{LocalRowsNarrow, MultipoleValuesNarrow, PairEntriesNarrow, PrintedCountsNarrow}
use Rattle.field_widths.proofs.BoxWidths as boxes
use Rattle.field_widths.proofs.EntryWidths as entries
use Rattle.field_widths.proofs.LocalWidths as rows
use Rattle.field_widths.proofs.MultipoleBounds.{multipole_rows_hold_within}
use Rattle.field_widths.proofs.MultipoleWidths.{multipole_rows_narrow}

pub pair_entries_narrow : PairEntriesNarrow
pair_entries_narrow = entries.pair_entries_narrow multipole_rows_narrow multipole_rows_hold_within

pub multipole_values_narrow : MultipoleValuesNarrow
multipole_values_narrow = entries.multipole_values_narrow multipole_rows_narrow

pub local_rows_narrow : LocalRowsNarrow
local_rows_narrow = rows.local_rows_narrow pair_entries_narrow entries.far_entries_narrow

pub printed_counts_narrow : PrintedCountsNarrow
printed_counts_narrow = boxes.printed_counts_narrow local_rows_narrow multipole_values_narrow

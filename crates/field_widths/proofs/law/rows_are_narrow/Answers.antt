use Rattle.field_widths.proofs.EntryWidths.{far_entries_narrow}
use Rattle.field_widths.proofs.MultipoleBounds.{multipole_rows_hold_within}
use Rattle.field_widths.proofs.MultipoleWidths.{multipole_rows_narrow}
use Rattle.field_widths.proofs.PrintedWidths.{local_rows_narrow, multipole_values_narrow, pair_entries_narrow}
use Rattle.field_widths.proofs.law.rows_are_narrow.Goals as goal

pub returns : goal.returns
returns c = record {
  multipole = multipole_rows_narrow;
  held = multipole_rows_hold_within;
  pairs = pair_entries_narrow;
  far = far_entries_narrow;
  values = multipole_values_narrow;
  local = local_rows_narrow;
}

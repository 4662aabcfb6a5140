use Rattle.row_recursions.proofs.ConvertedWidths.{converted_narrow}
use Rattle.row_recursions.proofs.RowWidths.{source_moment_narrow, shifted_up_narrow, far_source_narrow, shifted_down_narrow, local_value_narrow, multipole_value_narrow}
use Rattle.row_recursions.proofs.law.row_widths.Goals as goal

pub returns : goal.returns
returns c = record {
  moments = source_moment_narrow;
  up = shifted_up_narrow;
  converted = converted_narrow;
  source = far_source_narrow;
  down = shifted_down_narrow;
  local_value = local_value_narrow;
  multipole_value = multipole_value_narrow;
}

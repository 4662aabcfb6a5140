use Rattle.row_recursions.proofs.ConvertedSizes.{converted_within}
use Rattle.row_recursions.proofs.RowSizes.{source_moment_within, shifted_up_within, far_source_within, shifted_down_within, local_value_within, multipole_value_within}
use Rattle.row_recursions.proofs.law.row_sizes.Goals as goal

pub returns : goal.returns
returns c = record {
  moments = source_moment_within;
  up = shifted_up_within;
  converted = converted_within;
  source = far_source_within;
  down = shifted_down_within;
  local_value = local_value_within;
  multipole_value = multipole_value_within;
}

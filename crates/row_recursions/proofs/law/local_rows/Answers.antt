use Rattle.row_recursions.proofs.ConvertLaws.{field_converted}
use Rattle.row_recursions.proofs.DownLaws.{field_down}
use Rattle.row_recursions.proofs.FarLaws.{field_of_source}
use Rattle.row_recursions.proofs.FieldLaws.{no_field, sum_of_fields, local_values}
use Rattle.row_recursions.proofs.OneField.{one_field}
use Rattle.row_recursions.proofs.law.local_rows.Goals as goal

pub returns : goal.returns
returns c = record { none = no_field; sum = sum_of_fields; one = one_field; converted = field_converted; source = field_of_source; down = field_down; value = local_values }

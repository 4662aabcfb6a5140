use Rattle.row_recursions.proofs.MomentLaws.{no_moments, source_moments, sum_of_moments, moments_up, multipole_values}
use Rattle.row_recursions.proofs.law.multipole_rows.Goals as goal

pub returns : goal.returns
returns c = record { none = no_moments; source = source_moments; sum = sum_of_moments; up = moments_up; value = multipole_values }

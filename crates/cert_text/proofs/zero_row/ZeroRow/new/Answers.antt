-- Each of its boxes is zero.
use Rattle.std.proofs.Common.{refl}
use Rattle.cert_text.proofs.StoredRows.{zeros_all}
use Rattle.cert_text.proofs.zero_row.ZeroRow.new.Goals as goal

pub invariant_of-result : goal.invariant_of-result
invariant_of-result c = record { zeros = record { len = refl; zero = zeros_all 32 c.zero.result c.zero.ensures.ends } }

use Rattle.exact_math.proofs.RoundedQuotients.{floor_is_greatest, ceil_is_least}
use Rattle.exact_math.proofs.rounding.Goals as goal

pub returns-clause-floor : goal.returns-clause-floor
returns-clause-floor c = floor_is_greatest

pub returns-clause-ceil : goal.returns-clause-ceil
returns-clause-ceil c = ceil_is_least

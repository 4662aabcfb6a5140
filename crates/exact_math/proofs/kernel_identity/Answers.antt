use Rattle.exact_math.proofs.KernelIdentity.{kernel_identity as identity_holds, kernel_slope_identity as slope_holds}
use Rattle.exact_math.proofs.kernel_identity.Goals as goal

pub returns-clause-identity : goal.returns-clause-identity
returns-clause-identity c = identity_holds

pub returns-clause-slope : goal.returns-clause-slope
returns-clause-slope c = slope_holds

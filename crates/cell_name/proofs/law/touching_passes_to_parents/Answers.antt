use Rattle.cell_name.proofs.Cells.{place_from_Touches, Touches-from_place, Touches-refl, Touches-sym, Touches-parent, Touches-parents}
use Rattle.cell_name.proofs.Ancestors.{Touches-ancestor}
use Rattle.cell_name.proofs.law.touching_passes_to_parents.Goals as goal

pub returns-clause-meeting : goal.returns-clause-meeting
returns-clause-meeting c b d = (place_from_Touches b d, λ p. Touches-from_place b d p.0 p.1 p.2 p.3)

pub returns-clause-reflexive : goal.returns-clause-reflexive
returns-clause-reflexive c = Touches-refl

pub returns-clause-symmetric : goal.returns-clause-symmetric
returns-clause-symmetric c = Touches-sym

pub returns-clause-parent : goal.returns-clause-parent
returns-clause-parent c = Touches-parent

pub returns-clause-parents : goal.returns-clause-parents
returns-clause-parents c = Touches-parents

pub returns-clause-ancestor : goal.returns-clause-ancestor
returns-clause-ancestor c = Touches-ancestor

use Rattle.cell_name.proofs.Distances.{centres_differ, two_or_three, places_apart, offset_large}
use Rattle.cell_name.proofs.law.cells_that_do_not_touch_are_apart.Goals as goal

pub returns-clause-centres : goal.returns-clause-centres
returns-clause-centres c = centres_differ

pub returns-clause-two_or_three : goal.returns-clause-two_or_three
returns-clause-two_or_three c = two_or_three

pub returns-clause-places : goal.returns-clause-places
returns-clause-places c = places_apart

pub returns-clause-offset : goal.returns-clause-offset
returns-clause-offset c = offset_large

-- The lists are exactly the entries, of which one accounts for each pair.
use Rattle.cell_lists.proofs.OneListed.{each_pair_has_one_listed}
use Rattle.cell_lists.proofs.gather.lists.Goals as goal

pub returns-in-Ok-clause-one_entry : goal.returns-in-Ok-clause-one_entry
returns-in-Ok-clause-one_entry c = each_pair_has_one_listed c.args.tree.now c.in-Ok.lists c.in-Ok.ensures.lists

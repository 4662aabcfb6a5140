use Rattle.tree_field.proofs.EachList.{each_list_has_tree}
use Rattle.tree_field.proofs.OneTree.{one_tree}
use Rattle.tree_field.proofs.law.tree_is_determined.Goals as goal

pub returns : goal.returns
returns c = record { some = each_list_has_tree; one = one_tree }

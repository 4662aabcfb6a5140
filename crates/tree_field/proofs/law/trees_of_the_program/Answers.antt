use Rattle.tree_field.proofs.Program.{lists_of_tree, nodes_of_tree, leaves_of_tree}
use Rattle.tree_field.proofs.Work.{work_of_tree}
use Rattle.tree_field.proofs.law.trees_of_the_program.Goals as goal

pub returns : goal.returns
returns c = record { lists = lists_of_tree; nodes = nodes_of_tree; leaves = leaves_of_tree; work = work_of_tree }

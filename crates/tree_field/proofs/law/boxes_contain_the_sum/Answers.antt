use Rattle.tree_field.proofs.Whole.{field_contains, rules_met}
use Rattle.tree_field.proofs.law.boxes_contain_the_sum.Goals as goal

pub returns : goal.returns
returns c = record { rules = rules_met; contains = field_contains }

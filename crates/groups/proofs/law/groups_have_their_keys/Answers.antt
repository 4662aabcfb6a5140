-- The laws, as they are proved.
use Rattle.groups.proofs.Members.{one_group_a_key, groups_are_indices, members_are_in_range, members_have_the_key}
use Rattle.groups.proofs.law.groups_have_their_keys.Goals as goal

pub returns : goal.returns
returns c = record { count = one_group_a_key; indices = groups_are_indices; in_range = members_are_in_range; keys = members_have_the_key }

use Rattle.tree_field.proofs.Work.{translations_are_few}
use Rattle.tree_field.proofs.law.translations_are_few.Goals as goal

pub returns : goal.returns
returns c = record { few = translations_are_few }

-- What was met is all that can be an entry.
use Rattle.std.proofs.Common.{ℕ, List, sym, subst}
use Rattle.cell_lists.specs.Meetings.{MeetsAll}
use Rattle.cell_lists.proofs.gather.Gathering.pick.Goals as goal

pub pick-requires-clause-whole : goal.pick-requires-clause-whole
pick-requires-clause-whole c =
    let P : List ℕ → Type 0 = λ met. MeetsAll c.args.tree.now c.args.b met in
    subst P (sym c.deref.ensures.value) c.in_ok-meet.ensures.whole

-- What was found around and below is all that can be an entry.
use Rattle.std.proofs.Common.{inl}
use Rattle.quadtree.specs.TreeModel.{square_of}
use Rattle.cell_name.proofs.Cells.{Touches-sym}
use Rattle.cell_lists.proofs.Picks.{meets_all, numbers_from_listed}
use Rattle.cell_lists.proofs.WalkSteps.{colleague_met}
use Rattle.cell_lists.proofs.gather.meet.Goals as goal

pub push_below-requires-clause-found : goal.push_below-requires-clause-found
push_below-requires-clause-found c n lt level touch =
    let tree = c.args.tree.now in
    c.requires.around n (colleague_met tree c.args.b n c.requires.tree c.requires.cell (record { in_range = lt; touch = Touches-sym (square_of tree n) (square_of tree c.args.b) touch; reached = inl level }))

pub returns-clause-numbers : goal.returns-clause-numbers
returns-clause-numbers c = numbers_from_listed c.args.tree.now c.push_below.new.found.items c.sort_once.new.numbers.items c.in_ok-push_below.ensures.numbers c.sort_once.ensures.no_other

pub returns-clause-whole : goal.returns-clause-whole
returns-clause-whole c =
    meets_all c.args.tree.now c.args.b c.sort_once.new.numbers.items c.requires.tree c.requires.cell
    (λ n met. c.sort_once.ensures.same n (c.in_ok-push_below.ensures.kept n (c.requires.around n met)))
    (λ leaf n below. c.sort_once.ensures.same n (c.in_ok-push_below.ensures.whole leaf n below))

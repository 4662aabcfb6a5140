-- The new range is that of what was appended.
use Rattle.std.proofs.Common.{◌≡◌, ◌++◌, [], ◌∷◌, ap, ◌∙◌, arith}
use Rattle.cell_lists.specs.declared.flat.Range.{Range}
use Rattle.cell_lists.proofs.FlatLists.{lists_push}
use Rattle.cell_lists.proofs.flat.NumberLists.push.Goals as goal

pub returns : goal.returns
returns c =
    let r : Range = record { from = c.len-from.result; to = c.len-to.result } in
    let pushed : c.push.new.self.items ≡ c.self.inside.ranges.items ++ r ∷ [] = c.in_ok-push.ensures.items ∙ ap (λ l. l ++ r ∷ []) c.reserve.ensures.items in
    lists_push c.self.inside.items.items c.args.more.now c.extend_from_slice.new.self.items c.self.inside.ranges.items c.push.new.self.items r c.args.self.now c.in_ok-extend_from_slice.ensures.items pushed (omega arith) (omega arith) c.self.invariant.each c.self.view_is

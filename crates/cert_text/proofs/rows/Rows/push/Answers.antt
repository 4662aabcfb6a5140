-- The new range is that of what was appended.
use Rattle.std.proofs.Common.{◌≡◌, ◌++◌, [], ◌∷◌, ap, ◌∙◌, arith}
use Rattle.cert_text.specs.declared.rows.Range.{Range}
use Rattle.cert_text.specs.Rows.{rows_in}
use Rattle.cert_text.proofs.StoredRows.{on_error, rows_kept, rows_push}
use Rattle.cert_text.proofs.rows.Rows.push.Goals as goal

pub returns-in_err-push_boxes-clause-kept : goal.returns-in_err-push_boxes-clause-kept
returns-in_err-push_boxes-clause-kept c =
    let more = c.push_boxes.ensures in
    let grown = ap (λ l. rows_in l c.reserve.new.self.items) more.1 ∙ ap (rows_in (c.self.inside.boxes.items ++ more.0)) c.reserve.ensures.items in
    on_error _ _ (grown ∙ rows_kept c.self.inside.boxes.items more.0 c.self.inside.ranges.items c.self.invariant ∙ c.self.view_is)

pub returns-clause-pushed : goal.returns-clause-pushed
returns-clause-pushed c =
    let r : Range = record { from = c.len-from.result; to = c.len-to.result } in
    let more = c.in_ok-push_boxes.ensures in
    let pushed : c.push_reserved.new.self.items ≡ c.self.inside.ranges.items ++ r ∷ [] = c.push_reserved.ensures.items ∙ ap (λ l. l ++ r ∷ []) c.reserve.ensures.items in
    rows_push c.self.inside.boxes.items more.0 c.push_boxes.new.boxes.items c.args.numbers.now c.self.inside.ranges.items c.push_reserved.new.self.items r c.args.self.now more.1 more.2 pushed (omega arith) (omega arith) c.self.invariant c.self.view_is

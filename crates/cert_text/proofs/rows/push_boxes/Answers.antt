-- One more box takes four numbers more.
use Rattle.std.proofs.Common.{◌≡◌, ◌^◌, ℤ, length, to_z, of_z, ◌∙◌, arith}
use Rattle.std.proofs.lemmas.Int.{ints}
use Rattle.std.specs.Int.{w128}
use Rattle.exact_math.specs.Within.{Within}
use Rattle.std.proofs.lemmas.Slice.{between_to_end}
use Rattle.cert_text.proofs.StoredRows.{boxes_more, four_within}
use Rattle.cert_text.proofs.rows.push_boxes.Goals as goal

pub loop-rest-preserved : goal.loop-rest-preserved
loop-rest-preserved c =
    let w = four_within c.loop-rest.rest.now c.loop-rest.invariant.1 c.in-len4-up.len_at_least in
    let held : (z : ℤ) → Within (2 ^ 126) z → to_z w128 (of_z w128 z) ≡ z = λ z h. omega (arith, ints, h.above, h.below) in
    boxes_more c.args.boxes.now.items c.loop-rest.boxes.items c.push.new.self.items _ c.args.numbers.now c.loop-rest.rest.now _ c.loop-rest.invariant c.in_ok-push.ensures.items c.in-len4-up.len_at_least (between_to_end c.loop-rest.rest.now 4 (length c.loop-rest.rest.now) (omega arith)) (c.new.ensures.lo ∙ held _ w.0) (c.new.ensures.hi ∙ held _ w.1) (c.new-in-len4-up.ensures.lo ∙ held _ w.2) (c.new-in-len4-up.ensures.hi ∙ held _ w.3)

use Rattle.std.proofs.Common.{◌<◌, ◌^◌, ◌∙◌, sym, length, arith, rules}
use Rattle.line_text.proofs.Digits.{decimal-last, decimal-one, decimal_room}
use Rattle.line_text.proofs.front.FrontText.prepend_decimal.Goals as goal

pub prepend-requires : goal.prepend-requires
prepend-requires g c =
    let fits : c.loop-rest.rest < 2 ^ 64 = omega arith in
    let room = decimal_room c.args.n c.loop-rest.rest c.args.self.now c.loop-rest.self c.ranges.n.fits fits c.loop-rest.invariant in
    let fitting : length c.loop-rest.self < g.row.N = omega (arith, room, c.requires) in
    search rules

pub loop-rest-preserved : goal.loop-rest-preserved
loop-rest-preserved g c =
    let fits : c.loop-rest.rest < 2 ^ 64 = omega arith in
    rw c.prepend.ensures (c.loop-rest.invariant ∙ decimal-last c.loop-rest.rest c.loop-rest.self c.loop-rest-test.true fits)

pub prepend-requires-2 : goal.prepend-requires-2
prepend-requires-2 g c =
    let fits : c.loop-rest.rest < 2 ^ 64 = omega arith in
    let room = decimal_room c.args.n c.loop-rest.rest c.args.self.now c.loop-rest.self c.ranges.n.fits fits c.loop-rest.invariant in
    let fitting : length c.loop-rest.self < g.row.N = omega (arith, room, c.requires) in
    search rules

pub returns-clause-text : goal.returns-clause-text
returns-clause-text g c =
    c.prepend-2.ensures ∙ sym (c.loop-rest.invariant ∙ decimal-one c.loop-rest.rest c.loop-rest.self (omega arith))

pub returns-clause-length : goal.returns-clause-length
returns-clause-length g c =
    let fits : c.loop-rest.rest < 2 ^ 64 = omega arith in
    let room = decimal_room c.args.n c.loop-rest.rest c.args.self.now c.loop-rest.self c.ranges.n.fits fits c.loop-rest.invariant in
    rw c.prepend-2.ensures (omega (arith, room))

use Rattle.std.proofs.Common.{arith, to_z-of_z}
use Rattle.std.proofs.lemmas.Int.{ints}
use Rattle.near_field.proofs.term.difference_of_products.Goals as goal

pub overflow_sub-result : goal.overflow_sub-result
overflow_sub-result c =
    let a = c.ranges.a in
    let b = c.ranges.b in
    let d = c.ranges.c in
    let e = c.ranges.d in
    simp to_z-of_z (omega (arith, ints))

pub returns-clause-value : goal.returns-clause-value
returns-clause-value c =
    let a = c.ranges.a in
    let b = c.ranges.b in
    let d = c.ranges.c in
    let e = c.ranges.d in
    simp to_z-of_z (omega (arith, ints))

pub returns-clause-size : goal.returns-clause-size
returns-clause-size c =
    let a = c.ranges.a in
    let b = c.ranges.b in
    let d = c.ranges.c in
    let e = c.ranges.d in
    simp to_z-of_z (record { above = omega (arith, ints); below = omega (arith, ints) })

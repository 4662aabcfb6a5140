use Rattle.std.proofs.Common.{sym, subst, arith, pos, ◌≤ℤ◌}
use Rattle.std.proofs.lemmas.Int.{ints}
use Rattle.complex_box.specs.Box.{number}
use Rattle.kernel_table.proofs.Norms.{squares, norm-fits, norm-wide}
use Rattle.kernel_table.proofs.powers.norm.Goals as goal

pub overflow_add-result : goal.overflow_add-result
overflow_add-result c =
    let b = c.requires.near in
    norm-fits (number c.args.e) c.requires c.from-re.result c.from-im.result
    (omega (arith, ints, b.re.above, b.re.below, c.from-re.ensures)) (omega (arith, ints, b.im.above, b.im.below, c.from-im.ensures))

pub returns-clause-value : goal.returns-clause-value
returns-clause-value c =
    let b = c.requires.near in
    norm-wide (number c.args.e) c.requires c.from-re.result c.from-im.result
    (omega (arith, ints, b.re.above, b.re.below, c.from-re.ensures)) (omega (arith, ints, b.im.above, b.im.below, c.from-im.ensures))

pub returns-clause-positive : goal.returns-clause-positive
returns-clause-positive c = let k = squares (number c.args.e) c.requires in subst (λ z. pos 1 ≤ℤ z) (sym (returns-clause-value c)) (omega (arith, ints, k.norm_low))

pub returns-clause-small : goal.returns-clause-small
returns-clause-small c = let k = squares (number c.args.e) c.requires in subst (λ z. z ≤ℤ pos 18) (sym (returns-clause-value c)) (omega (arith, ints, k.re, k.im))

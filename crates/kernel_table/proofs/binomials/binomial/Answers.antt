use Rattle.std.proofs.Common.{◌*◌, ◌/◌, ◌^◌, ◌≤◌, ap₂, ◌∙◌, arith}
use Rattle.std.proofs.Math.Nat.{mul-le-mul}
use Rattle.kernel_table.proofs.Chosen.{choose-next, choose_small}
use Rattle.kernel_table.proofs.binomials.binomial.Goals as goal

pub overflow_mul-ways : goal.overflow_mul-ways
overflow_mul-ways c =
    let small : c.loop-chosen.ways ≤ 2 ^ 62 = let h = choose_small c.args.n c.loop-chosen.chosen c.requires.most in omega (arith, h, c.loop-chosen.invariant) in
    let left : c.from.result ≤ 62 = omega (arith, c.from.ensures) in
    let product = mul-le-mul small left in
    omega (arith, product)

pub loop-chosen-preserved : goal.loop-chosen-preserved
loop-chosen-preserved c =
    ap₂ (λ a b. a / b) (ap₂ ◌*◌ c.loop-chosen.invariant c.from.ensures) c.from-in-loop-chosen.ensures
    ∙ choose-next c.args.n c.loop-chosen.chosen (omega (arith, c.loop-chosen-test.true, c.requires.index))

use Rattle.std.proofs.Common.{◌≡◌, ◌+◌, ◌^◌, ◌∙◌, sym, ap, subst, arith, suc, length}
use Rattle.exact_math.specs.Ends.{BoxEndsWithin, gquot_box}
use Rattle.exact_math.specs.Gaussian.{norm_gaussian, conj, scale_gaussian}
use Rattle.complex_box.specs.Box.{box_ends, number}
use Rattle.kernel_table.specs.Kernel.{kernel_power}
use Rattle.kernel_table.specs.Table.{ArePowers}
use Rattle.kernel_table.proofs.Pushed.{each_pushed}
use Rattle.kernel_table.proofs.Sizes.{power-fits}
use Rattle.kernel_table.proofs.powers.first_powers.Goals as goal

pub next_power-power-requires-clause-size : goal.next_power-power-requires-clause-size
next_power-power-requires-clause-size c =
    subst (BoxEndsWithin (2 ^ 60)) (sym c.loop-n.invariant.0) (power-fits (number c.args.e) c.requires.distance c.loop-n.n (omega (arith, c.loop-n-test.true, c.requires.most)))

pub loop-n-preserved : goal.loop-n-preserved
unfolding kernel_power
loop-n-preserved c =
    let e = number c.args.e in
    let items = c.in_ok-push.ensures.items in
    let at_n : length c.loop-n.powers.items ≡ c.loop-n.n = sym c.loop-n.powers.ok.0 ∙ c.loop-n.invariant.1 in
    let next : kernel_power e (suc c.loop-n.n) ≡ kernel_power e (c.loop-n.n + 1) = ap (kernel_power e) {x = suc c.loop-n.n} {y = c.loop-n.n + 1} (omega arith) in (
      c.next_power-power.ensures ∙ ap (λ b. gquot_box b (conj (scale_gaussian 2 e)) (norm_gaussian e)) c.loop-n.invariant.0 ∙ next,
      omega (arith, c.loop-n.invariant.1, c.in_ok-push.ensures.len),
      subst (ArePowers e) (sym items) (each_pushed (λ n b. box_ends b ≡ kernel_power e n) c.loop-n.powers.items c.loop-n.power c.loop-n.invariant.2
          (c.loop-n.invariant.0 ∙ ap (kernel_power e) (sym at_n))),
    )

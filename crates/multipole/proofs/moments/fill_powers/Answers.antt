use Rattle.std.proofs.Common.{◌∙◌, ◌^◌, ap, sym, pos, arith}
use Rattle.exact_math.specs.Ends.{gquot_box}
use Rattle.complex_box.specs.Box.{number}
use Rattle.row_recursions.proofs.RowWrites.{written-start, written-next}
use Rattle.multipole.proofs.SourcePowers.{powers-zero, powers-next}
use Rattle.multipole.proofs.moments.fill_powers.Goals as goal
use mathlib.Core.Path.{refl}

pub loop-k-init : goal.loop-k-init
loop-k-init c = record { written = written-start _ _ _ (λ j. refl); power = sym (powers-zero _ _ _); size = c.requires.size }

pub loop-k-preserved : goal.loop-k-preserved
loop-k-preserved c = record {
  written = written-next _ _ _ _ _ (omega arith) c.loop-k.invariant.power c.loop-k.invariant.written;
  power = c.next_power-power.ensures.ends ∙ ap (λ b. gquot_box b (number c.args.o) (pos (2 ^ c.args.shift))) c.loop-k.invariant.power ∙ sym (powers-next _ _ _ _);
  size = c.next_power-power.ensures.size;
}

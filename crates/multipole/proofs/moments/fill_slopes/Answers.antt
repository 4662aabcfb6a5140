use Rattle.std.proofs.Common.{◌≡◌, ◌∙◌, ◌+◌, ◌-◌, ◌*◌, ◌^◌, ap, sym, pos, arith, to_z}
use Rattle.std.proofs.lemmas.Int.{ints}
use Rattle.std.proofs.lemmas.List.{length-set}
use Rattle.std.specs.Int.{w128}
use Rattle.exact_math.specs.Ends.{BoxEnds, gquot_box, scale_box}
use Rattle.exact_math.specs.Within.{Within}
use Rattle.complex_box.specs.Box.{box_ends, number}
use Rattle.complex_box.proofs.Sizes.{box_wider, scale_box_within}
use Rattle.row_recursions.proofs.RowWrites.{written-start, written-next}
use Rattle.multipole.proofs.SourcePowers.{powers-zero, powers-next, slopes-next}
use Rattle.row_recursions.specs.Rows.{powers}
use Rattle.multipole.proofs.moments.fill_slopes.Goals as goal
use mathlib.Core.Path.{refl}

pub loop-k-init : goal.loop-k-init
loop-k-init c = record {
  first = omega arith;
  written = written-next _ _ 0 _ _ (omega (arith, c.requires.len)) c.zero.ensures.ends (written-start _ _ _ (λ j. refl));
  power = sym (powers-zero _ _ _);
  size = c.requires.size;
}

pub scale-requires : goal.scale-requires
scale-requires c =
    let e : to_z w128 c.loop-k.k ≡ pos c.loop-k.k = omega (arith, ints, c.requires.len) in
    let n = length-set c.args.row.now 0 c.zero.result in
    let w : Within 32 (pos c.loop-k.k) = record { above = omega (arith, ints); below = omega (arith, ints, c.requires.len, n) } in
    rw e (box_wider (2 ^ 60 * 32) (2 ^ 126) _ (omega arith) (scale_box_within 32 (2 ^ 60) (pos c.loop-k.k) (box_ends c.loop-k.power) w c.loop-k.invariant.size))

pub loop-k-preserved : goal.loop-k-preserved
loop-k-preserved c =
    let e : to_z w128 c.loop-k.k ≡ pos c.loop-k.k = omega (arith, ints, c.requires.len) in
    let first = c.loop-k.invariant.first in
    record {
      first = omega arith;
      written = written-next _ _ _ _ _ (omega arith)
          (c.scale.ensures.ends ∙ ap (λ n. scale_box (box_ends c.loop-k.power) n) e ∙ ap (λ (b : BoxEnds). scale_box b (pos c.loop-k.k)) c.loop-k.invariant.power
          ∙ sym (slopes-next (box_ends c.args.first) (number c.args.o) c.args.shift c.loop-k.k first)) c.loop-k.invariant.written;
      power = c.next_power-power.ensures.ends ∙ ap (λ b. gquot_box b (number c.args.o) (pos (2 ^ c.args.shift))) c.loop-k.invariant.power
          ∙ sym (powers-next (box_ends c.args.first) (number c.args.o) (2 ^ c.args.shift) (c.loop-k.k - 1))
          ∙ ap (powers (box_ends c.args.first) (number c.args.o) (2 ^ c.args.shift)) {x = c.loop-k.k - 1 + 1} {y = c.loop-k.k + 1 - 1} (omega arith);
      size = c.next_power-power.ensures.size;
    }

pub returns-clause-slopes : goal.returns-clause-slopes
returns-clause-slopes c = λ k h. let n = length-set c.args.row.now 0 c.zero.result in c.loop-k.invariant.written.below k (omega (arith, n))

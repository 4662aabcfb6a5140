use Rattle.std.proofs.Common.{◌^◌, ◌∙◌, arith, subst, sym, below_more, slice_set}
use Rattle.std.proofs.lemmas.Int.{ints}
use Rattle.std.proofs.lemmas.List.{length-set}
use Rattle.exact_math.specs.Ends.{BoxEndsWithin}
use Rattle.exact_math.specs.Within.{Within}
use Rattle.complex_box.specs.Box.{BoxWithin}
use Rattle.complex_box.specs.declared.CBox.{CBox}
use Rattle.row_recursions.specs.Rows.{row_of}
use Rattle.row_recursions.proofs.RowWrites.{row_set-same, row_set-other}
use Rattle.benches.proofs.rows.samples.sample_row.Goals as goal
use Rattle.benches.proofs.rows.samples.sample_row.Goals.{After-new-in-loop-k}

module _ (c : After-new-in-loop-k) where
  abbrev made : CBox
  made = record { re = c.new.result; im = c.new-in-loop-k.result }

  re_lo : Within (2 ^ 60) c.new.result.lo
  re_lo = let e = c.new.ensures.lo in record { above = omega (arith, ints); below = omega (arith, ints) }

  re_hi : Within (2 ^ 60) c.new.result.hi
  re_hi = let e = c.new.ensures.hi in record { above = omega (arith, ints); below = omega (arith, ints) }

  im_lo : Within (2 ^ 60) c.new-in-loop-k.result.lo
  im_lo = let e = c.new-in-loop-k.ensures.lo in record { above = omega (arith, ints); below = omega (arith, ints) }

  im_hi : Within (2 ^ 60) c.new-in-loop-k.result.hi
  im_hi = let e = c.new-in-loop-k.ensures.hi in record { above = omega (arith, ints); below = omega (arith, ints) }

  made_within : BoxWithin (2 ^ 60) made
  made_within = record { re = record { lo = re_lo; hi = re_hi }; im = record { lo = im_lo; hi = im_hi } }

pub loop-k-preserved : goal.loop-k-preserved
loop-k-preserved c = record {
  len = length-set c.loop-k.row c.loop-k.k (made c) ∙ c.loop-k.invariant.len;
  size = below_more (λ j. BoxEndsWithin (2 ^ 60) (row_of (slice_set c.loop-k.row c.loop-k.k (made c)) j)) c.loop-k.k
      (λ j l. subst (BoxEndsWithin (2 ^ 60)) (sym (row_set-other c.loop-k.row c.loop-k.k j (made c) (omega arith))) (c.loop-k.invariant.size j l))
      (subst (BoxEndsWithin (2 ^ 60)) (sym (row_set-same c.loop-k.row c.loop-k.k (made c) (omega arith))) (made_within c));
}

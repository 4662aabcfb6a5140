use Rattle.std.proofs.Common.{◌+◌, ◌*◌, ◌^◌, ◌≤◌, arith, lit≤, sym, subst, ℕ}
use Rattle.exact_math.specs.Ends.{BoxEnds, BoxEndsWithin, add_box, times_box}
use Rattle.complex_box.specs.Box.{box_ends}
use Rattle.complex_box.proofs.Sizes.{times_fits, product_sum_within, box_wider}
use Rattle.benches.proofs.arithmetic.loops.add_product.Goals as goal

-- one product more
more : (k : ℕ) (s b c : BoxEnds) → BoxEndsWithin (k * 2 ^ 97) s → BoxEndsWithin (2 ^ 48) b → BoxEndsWithin (2 ^ 48) c → BoxEndsWithin ((k + 1) * 2 ^ 97) (add_box s (times_box b c))
more k s b c u v w = subst (λ n. BoxEndsWithin n (add_box s (times_box b c))) (omega arith) (product_sum_within (k * 2 ^ 97) (2 ^ 48) (2 ^ 48) s b c u v w)

pub add_product-requires-clause-product : goal.add_product-requires-clause-product
add_product-requires-clause-product c = times_fits (2 ^ 48) (2 ^ 48) (box_ends c.boxed.result) (box_ends c.boxed-in-loop-k.result) c.boxed.ensures c.boxed-in-loop-k.ensures (lit≤ tt)

pub add_product-requires-clause-sum : goal.add_product-requires-clause-sum
add_product-requires-clause-sum c =
    let h : (c.loop-k.k + 1) * 2 ^ 97 ≤ 2 ^ 126 = omega arith in
    box_wider ((c.loop-k.k + 1) * 2 ^ 97) (2 ^ 126) _ h (more c.loop-k.k c.loop-k.acc (box_ends c.boxed.result) (box_ends c.boxed-in-loop-k.result) c.loop-k.invariant c.boxed.ensures c.boxed-in-loop-k.ensures)

pub loop-k-preserved : goal.loop-k-preserved
loop-k-preserved c =
    subst (BoxEndsWithin ((c.loop-k.k + 1) * 2 ^ 97)) (sym c.add_product.ensures.ends) (more c.loop-k.k c.loop-k.acc (box_ends c.boxed.result) (box_ends c.boxed-in-loop-k.result) c.loop-k.invariant c.boxed.ensures c.boxed-in-loop-k.ensures)

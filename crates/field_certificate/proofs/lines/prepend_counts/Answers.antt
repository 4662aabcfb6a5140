use Rattle.std.proofs.Common.{◌≡◌, ℤ, pos, negsuc, arith, to_z, of_z, ◌∙◌}
use Rattle.std.proofs.lemmas.Int.{to_z-of_z, ints}
use Rattle.std.specs.Int.{w128}
use Rattle.std.specs.Prelude.{FitsSigned}
use Rattle.exact_math.specs.Within.{Within}
use Rattle.limits.specs.Limits.{most_printed}
use Rattle.soundness.specs.Counts.{count_above, count_below}
use Rattle.field_certificate.proofs.Texts.{four_before}
use Rattle.field_certificate.proofs.lines.prepend_counts.Goals as goal

fits : (z : ℤ) → Within most_printed z → FitsSigned w128 z
fits (pos n) within = omega (arith, ints, within.above, within.below)
fits (negsuc n) within = omega (arith, ints, within.above, within.below)

pub returns-clause-text : goal.returns-clause-text
returns-clause-text g c =
    let b = c.args.b in
    let first : to_z w128 (of_z w128 c.to_count.result) ≡ count_above c.args.b.im.hi = to_z-of_z w128 c.to_count.result (fits c.to_count.result c.to_count.ensures.size) ∙ (rw (to_z-of_z w128 c.args.b.im.hi (fits c.args.b.im.hi c.requires.size.im.hi)) at c.to_count.ensures.value) in
    let second : to_z w128 (of_z w128 c.to_count-2.result) ≡ count_below c.args.b.im.lo = to_z-of_z w128 c.to_count-2.result (fits c.to_count-2.result c.to_count-2.ensures.size) ∙ (rw (to_z-of_z w128 c.args.b.im.lo (fits c.args.b.im.lo c.requires.size.im.lo)) at c.to_count-2.ensures.value) in
    let third : to_z w128 (of_z w128 c.to_count-3.result) ≡ count_above c.args.b.re.hi = to_z-of_z w128 c.to_count-3.result (fits c.to_count-3.result c.to_count-3.ensures.size) ∙ (rw (to_z-of_z w128 c.args.b.re.hi (fits c.args.b.re.hi c.requires.size.re.hi)) at c.to_count-3.ensures.value) in
    let fourth : to_z w128 (of_z w128 c.to_count-4.result) ≡ count_below c.args.b.re.lo = to_z-of_z w128 c.to_count-4.result (fits c.to_count-4.result c.to_count-4.ensures.size) ∙ (rw (to_z-of_z w128 c.args.b.re.lo (fits c.args.b.re.lo c.requires.size.re.lo)) at c.to_count-4.ensures.value) in
    four_before c.args.line.now c.prepend_number.new.line c.prepend_number-2.new.line c.prepend_number-3.new.line c.prepend_number-4.new.line _ _ _ _ _ _ _ _ first second third fourth
    c.prepend_number.ensures.text
    c.prepend_number-2.ensures.text
    c.prepend_number-3.ensures.text
    c.prepend_number-4.ensures.text

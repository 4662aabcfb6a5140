-- The line of a target, from the counts of its box.
use Rattle.std.proofs.Common.{◌≡◌, ℤ}
use Rattle.exact_math.specs.Ends.{BoxEnds}
use Rattle.points.specs.declared.Mode.{Mode}
use Rattle.points.specs.declared.Mode.TheVariants.{Field, Velocity}
use Rattle.report_lines.specs.Counts.{count_above, count_below, target_counts}
use Rattle.report_lines.specs.Report.{line_of, target_line}

pub line_of_counts : (mode : Mode) (b : BoxEnds) (x y first_lo first_hi second_lo second_hi : ℤ) → first_lo ≡ count_below b.re.lo → first_hi ≡ count_above b.re.hi
    → second_lo ≡ (target_counts mode b).second.lo → second_hi ≡ (target_counts mode b).second.hi
    → line_of mode x y first_lo first_hi second_lo second_hi ≡ target_line mode (record { x = x; y = y; counts = target_counts mode b })
line_of_counts Field b x y first_lo first_hi second_lo second_hi p q r s = λ i. line_of Field x y (p i) (q i) (r i) (s i)
line_of_counts Velocity b x y first_lo first_hi second_lo second_hi p q r s = λ i. line_of Velocity x y (p i) (q i) (r i) (s i)

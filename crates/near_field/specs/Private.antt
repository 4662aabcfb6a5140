-- Words that only the contracts of private functions cite: a term as the fraction that it stands for.
use Rattle.exact_math.specs.Ratio.{ComplexRatio}
use Rattle.near_field.specs.declared.term.Term.{Term}

abbrev pub ratio_of : Term → ComplexRatio
ratio_of t = record { re = t.re; im = t.im; denominator = t.denominator }

-- The point that five draws make, and those of a sample.
use Rattle.std.proofs.Common.{◌≡◌, ◌∙◌, ◌*◌, ◌/◌, ◌%◌, ℕ, ℤ, List}
use Rattle.points.specs.declared.Kind.{Kind}
use Rattle.points.specs.declared.Point.{Point}
use Rattle.particle_text.proofs.Forms.{same_point}
use Rattle.point_sample.specs.Generator.{draw, state_after}
use Rattle.point_sample.specs.Sample.{coordinate, kind_of, next_point, sample}

abbrev pub sample_point : ℕ → ℕ → Point
sample_point seed k = next_point (state_after seed (5 * k))

abbrev pub sample_list : ℕ → ℕ → List Point
sample_list seed n = (sample seed n).list

abbrev point_of : ℕ → ℕ → ℕ → ℕ → ℕ → Point
point_of r1 r2 r3 r4 r5 = record { x = coordinate r1 (r3 / 4 % 4); y = coordinate r2 (r3 / 4 % 4); kind = kind_of r3 r4 r5 }

pub point_of_draws : (x r1 r2 r3 r4 r5 : ℕ) (a b : ℤ) (kind : Kind)
    → r1 ≡ draw x 1 → r2 ≡ draw x 2 → r3 ≡ draw x 3 → r4 ≡ draw x 4 → r5 ≡ draw x 5
    → a ≡ coordinate r1 (r3 / 4 % 4) → b ≡ coordinate r2 (r3 / 4 % 4) → kind ≡ kind_of r3 r4 r5
    → record { x = a; y = b; kind = kind } ≡ next_point x
unfolding next_point
point_of_draws x r1 r2 r3 r4 r5 a b kind d1 d2 d3 d4 d5 across up what =
    let made : record { x = a; y = b; kind = kind } ≡ point_of r1 r2 r3 r4 r5 = same_point _ _ _ _ _ _ across up what in
    made ∙ (λ i. point_of (d1 i) (d2 i) (d3 i) (d4 i) (d5 i))

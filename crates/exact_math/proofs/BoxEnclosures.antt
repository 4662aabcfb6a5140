-- The rounded operations on boxes of whole ends, and the complex numbers with rational parts that they hold, in whatever unit.
use mathlib.Core.Path.{◌≡◌, sym, ap, subst, ◌∙◌}
use lib.IntN.{ℤ, pos}
use lib.Signed.{◌≤ℤ◌}
use Rattle.exact_math.specs.Ends.{Ends, BoxEnds, add_box, neg_box, times_box, gscale_box, quot_box, gquot_box, zero_box, BoxEndsContain, BoxEndsInside}
use Rattle.exact_math.specs.Gaussian.{Gaussian}
use Rattle.exact_math.specs.Ratio.{ComplexRatio}
use Rattle.exact_math.proofs.RingTactic.{quotes, ring3, ring4}
use Rattle.exact_math.proofs.QuadraticExtension.{same_pair}
use Rattle.exact_math.proofs.Rationals.{ℚ, rational_ring, of_int, ◌+ℚ◌, ◌*ℚ◌}
use Rattle.exact_math.proofs.ComplexRationals.{ℂ, complex, of_int_ℂ, ◌+ℂ◌, ◌*ℂ◌, neg_ℂ, parts-add, parts-neg, parts-mul, parts-int}
use Rattle.exact_math.proofs.Enclosures.{Encloses, Encloses-wider, Encloses-whole, Encloses-add, Encloses-neg, Encloses-scale, Encloses-mul, Encloses-quot}
use Rattle.exact_math.proofs.Gaussians.{value}
use Rattle.exact_math.proofs.Fractions.{Stands, Stands-re, Stands-im}
use Rattle.exact_math.proofs.Bridges.{encloses_from_contains, contains_from_encloses}

-- the ends of i round q
abbrev EnclosedBy : Ends → ℚ → Type 0
EnclosedBy i q = Encloses i.lo i.hi q

-- both parts of z lie between the ends of b
pub record EnclosesBox (b : BoxEnds) (z : ℂ) : Type 0 where
  pub re : EnclosedBy b.re z.re
  pub im : EnclosedBy b.im z.im

-- 0
pub EnclosesBox-zero : EnclosesBox zero_box (of_int_ℂ (pos 0))
EnclosesBox-zero = rw (parts-int (pos 0)) (record { re = Encloses-whole (pos 0); im = Encloses-whole (pos 0) })

-- wider ends
pub EnclosesBox-inside : {b c : BoxEnds} {z : ℂ} → BoxEndsInside b c → EnclosesBox b z → EnclosesBox c z
EnclosesBox-inside l h = record { re = Encloses-wider l.re.lo l.re.hi h.re; im = Encloses-wider l.im.lo l.im.hi h.im }

-- z + w
pub EnclosesBox-add : {b c : BoxEnds} {z w : ℂ} → EnclosesBox b z → EnclosesBox c w → EnclosesBox (add_box b c) (z +ℂ w)
EnclosesBox-add {z = z} {w = w} h k = rw (parts-add z w) (record { re = Encloses-add h.re k.re; im = Encloses-add h.im k.im })

-- -z
pub EnclosesBox-neg : {b : BoxEnds} {z : ℂ} → EnclosesBox b z → EnclosesBox (neg_box b) (neg_ℂ z)
EnclosesBox-neg {z = z} h = rw (parts-neg z) (record { re = Encloses-neg h.re; im = Encloses-neg h.im })

-- the exact product of two boxes
pub EnclosesBox-times : {b c : BoxEnds} {z w : ℂ} → EnclosesBox b z → EnclosesBox c w → EnclosesBox (times_box b c) (z *ℂ w)
EnclosesBox-times {b} {c} {z} {w} h k = rw (parts-mul z w) (record {
  re = Encloses-add (Encloses-mul b.re.lo b.re.hi c.re.lo c.re.hi h.re k.re) (Encloses-neg (Encloses-mul b.im.lo b.im.hi c.im.lo c.im.hi h.im k.im));
  im = Encloses-add (Encloses-mul b.re.lo b.re.hi c.im.lo c.im.hi h.re k.im) (Encloses-mul b.im.lo b.im.hi c.re.lo c.re.hi h.im k.re);
})

-- the exact product of a box and a Gaussian integer
pub EnclosesBox-gscale : (g : Gaussian) {b : BoxEnds} {z : ℂ} → EnclosesBox b z → EnclosesBox (gscale_box b g) (value g *ℂ z)
EnclosesBox-gscale g {b} {z} h = rw (parts-mul (value g) z) (record {
  re = Encloses-add (Encloses-scale g.re h.re) (Encloses-neg (Encloses-scale g.im h.im));
  im = turned (Encloses-add (Encloses-scale g.im h.re) (Encloses-scale g.re h.im));
})
  where
    turned : {lo hi : ℤ} → Encloses lo hi (of_int g.im *ℚ z.re +ℚ of_int g.re *ℚ z.im) → Encloses lo hi (of_int g.re *ℚ z.im +ℚ of_int g.im *ℚ z.re)
    turned {lo} {hi} k = subst (Encloses lo hi) (ring4 rational_ring (of_int g.im) z.re (of_int g.re) z.im (λ a b c d. search quotes depth 9) tt) k

-- n w, part by part
pub whole_times : (n : ℤ) (w : ℂ) → of_int_ℂ n *ℂ w ≡ complex (of_int n *ℚ w.re) (of_int n *ℚ w.im)
whole_times n w = ap (λ v. v *ℂ w) (parts-int n) ∙ parts-mul _ w ∙ same_pair rational_ring _ _
    (ring3 rational_ring (of_int n) w.re w.im (λ c x y. search quotes depth 12) tt)
    (ring3 rational_ring (of_int n) w.re w.im (λ c x y. search quotes depth 12) tt)

-- b holds n w, so its quotient holds w
pub EnclosesBox-quot : (n : ℤ) {b : BoxEnds} {w : ℂ} → pos 1 ≤ℤ n → EnclosesBox b (of_int_ℂ n *ℂ w) → EnclosesBox (quot_box b n) w
EnclosesBox-quot n {b} {w} positive h =
    let l : EnclosesBox b (complex (of_int n *ℚ w.re) (of_int n *ℚ w.im)) = subst (EnclosesBox b) (whole_times n w) h in
    record { re = Encloses-quot n positive l.re; im = Encloses-quot n positive l.im }

-- b holds z, so gquot_box b g n holds w wherever n w = g z
pub EnclosesBox-gquot : (g : Gaussian) (n : ℤ) {b : BoxEnds} {z w : ℂ} → pos 1 ≤ℤ n → EnclosesBox b z → of_int_ℂ n *ℂ w ≡ value g *ℂ z → EnclosesBox (gquot_box b g n) w
EnclosesBox-gquot g n {b} positive h e = EnclosesBox-quot n positive (subst (EnclosesBox (gscale_box b g)) (sym e) (EnclosesBox-gscale g h))

-- a box contains a fraction exactly where it holds what the fraction stands for, counted in units of 1/u
module _ (u : ℤ) (b : BoxEnds) {x : ComplexRatio} {z : ℂ} (s : Stands x z) where
  -- from the fraction to the number
  pub enclosed_from_contained : BoxEndsContain u b x → EnclosesBox b (of_int_ℂ u *ℂ z)
  enclosed_from_contained h = rw (whole_times u z) (record {
    re = encloses_from_contains u b.re.lo b.re.hi (Stands-re s) h.re;
    im = encloses_from_contains u b.im.lo b.im.hi (Stands-im s) h.im;
  })

  -- and back
  pub contained_from_enclosed : EnclosesBox b (of_int_ℂ u *ℂ z) → BoxEndsContain u b x
  contained_from_enclosed h =
      let l : EnclosesBox b (complex (of_int u *ℚ z.re) (of_int u *ℚ z.im)) = subst (EnclosesBox b) (whole_times u z) h in
      record {
        re = contains_from_encloses u b.re.lo b.re.hi (Stands-re s) l.re;
        im = contains_from_encloses u b.im.lo b.im.hi (Stands-im s) l.im;
      }

-- Head lines have no line feed inside, and differ.
use Rattle.std.proofs.Common.{◌≡◌, ◌+◌, ℕ, Bool, true, false, List, [], ◌∷◌, ◌++◌, length, get_or, ap, subst, sym, refl, ◌∙◌, inl, inr, arith}
use Rattle.std.specs.Prelude.{codes, cond, not, ◌==◌, ◌&&◌}
use Rattle.std.specs.List.{list_all}
use Rattle.std.proofs.lemmas.Bool.Decides.{nat_tests}
use Rattle.std.proofs.lemmas.Fmt.{decimal_digit}
use Rattle.limits.specs.Limits.{IsVersion}
use Rattle.limits.proofs.Grids.{version_cases}
use Rattle.number_text.specs.Parts.{IsCut, IsFreeOf}
use Rattle.points.specs.declared.Mode.{Mode}
use Rattle.points.specs.declared.Mode.TheVariants.{Field, Velocity}
use Rattle.particle_text.specs.Text.{head_line}

both : (a b : Bool) → (a && b) ≡ true → (a ≡ true) × (b ≡ true)
both true true e = (refl, refl)
both true false e = (refl, e)
both false b e = absurd (cc)

-- a text of which a test of each byte says so is free of the byte
pub free_by_test : (byte : ℕ) (text : List ℕ) → list_all (λ b. not (b == byte)) text ≡ true → IsFreeOf byte text
free_by_test byte [] e = tt
free_by_test byte (b ∷ text) e =
    let parts = both (not (b == byte)) (list_all (λ b. not (b == byte)) text) e in
    ((λ same. grind (arith, nat_tests, same, parts.0)), free_by_test byte text parts.1)

-- what holds of the four head lines, written out, holds of the head line of each version and mode
pub each_head : (P : ℕ → Mode → List ℕ → Type 0) → P 1 Field (codes "fmm 1 field") → P 1 Velocity (codes "fmm 1 velocity") → P 2 Field (codes "fmm 2 field") → P 2 Velocity (codes "fmm 2 velocity")
    → (version : ℕ) (mode : Mode) → IsVersion version → P version mode (head_line version mode)
each_head P field velocity wide_field wide_velocity version mode is =
    elim (version_cases version is) [
      | inl e ↦ subst (λ v. P v mode (head_line v mode)) (sym e) (first mode)
      | inr e ↦ subst (λ v. P v mode (head_line v mode)) (sym e) (second mode)
    ]
  where
    first : (mode : Mode) → P 1 mode (head_line 1 mode)
    first Field = subst (λ digits. P 1 Field (codes "fmm " ++ digits ++ codes " field")) (sym (decimal_digit 1 (omega arith))) field
    first Velocity = subst (λ digits. P 1 Velocity (codes "fmm " ++ digits ++ codes " velocity")) (sym (decimal_digit 1 (omega arith))) velocity

    second : (mode : Mode) → P 2 mode (head_line 2 mode)
    second Field = subst (λ digits. P 2 Field (codes "fmm " ++ digits ++ codes " field")) (sym (decimal_digit 2 (omega arith))) wide_field
    second Velocity = subst (λ digits. P 2 Velocity (codes "fmm " ++ digits ++ codes " velocity")) (sym (decimal_digit 2 (omega arith))) wide_velocity

-- the head lines, written out
abbrev pub written : ℕ → Mode → List ℕ
written version Field = cond (version == 1) (codes "fmm 1 field") (codes "fmm 2 field")
written version Velocity = cond (version == 1) (codes "fmm 1 velocity") (codes "fmm 2 velocity")

pub head_is : (version : ℕ) (mode : Mode) → IsVersion version → head_line version mode ≡ written version mode
head_is = each_head (λ version mode line. line ≡ written version mode) refl refl refl refl

pub head_free : (version : ℕ) (mode : Mode) → IsVersion version → IsFreeOf 10 (head_line version mode)
head_free = each_head (λ version mode line. IsFreeOf 10 line) (free_by_test 10 (codes "fmm 1 field") refl) (free_by_test 10 (codes "fmm 1 velocity") refl) (free_by_test 10 (codes "fmm 2 field") refl) (free_by_test 10 (codes "fmm 2 velocity") refl)

pub head_cut : (bytes rest : List ℕ) (version : ℕ) (mode : Mode) → IsVersion version → bytes ≡ head_line version mode ++ 10 ∷ rest → IsCut 10 bytes (head_line version mode) rest
head_cut bytes rest version mode is whole = record { whole = whole; first = head_free version mode is }

-- the version and the mode of a head line
pub record SameHead (v w : ℕ) (a b : Mode) : Type 0 where
  pub versions : v ≡ w
  pub modes : a ≡ b

-- the fifth letter tells the version
digit_of : (version : ℕ) (mode : Mode) → IsVersion version → get_or (head_line version mode) 4 0 ≡ 48 + version
digit_of = each_head (λ version mode line. get_or line 4 0 ≡ 48 + version) refl refl refl refl

-- the length tells the mode
abbrev length_for : Mode → ℕ
length_for Field = 11
length_for Velocity = 14

length_of : (version : ℕ) (mode : Mode) → IsVersion version → length (head_line version mode) ≡ length_for mode
length_of = each_head (λ version mode line. length line ≡ length_for mode) refl refl refl refl

pub one_head : (v w : ℕ) (a b : Mode) → IsVersion v → IsVersion w → head_line v a ≡ head_line w b → SameHead v w a b
one_head v w a b first other e =
    let digits : 48 + v ≡ 48 + w = sym (digit_of v a first) ∙ ap (λ line. get_or line 4 0) e ∙ digit_of w b other in
    record { versions = omega (arith, digits); modes = by_length a b (sym (length_of v a first) ∙ ap length e ∙ length_of w b other) }
  where
    by_length : (a b : Mode) → length_for a ≡ length_for b → a ≡ b
    by_length Field Field e = refl
    by_length Field Velocity e = absurd (omega (arith, e))
    by_length Velocity Field e = absurd (omega (arith, e))
    by_length Velocity Velocity e = refl

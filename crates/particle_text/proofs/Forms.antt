-- Lines of points, by their form.
use Rattle.std.proofs.Common.{◌≡◌, ◌≢◌, ℕ, ℤ, List, [], ◌∷◌, get_or, sym, ap, ◌∙◌, subst, refl, arith}
use Rattle.std.specs.Prelude.{codes}
use Rattle.number_text.specs.Numbers.{AreInts}
use Rattle.number_text.specs.Parts.{IsCut}
use Rattle.number_text.proofs.Cuts.{same_cut}
use Rattle.points.specs.declared.Kind.{Kind}
use Rattle.points.specs.declared.Kind.TheVariants.{Charge, Dipole, Vortex, Target, Pole}
use Rattle.points.specs.declared.Point.{Point}
use Rattle.points.specs.Limits.{IsKindOf}
use Rattle.particle_text.specs.declared.line.Form.{Form}
use Rattle.particle_text.specs.declared.line.Form.TheVariants as forms
use Rattle.particle_text.specs.Private.{kind_of_form, word_of}
use Rattle.particle_text.specs.Text.{LineSpells, name_of, strength_of, numbers_of}

-- a line that is cut at its first space is read by its first word and its numbers
pub record ReadsAs (name numbers : List ℕ) (q : Point) : Type 0 where
  pub named : name ≡ name_of q.kind
  pub spelled : AreInts numbers (numbers_of q)

pub reads_as : (version : ℕ) (line name numbers : List ℕ) (q : Point) → IsCut 32 line name numbers → LineSpells version line q → ReadsAs name numbers q
reads_as version line name numbers q cut spells =
    let same = same_cut 32 line _ _ name numbers spells.cut cut in
    record { named = sym same.fronts; spelled = subst (λ t. AreInts t (numbers_of q)) same.backs spells.spelled }

-- the words of the forms differ in their first letters
pub apart : (name word other : List ℕ) → name ≡ word → name ≡ other → get_or word 0 0 ≢ get_or other 0 0 → ⊥
apart name word other a b differ = differ (ap (λ letters. get_or letters 0 0) (sym a ∙ b))

-- the form of a kind
abbrev pub form_of_kind : Kind → Form
form_of_kind (Charge q) = forms.Charge
form_of_kind (Dipole re im) = forms.Dipole
form_of_kind (Vortex g) = forms.Vortex
form_of_kind Target = forms.Target
form_of_kind (Pole re im) = forms.Pole

pub word_of_kind : (kind : Kind) → name_of kind ≡ word_of (form_of_kind kind)
word_of_kind (Charge q) = refl
word_of_kind (Dipole re im) = refl
word_of_kind (Vortex g) = refl
word_of_kind Target = refl
word_of_kind (Pole re im) = refl

-- a version has the lines of a kind where it has those of its form, whatever the strength
pub form_of_version : (grid : ℕ) (kind : Kind) → IsKindOf grid kind → IsKindOf grid (kind_of_form (form_of_kind kind))
form_of_version grid (Charge q) is = tt
form_of_version grid (Dipole re im) is = tt
form_of_version grid (Vortex g) is = tt
form_of_version grid Target is = tt
form_of_version grid (Pole re im) is = is

-- where the numbers behind the first word are none of its form, the line is that of no point

pub no_charge : (name numbers : List ℕ) (q : Point) → name ≡ codes "charge" → ((x y z : ℤ) → AreInts numbers (x ∷ y ∷ z ∷ []) → ⊥) → ReadsAs name numbers q → ⊥
no_charge name numbers q named none reads = by_kind q.kind reads.named reads.spelled
  where
    by_kind : (kind : Kind) → name ≡ name_of kind → AreInts numbers (q.x ∷ q.y ∷ strength_of kind) → ⊥
    by_kind (Charge strength) same ints = none q.x q.y strength ints
    by_kind (Dipole re im) same ints = apart name (codes "charge") (codes "dipole") named same (omega arith)
    by_kind (Vortex g) same ints = apart name (codes "charge") (codes "vortex") named same (omega arith)
    by_kind Target same ints = apart name (codes "charge") (codes "target") named same (omega arith)
    by_kind (Pole re im) same ints = apart name (codes "charge") (codes "pole") named same (omega arith)

pub no_dipole : (name numbers : List ℕ) (q : Point) → name ≡ codes "dipole" → ((x y z w : ℤ) → AreInts numbers (x ∷ y ∷ z ∷ w ∷ []) → ⊥) → ReadsAs name numbers q → ⊥
no_dipole name numbers q named none reads = by_kind q.kind reads.named reads.spelled
  where
    by_kind : (kind : Kind) → name ≡ name_of kind → AreInts numbers (q.x ∷ q.y ∷ strength_of kind) → ⊥
    by_kind (Charge q) same ints = apart name (codes "dipole") (codes "charge") named same (omega arith)
    by_kind (Dipole re im) same ints = none q.x q.y re im ints
    by_kind (Vortex g) same ints = apart name (codes "dipole") (codes "vortex") named same (omega arith)
    by_kind Target same ints = apart name (codes "dipole") (codes "target") named same (omega arith)
    by_kind (Pole re im) same ints = apart name (codes "dipole") (codes "pole") named same (omega arith)

pub no_vortex : (name numbers : List ℕ) (q : Point) → name ≡ codes "vortex" → ((x y z : ℤ) → AreInts numbers (x ∷ y ∷ z ∷ []) → ⊥) → ReadsAs name numbers q → ⊥
no_vortex name numbers q named none reads = by_kind q.kind reads.named reads.spelled
  where
    by_kind : (kind : Kind) → name ≡ name_of kind → AreInts numbers (q.x ∷ q.y ∷ strength_of kind) → ⊥
    by_kind (Charge q) same ints = apart name (codes "vortex") (codes "charge") named same (omega arith)
    by_kind (Dipole re im) same ints = apart name (codes "vortex") (codes "dipole") named same (omega arith)
    by_kind (Vortex g) same ints = none q.x q.y g ints
    by_kind Target same ints = apart name (codes "vortex") (codes "target") named same (omega arith)
    by_kind (Pole re im) same ints = apart name (codes "vortex") (codes "pole") named same (omega arith)

pub no_target : (name numbers : List ℕ) (q : Point) → name ≡ codes "target" → ((x y : ℤ) → AreInts numbers (x ∷ y ∷ []) → ⊥) → ReadsAs name numbers q → ⊥
no_target name numbers q named none reads = by_kind q.kind reads.named reads.spelled
  where
    by_kind : (kind : Kind) → name ≡ name_of kind → AreInts numbers (q.x ∷ q.y ∷ strength_of kind) → ⊥
    by_kind (Charge q) same ints = apart name (codes "target") (codes "charge") named same (omega arith)
    by_kind (Dipole re im) same ints = apart name (codes "target") (codes "dipole") named same (omega arith)
    by_kind (Vortex g) same ints = apart name (codes "target") (codes "vortex") named same (omega arith)
    by_kind Target same ints = none q.x q.y ints
    by_kind (Pole re im) same ints = apart name (codes "target") (codes "pole") named same (omega arith)

pub no_pole : (name numbers : List ℕ) (q : Point) → name ≡ codes "pole" → ((x y z w : ℤ) → AreInts numbers (x ∷ y ∷ z ∷ w ∷ []) → ⊥) → ReadsAs name numbers q → ⊥
no_pole name numbers q named none reads = by_kind q.kind reads.named reads.spelled
  where
    by_kind : (kind : Kind) → name ≡ name_of kind → AreInts numbers (q.x ∷ q.y ∷ strength_of kind) → ⊥
    by_kind (Charge q) same ints = apart name (codes "pole") (codes "charge") named same (omega arith)
    by_kind (Dipole re im) same ints = apart name (codes "pole") (codes "dipole") named same (omega arith)
    by_kind (Vortex g) same ints = apart name (codes "pole") (codes "vortex") named same (omega arith)
    by_kind Target same ints = apart name (codes "pole") (codes "target") named same (omega arith)
    by_kind (Pole re im) same ints = none q.x q.y re im ints

-- numbers that are cut to the greatest size are the numbers of the point that is cut so
pub same_point : (x y u v : ℤ) (kind other : Kind) → x ≡ u → y ≡ v → kind ≡ other → ◌≡◌ {A = Point} (record { x = x; y = y; kind = kind }) (record { x = u; y = v; kind = other })
same_point x y u v kind other a b e = λ i. record { x = a i; y = b i; kind = e i }

-- Words that only the contracts of private functions cite: the forms of lines, and a point with its numbers cut to the greatest size that is read.
use Rattle.std.specs.Prelude.{ℕ, List, pos}
use Rattle.number_text.specs.Numbers.{cut_int}
use Rattle.points.specs.declared.Kind.{Kind}
use Rattle.points.specs.declared.Kind.TheVariants.{Charge, Dipole, Vortex, Target, Pole}
use Rattle.points.specs.declared.Point.{Point}
use Rattle.particle_text.specs.declared.line.Form.{Form}
use Rattle.particle_text.specs.declared.line.Form.TheVariants as forms
use Rattle.particle_text.specs.Text.{name_of}

-- the kind of a form, with no strength
abbrev pub kind_of_form : Form → Kind
kind_of_form forms.Charge = Charge (pos 0)
kind_of_form forms.Dipole = Dipole (pos 0) (pos 0)
kind_of_form forms.Vortex = Vortex (pos 0)
kind_of_form forms.Target = Target
kind_of_form forms.Pole = Pole (pos 0) (pos 0)

abbrev pub word_of : Form → List ℕ
word_of form = name_of (kind_of_form form)

abbrev pub cut_kind : Kind → Kind
cut_kind (Charge q) = Charge (cut_int q)
cut_kind (Dipole re im) = Dipole (cut_int re) (cut_int im)
cut_kind (Vortex g) = Vortex (cut_int g)
cut_kind Target = Target
cut_kind (Pole re im) = Pole (cut_int re) (cut_int im)

abbrev pub cut_point : Point → Point
cut_point p = record { x = cut_int p.x; y = cut_int p.y; kind = cut_kind p.kind }

-- What the reader of a line gives is what the rules read in the line; and a point is held where its place is.
use Rattle.std.proofs.Common.{ℕ, ◌≡◌, ◌<◌, List, [], ◌∷◌, length, get_or, refl, sym, ap, ap₂, ◌∙◌, subst}
use Rattle.std.specs.Prelude.{ℤ, pos, unsigned_abs, Bool, IsTrue, ◌↔◌}
use Rattle.std.proofs.lemmas.List.{get_or-map}
use Rattle.exact_math.specs.Gaussian.{Gaussian, gaussian}
use Rattle.accounting_text.specs.Given.{number_at, letter_of, given_cell, given_entry}
use Rattle.cell_name.specs.Square.{Square, Holds}
use Rattle.cert_text.specs.Certificate.{nth_number}
use Rattle.cert_text.specs.Lines.{Line, letter_word}
use Rattle.letters.specs.declared.Entry.{Entry}
use Rattle.letters.specs.declared.Letter.{Letter}
use Rattle.letters.specs.declared.Letter.TheVariants.{U, V, W, X}
use Rattle.limits.specs.Limits.{grid_of}
use Rattle.points.specs.Points.{place}
use Rattle.points.specs.declared.Kind.TheVariants.{Charge}
use Rattle.points.specs.declared.Point.{Point}
use Rattle.certificate_rules.specs.LineRules.{nth_place}

pub cell_read : (version parent : ℕ) (s : Square) (l : Line) → l.numbers ≡ pos parent ∷ pos s.level ∷ pos s.i ∷ pos s.j ∷ [] → s.grid ≡ grid_of version → s ≡ given_cell version l
cell_read version parent s l numbers grid =
    let read : List ℤ → ℕ → Square = λ zs g. record { grid = g; level = unsigned_abs (nth_number zs 1); i = unsigned_abs (nth_number zs 2); j = unsigned_abs (nth_number zs 3) } in
    ap₂ read (sym numbers) grid

pub number_read : (n : ℕ) (l : Line) (zs : List ℤ) → l.numbers ≡ pos n ∷ zs → n ≡ number_at l 0
number_read n l zs numbers = ap (λ zs. unsigned_abs (nth_number zs 0)) (sym numbers)

letter_read : (l : Letter) → l ≡ letter_of (letter_word l)
letter_read U = refl
letter_read V = refl
letter_read W = refl
letter_read X = refl

pub entry_read : (e : Entry) (l : Line) → l.word ≡ letter_word e.letter → l.numbers ≡ pos e.b ∷ pos e.c ∷ [] → e ≡ given_entry l
entry_read e l word numbers =
    let read : Letter → List ℤ → Entry = λ letter zs. record { letter = letter; b = unsigned_abs (nth_number zs 0); c = unsigned_abs (nth_number zs 1) } in
    ap₂ read (letter_read e.letter ∙ ap letter_of (sym word)) (sym numbers)

-- ---- points
-- what is read past the last of them
abbrev pub no_point : Point
no_point = record { x = pos 0; y = pos 0; kind = Charge (pos 0) }

pub place_read : (ps : List Point) (k : ℕ) → k < length ps → place (get_or ps k no_point) ≡ nth_place ps k
place_read ps k lt = sym (get_or-map place ps k no_point (gaussian (pos 0) (pos 0)) lt)

pub held_same : (b : Bool) (s s' : Square) (p : Point) (z : Gaussian) → s ≡ s' → place p ≡ z → IsTrue b ↔ Holds s p.x p.y → IsTrue b ↔ Holds s' z.re z.im
held_same b s s' p z e f h = subst (λ z. IsTrue b ↔ Holds s' z.re z.im) f (subst (λ s. IsTrue b ↔ Holds s p.x p.y) e h)

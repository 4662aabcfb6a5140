-- The text of a list of particles: a head line, and a line for each particle. Each line ends with a line feed.
use Rattle.std.specs.Prelude.{◌≡◌, ℕ, ℤ, List, [], ◌∷◌, ◌++◌, codes}
use Rattle.std.specs.Fmt.{decimal, signed_decimal}
use Rattle.std.specs.List.{flat_map}
use Rattle.limits.specs.Limits.{grid_of}
use Rattle.number_text.specs.Numbers.{AreInts}
use Rattle.number_text.specs.Parts.{IsCut, line_feed, space}
use Rattle.points.specs.declared.Kind.{Kind}
use Rattle.points.specs.declared.Kind.TheVariants.{Charge, Dipole, Vortex, Target, Pole}
use Rattle.points.specs.declared.Mode.{Mode}
use Rattle.points.specs.declared.Mode.TheVariants.{Field, Velocity}
use Rattle.points.specs.declared.Point.{Point}
use Rattle.points.specs.declared.Points.{Points}
use Rattle.points.specs.Limits.{IsKindOf, WithinLimits}

-- line 1: `fmm`, the version and the mode
abbrev pub head_line : ℕ → Mode → List ℕ
head_line version Field = codes "fmm " ++ decimal version ++ codes " field"
head_line version Velocity = codes "fmm " ++ decimal version ++ codes " velocity"

-- the first word of a particle's line
abbrev pub name_of : Kind → List ℕ
name_of (Charge q) = codes "charge"
name_of (Dipole re im) = codes "dipole"
name_of (Vortex g) = codes "vortex"
name_of Target = codes "target"
name_of (Pole re im) = codes "pole"

-- the numbers of its strength
abbrev pub strength_of : Kind → List ℤ
strength_of (Charge q) = q ∷ []
strength_of (Dipole re im) = re ∷ im ∷ []
strength_of (Vortex g) = g ∷ []
strength_of Target = []
strength_of (Pole re im) = re ∷ im ∷ []

-- the numbers behind the first word: the place and the strength
abbrev pub numbers_of : Point → List ℤ
numbers_of p = p.x ∷ p.y ∷ strength_of p.kind

-- The line, without its line feed, is that of the point p in a text of this version:
-- the name of a kind of the version, a space, and the numbers. They may have any number of digits.
pub record LineSpells (version : ℕ) (line : List ℕ) (p : Point) : Type 0 where
  pub kind : IsKindOf (grid_of version) p.kind
  pub numbers : List ℕ
  pub cut : IsCut space line (name_of p.kind) numbers
  pub spelled : AreInts numbers (numbers_of p)

-- the bytes begin with the line of p and its line feed, and the rest follows
pub record BeginsWith (version : ℕ) (bytes : List ℕ) (p : Point) (rest : List ℕ) : Type 0 where
  pub line : List ℕ
  pub cut : IsCut line_feed bytes line rest
  pub spelled : LineSpells version line p

-- the bytes are the lines of the points in a text of this version, in order
abbrev pub AreLines : ℕ → List ℕ → List Point → Type 0
AreLines version bytes [] = bytes ≡ []
AreLines version bytes (p ∷ points) = (rest : List ℕ) × BeginsWith version bytes p rest × AreLines version rest points

-- the bytes are a text of these points, which are within the limits of their version
pub record Spells (bytes : List ℕ) (points : Points) : Type 0 where
  pub limits : WithinLimits points
  pub lines : List ℕ
  pub head : bytes ≡ head_line points.version points.mode ++ line_feed ∷ lines
  pub body : AreLines points.version lines points.list

-- Each list within the limits has one text. Here it is, as a function of the list.

-- the numbers, each behind a space, and the line feed
abbrev pub numbers_line : List ℤ → List ℕ
numbers_line [] = line_feed ∷ []
numbers_line (z ∷ zs) = space ∷ (signed_decimal z ++ numbers_line zs)

-- the line of p, with its line feed
abbrev pub line_text : Point → List ℕ
line_text p = name_of p.kind ++ numbers_line (numbers_of p)

abbrev pub text_of : Points → List ℕ
text_of points = head_line points.version points.mode ++ line_feed ∷ [] ++ flat_map line_text points.list

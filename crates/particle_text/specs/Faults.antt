-- What can be wrong with a text, and which fault is named: of the first line at fault, the first kind that holds.
use Rattle.std.specs.Prelude.{◌≡◌, ◌≢◌, ◌⊎◌, ℕ, ◌+◌, ◌<◌, ◌≤◌, List, [], ◌∷◌, ◌++◌, length, Result, Ok, Err}
use Rattle.limits.specs.Limits.{IsVersion, grid_of, most_points, most_weight}
use Rattle.number_text.specs.Parts.{line_feed}
use Rattle.points.specs.declared.Mode.{Mode}
use Rattle.particle_text.specs.declared.ParseFault.{ParseFault}
use Rattle.particle_text.specs.declared.ParseFault.TheVariants.{Text, Memory}
use Rattle.points.specs.declared.Point.{Point}
use Rattle.points.specs.declared.Points.{Points}
use Rattle.particle_text.specs.declared.TextKind.{TextKind}
use Rattle.particle_text.specs.declared.TextKind.TheVariants.{Syntax, Range, Mixed, Many, Strength}
use Rattle.points.specs.Limits.{InRange, FitsMode, weight64, total_weight}
use Rattle.particle_text.specs.Text.{LineSpells, BeginsWith, Spells, head_line}

-- the kinds in their order
abbrev pub rank : TextKind → ℕ
rank Syntax = 0
rank Range = 1
rank Mixed = 2
rank Many = 3
rank Strength = 4

-- the kind holds, and none that comes before it does
pub record IsFirstKind (holds : TextKind → Type 0) (kind : TextKind) : Type 0 where
  pub here : holds kind
  pub earlier : (other : TextKind) → rank other < rank kind → holds other → ⊥

-- A point that is to join a list of this version and mode, which has `live` points and this total weight, passes the test of this kind.
abbrev pub Passes : ℕ → Mode → ℕ → ℕ → Point → TextKind → Type 0
Passes version mode live weight p Syntax = Unit {0}
Passes version mode live weight p Range = InRange (grid_of version) p
Passes version mode live weight p Mixed = FitsMode mode p.kind
Passes version mode live weight p Many = live < most_points (grid_of version)
Passes version mode live weight p Strength = weight + weight64 p ≤ most_weight (grid_of version)

-- it may join the list
abbrev pub CanJoin : ℕ → Mode → ℕ → ℕ → Point → Type 0
CanJoin version mode live weight p = (kind : TextKind) → Passes version mode live weight p kind

-- what can be wrong with it; each kind by itself
abbrev pub PointFault : ℕ → Mode → ℕ → ℕ → Point → TextKind → Type 0
PointFault version mode live weight p kind = Passes version mode live weight p kind → ⊥

-- What can be wrong with one line of a point in a text of this version, without its line feed: it is of no form of the version, or out of range.
abbrev pub FormFault : ℕ → List ℕ → TextKind → Type 0
FormFault version line Syntax = (p : Point) → LineSpells version line p → ⊥
FormFault version line Range = (p : Point) × LineSpells version line p × (InRange (grid_of version) p → ⊥)
FormFault version line _ = ⊥

-- What can be wrong with the line that the bytes begin with, behind the lines of `live` points of this version, mode and total weight; each kind by itself.
abbrev pub LineFault : ℕ → Mode → ℕ → ℕ → List ℕ → TextKind → Type 0
LineFault version mode live weight bytes Syntax = (p : Point) (rest : List ℕ) → BeginsWith version bytes p rest → ⊥
LineFault version mode live weight bytes kind = (p : Point) × (rest : List ℕ) × BeginsWith version bytes p rest × PointFault version mode live weight p kind

-- the bytes begin with no head line of a version
abbrev pub HasNoHead : List ℕ → Type 0
HasNoHead bytes = (version : ℕ) (mode : Mode) (rest : List ℕ) → IsVersion version → bytes ≢ head_line version mode ++ line_feed ∷ rest

-- Line 1 and the lines of the points `before` are good, and then there is a line that has this fault.
pub record FaultsAfter (bytes : List ℕ) (before : Points) (kind : TextKind) : Type 0 where
  pub good : List ℕ
  pub rest : List ℕ
  pub parts : bytes ≡ good ++ rest
  pub spelled : Spells good before
  pub more : rest ≢ []
  pub fault : IsFirstKind (LineFault before.version before.mode (length before.list) (total_weight before.list) rest) kind

-- This line, counted from 1, is the first at fault, and of this kind. Line 1 is at fault by syntax alone, also where the bytes are none.
abbrev pub FirstFault : List ℕ → ℕ → TextKind → Type 0
FirstFault bytes line kind =
    ((line ≡ 1) × (kind ≡ Syntax) × HasNoHead bytes)
    ⊎ ((before : Points) × (line ≡ length before.list + 2) × FaultsAfter bytes before kind)

-- What a reader of the bytes answers: the points that they spell, or their first fault. Want of memory may stand in place of either.
abbrev pub Reads : List ℕ → Result Points ParseFault → Type 0
Reads bytes (Ok points) = Spells bytes points
Reads bytes (Err (Text line kind)) = FirstFault bytes line kind
Reads bytes (Err Memory) = Unit {0}

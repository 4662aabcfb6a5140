-- Lines of points, one behind the other.
use Rattle.std.proofs.Common.{◌≡◌, ◌≢◌, ◌+◌, ◌≤◌, ℕ, List, [], ◌∷◌, ◌++◌, length, sym, ap, ◌∙◌, subst, refl, inr, arith}
use Rattle.std.proofs.lemmas.List.{append_assoc, append-nil, length_push}
use Rattle.std.proofs.lemmas.List.Elements.{All-push, All-nil}
use Rattle.std.proofs.lemmas.List.Sums.{sum_by_push}
use Rattle.limits.specs.Laws.{AreWithinWidest}
use Rattle.limits.specs.Limits.{IsVersion, grid_of, widest_grid, most_points, most_weight}
use Rattle.limits.proofs.Grids.{version_has_grid, within_widest}
use Rattle.points.specs.declared.Mode.{Mode}
use Rattle.points.specs.declared.Point.{Point}
use Rattle.points.specs.declared.Points.{Points}
use Rattle.particle_text.specs.declared.TextKind.{TextKind}
use Rattle.particle_text.specs.declared.TextKind.TheVariants.{Range, Mixed, Many, Strength}
use Rattle.particle_text.specs.Faults.{CanJoin, FirstFault, IsFirstKind, LineFault}
use Rattle.points.specs.Limits.{InRange, FitsMode, WithinLimits, weight64, total_weight}
use Rattle.particle_text.specs.Text.{BeginsWith, AreLines, Spells, head_line}

-- what follows the line may be anything
pub longer : (version : ℕ) (bytes : List ℕ) (p : Point) (rest tail : List ℕ) → BeginsWith version bytes p rest → BeginsWith version (bytes ++ tail) p (rest ++ tail)
longer version bytes p rest tail begins = record {
  line = begins.line;
  cut = record {
    whole = ap (λ text. text ++ tail) begins.cut.whole ∙ append_assoc begins.line (10 ∷ rest) tail;
    first = begins.cut.first;
  };
  spelled = begins.spelled;
}

-- the line by itself
pub alone : (version : ℕ) (bytes : List ℕ) (p : Point) (rest : List ℕ) (begins : BeginsWith version bytes p rest) → BeginsWith version (begins.line ++ 10 ∷ []) p []
alone version bytes p rest begins = record { line = begins.line; cut = record { whole = refl; first = begins.cut.first }; spelled = begins.spelled }

pub one_more_line : (version : ℕ) (bytes : List ℕ) (points : List Point) (line : List ℕ) (p : Point) → AreLines version bytes points → BeginsWith version line p [] → AreLines version (bytes ++ line) (points ++ p ∷ [])
one_more_line version bytes [] line p none begins = ([], subst (λ front. BeginsWith version (front ++ line) p []) (sym none) begins, refl)
one_more_line version bytes (q ∷ points) line p lines begins =
    (lines.0 ++ line, longer version bytes q lines.0 line lines.1, one_more_line version lines.0 points line p lines.2 begins)

-- the limits of a version
pub version_limits : (version : ℕ) → AreWithinWidest (grid_of version)
version_limits version = within_widest (grid_of version) (version_has_grid version)

-- the list with one more point
abbrev pub joined : Points → Point → Points
joined points p = record points { list = points.list ++ p ∷ [] }

pub no_points : (version : ℕ) (mode : Mode) → IsVersion version → WithinLimits (record { version = version; mode = mode; list = [] })
no_points version mode is = record {
  version = is;
  mode_fits = All-nil (λ p. FitsMode mode p.kind);
  within = record { range = All-nil (InRange (grid_of version)); count = omega arith; weight = omega arith };
}

-- the point may join the list
abbrev pub Joins : Points → Point → Type 0
Joins points p = CanJoin points.version points.mode (length points.list) (total_weight points.list) p

pub one_more_point : (points : Points) (p : Point) → WithinLimits points → Joins points p → WithinLimits (joined points p)
one_more_point points p limits joins = record {
  version = limits.version;
  mode_fits = All-push (λ q. FitsMode points.mode q.kind) points.list p limits.mode_fits (joins Mixed);
  within = record {
    range = All-push (InRange (grid_of points.version)) points.list p limits.within.range (joins Range);
    count = omega (arith, length_push points.list p, joins Many);
    weight = omega (arith, sum_by_push weight64 points.list p, joins Strength);
  };
}

-- The bytes up to the rest spell these points, whose total weight is given.
pub record SoFar (bytes rest : List ℕ) (points : Points) (weight : ℕ) : Type 0 where
  pub good : List ℕ
  pub parts : bytes ≡ good ++ rest
  pub spelled : Spells good points
  pub weight_is : weight ≡ total_weight points.list

pub start : (bytes rest : List ℕ) (version : ℕ) (mode : Mode) → IsVersion version → bytes ≡ head_line version mode ++ 10 ∷ rest → SoFar bytes rest (record { version = version; mode = mode; list = [] }) 0
start bytes rest version mode is whole = record {
  good = head_line version mode ++ 10 ∷ [];
  parts = whole ∙ sym (append_assoc (head_line version mode) (10 ∷ []) rest);
  spelled = record { limits = no_points version mode is; lines = []; head = refl; body = refl };
  weight_is = refl;
}

pub step : (bytes rest : List ℕ) (points : Points) (weight : ℕ) (p : Point) (more : List ℕ) → SoFar bytes rest points weight → BeginsWith points.version rest p more → CanJoin points.version points.mode (length points.list) weight p
    → SoFar bytes more (joined points p) (weight + weight64 p)
step bytes rest points weight p more far begins joins =
    let line = begins.line ++ 10 ∷ [] in
    let same = subst (λ w. CanJoin points.version points.mode (length points.list) w p) far.weight_is joins in
    record {
      good = far.good ++ line;
      parts = far.parts ∙ ap (λ text. far.good ++ text) (begins.cut.whole ∙ sym (append_assoc begins.line (10 ∷ []) more)) ∙ sym (append_assoc far.good line more);
      spelled = record {
        limits = one_more_point points p far.spelled.limits same;
        lines = far.spelled.lines ++ line;
        head = ap (λ text. text ++ line) far.spelled.head ∙ append_assoc (head_line points.version points.mode) (10 ∷ far.spelled.lines) line;
        body = one_more_line points.version far.spelled.lines points.list line p far.spelled.body (alone points.version rest p more begins);
      };
      weight_is = ap (λ w. w + weight64 p) far.weight_is ∙ sym (sum_by_push weight64 points.list p);
    }

-- nothing is left
pub whole : (bytes rest : List ℕ) (points : Points) (weight : ℕ) → SoFar bytes rest points weight → rest ≡ [] → Spells bytes points
whole bytes rest points weight far none =
    let same : bytes ≡ far.good = far.parts ∙ ap (λ text. far.good ++ text) none ∙ append-nil far.good in
    subst (λ text. Spells text points) (sym same) far.spelled

-- something is left, and its first line is at fault
pub at_fault : (bytes rest : List ℕ) (points : Points) (weight : ℕ) (kind : TextKind) → SoFar bytes rest points weight → rest ≢ []
    → IsFirstKind (LineFault points.version points.mode (length points.list) weight rest) kind → FirstFault bytes (length points.list + 2) kind
at_fault bytes rest points weight kind far more fault = inr (
  points,
  refl,
  record {
    good = far.good;
    rest = rest;
    parts = far.parts;
    spelled = far.spelled;
    more = more;
    fault = subst (λ w. IsFirstKind (LineFault points.version points.mode (length points.list) w rest) kind) far.weight_is fault;
  },
)

-- The bytes up to the rest spell some points, of which the number and the total weight are given.
pub record SomeSoFar (bytes rest : List ℕ) (version : ℕ) (mode : Mode) (live weight : ℕ) : Type 0 where
  pub points : List Point
  pub far : SoFar bytes rest (record { version = version; mode = mode; list = points }) weight
  pub live_is : live ≡ length points
  pub few : live ≤ most_points widest_grid
  pub light : weight ≤ most_weight (grid_of version)

pub some_start : (bytes rest : List ℕ) (version : ℕ) (mode : Mode) → IsVersion version → bytes ≡ head_line version mode ++ 10 ∷ rest → SomeSoFar bytes rest version mode 0 0
some_start bytes rest version mode is whole = record { points = []; far = start bytes rest version mode is whole; live_is = refl; few = omega arith; light = omega arith }

pub some_step : (bytes rest : List ℕ) (version : ℕ) (mode : Mode) (live weight : ℕ) (p : Point) (more : List ℕ) → SomeSoFar bytes rest version mode live weight → BeginsWith version rest p more → CanJoin version mode live weight p
    → SomeSoFar bytes more version mode (live + 1) (weight + weight64 p)
some_step bytes rest version mode live weight p more some begins joins = record {
  points = some.points ++ p ∷ [];
  far = step bytes rest _ weight p more some.far begins (subst (λ n. CanJoin version mode n weight p) some.live_is joins);
  live_is = omega (arith, some.live_is, length_push some.points p);
  few = omega (arith, joins Many, (version_limits version).points);
  light = joins Strength;
}

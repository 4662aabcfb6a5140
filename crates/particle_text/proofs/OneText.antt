-- A text spells one list, or has one first fault, and never both.
use Rattle.std.proofs.Common.{◌≡◌, ◌⊎◌, ℕ, List, [], ◌∷◌, ◌++◌, length, sym, ap, ◌∙◌, subst, refl, inl, inr, arith}
use Rattle.std.specs.List.{All}
use Rattle.std.proofs.lemmas.List.{append_assoc, append-nil, length-append}
use Rattle.std.proofs.lemmas.List.Elements.{All-head, All-tail}
use Rattle.std.proofs.lemmas.List.Sums.{sum_by-append, sum_by-cons}
use Rattle.number_text.proofs.Cuts.{same_cut}
use Rattle.limits.specs.Limits.{IsVersion, grid_of}
use Rattle.points.specs.declared.Mode.{Mode}
use Rattle.points.specs.declared.Point.{Point}
use Rattle.points.specs.declared.Points.{Points}
use Rattle.particle_text.specs.declared.TextKind.{TextKind}
use Rattle.particle_text.specs.declared.TextKind.TheVariants.{Syntax, Range, Mixed, Many, Strength}
use Rattle.particle_text.specs.Faults.{CanJoin, LineFault}
use Rattle.points.specs.Limits.{InRange, FitsMode, WithinLimits, weight64, total_weight}
use Rattle.particle_text.specs.Text.{BeginsWith, AreLines, Spells, head_line}
use Rattle.particle_text.proofs.Heads.{SameHead, head_cut, one_head}
use Rattle.particle_text.proofs.LineFaults.{one_line, no_line_fault}
use Rattle.particle_text.proofs.Lines.{longer}

-- of two readings of one text, the second goes on where the first ends
pub record GoesOn (version : ℕ) (rest other : List ℕ) (before after : List Point) : Type 0 where
  pub tail : List Point
  pub lines : List ℕ
  pub points : after ≡ before ++ tail
  pub bytes : rest ≡ lines ++ other
  pub spelled : AreLines version lines tail

one_more : (version : ℕ) (rest other : List ℕ) (p q : Point) (before after : List Point) → p ≡ q → GoesOn version rest other before after → GoesOn version rest other (p ∷ before) (q ∷ after)
one_more version rest other p q before after same on = record {
  tail = on.tail;
  lines = on.lines;
  points = ap (λ ps. q ∷ ps) on.points ∙ ap (λ r. r ∷ (before ++ on.tail)) (sym same);
  bytes = on.bytes;
  spelled = on.spelled;
}

compare : (version : ℕ) (lines more rest other : List ℕ) (before after : List Point) → AreLines version lines before → AreLines version more after → lines ++ rest ≡ more ++ other → GoesOn version rest other before after ⊎ GoesOn version other rest after before
compare version lines more rest other [] after a b e = inl (record { tail = after; lines = more; points = refl; bytes = ap (λ front. front ++ rest) (sym a) ∙ e; spelled = b })
compare version lines more rest other (p ∷ before) [] a b e = inr (record { tail = p ∷ before; lines = lines; points = refl; bytes = ap (λ front. front ++ other) (sym b) ∙ sym e; spelled = a })
compare version lines more rest other (p ∷ before) (q ∷ after) a b e =
    let first = longer version lines p a.0 rest a.1 in
    let second = subst (λ text. BeginsWith version text q (b.0 ++ other)) (sym e) (longer version more q b.0 other b.1) in
    let same = one_line version (lines ++ rest) p q (a.0 ++ rest) (b.0 ++ other) first second in
    elim (compare version a.0 b.0 rest other before after a.2 b.2 same.rests) [
      | inl on ↦ inl (one_more version rest other p q before after same.points on)
      | inr on ↦ inr (one_more version other rest q p after before (sym same.points) on)
    ]

-- the version and the mode of a text, and where its lines begin
pub record SameStart (v w : ℕ) (a b : Mode) (rest other : List ℕ) : Type 0 where
  pub heads : SameHead v w a b
  pub rests : rest ≡ other

same_start : (bytes rest other : List ℕ) (v w : ℕ) (a b : Mode) → IsVersion v → IsVersion w → bytes ≡ head_line v a ++ 10 ∷ rest → bytes ≡ head_line w b ++ 10 ∷ other → SameStart v w a b rest other
same_start bytes rest other v w a b first second e f =
    let same = same_cut 10 bytes _ rest _ other (head_cut bytes rest v a first e) (head_cut bytes other w b second f) in
    record { heads = one_head v w a b first second same.fronts; rests = same.backs }

-- behind a good front
pub behind : (bytes good rest lines : List ℕ) (points : Points) → bytes ≡ good ++ rest → good ≡ head_line points.version points.mode ++ 10 ∷ lines → bytes ≡ head_line points.version points.mode ++ 10 ∷ (lines ++ rest)
behind bytes good rest lines points parts head = parts ∙ ap (λ front. front ++ rest) head ∙ append_assoc (head_line points.version points.mode) (10 ∷ lines) rest

-- two good fronts of one text
pub record Fronts (rest other : List ℕ) (before after : Points) : Type 0 where
  pub heads : SameHead before.version after.version before.mode after.mode
  pub either : GoesOn after.version rest other before.list after.list ⊎ GoesOn before.version other rest after.list before.list

pub fronts : (bytes good rest fine other : List ℕ) (before after : Points) → bytes ≡ good ++ rest → Spells good before → bytes ≡ fine ++ other → Spells fine after → Fronts rest other before after
fronts bytes good rest fine other before after parts spells cuts reads =
    let first = behind bytes good rest spells.lines before parts spells.head in
    let second = behind bytes fine other reads.lines after cuts reads.head in
    let start = same_start bytes _ _ before.version after.version before.mode after.mode spells.limits.version reads.limits.version first second in
    let same = sym start.heads.versions in
    let body = subst (λ version. AreLines version reads.lines after.list) same reads.body in
    let either : GoesOn after.version rest other before.list after.list ⊎ GoesOn before.version other rest after.list before.list = elim (compare before.version spells.lines reads.lines rest other before.list after.list spells.body body start.rests) [
      | inl on ↦ inl (subst (λ version. GoesOn version rest other before.list after.list) start.heads.versions on)
      | inr on ↦ inr on
    ] in
    record { heads = start.heads; either = either }

-- lists that agree in all parts
pub same_points : (a b : Points) → SameHead a.version b.version a.mode b.mode → a.list ≡ b.list → a ≡ b
same_points a b heads lists = λ i. record { version = heads.versions i; mode = heads.modes i; list = lists i }

-- a point that stands in a list within the limits could join those before it
all_of_append : {X : Type 0} (P : X → Type 0) (xs ys : List X) → All P (xs ++ ys) → All P ys
all_of_append P [] ys all = all
all_of_append P (x ∷ xs) ys all = all_of_append P xs ys (All-tail P x (xs ++ ys) all)

pub member_joins : (version : ℕ) (mode : Mode) (before : List Point) (p : Point) (tail : List Point) → WithinLimits (record { version = version; mode = mode; list = before ++ p ∷ tail })
    → CanJoin version mode (length before) (total_weight before) p
member_joins version mode before p tail limits Syntax = tt
member_joins version mode before p tail limits Range = All-head (InRange (grid_of version)) p tail (all_of_append (InRange (grid_of version)) before (p ∷ tail) limits.within.range)
member_joins version mode before p tail limits Mixed = All-head (λ q. FitsMode mode q.kind) p tail (all_of_append (λ q. FitsMode mode q.kind) before (p ∷ tail) limits.mode_fits)
member_joins version mode before p tail limits Many = omega (arith, limits.within.count, length-append before (p ∷ tail))
member_joins version mode before p tail limits Strength = omega (arith, limits.within.weight, sum_by-append weight64 before (p ∷ tail), sum_by-cons weight64 p tail)

-- what can be wrong with the line behind those of these points
abbrev pub FaultOf : Points → List ℕ → TextKind → Type 0
FaultOf before rest kind = LineFault before.version before.mode (length before.list) (total_weight before.list) rest kind

-- a line that another reading goes on with is not at fault
pub no_fault_inside : (rest other : List ℕ) (before : List Point) (after : Points) (on : GoesOn after.version rest other before after.list) (p : Point) (tail : List Point) → on.tail ≡ p ∷ tail → WithinLimits after
    → (kind : TextKind) → FaultOf (record after { list = before }) rest kind → ⊥
no_fault_inside rest other before after on p tail shape limits kind fault =
    let points = on.points ∙ ap (λ ps. before ++ ps) shape in
    let within = subst (λ ps. WithinLimits (record after { list = ps })) points limits in
    let lines = subst (AreLines after.version on.lines) shape on.spelled in
    let begins = subst (λ text. BeginsWith after.version text p (lines.0 ++ other)) (sym on.bytes) (longer after.version on.lines p lines.0 other lines.1) in
    no_line_fault after.version after.mode (length before) (total_weight before) rest p (lines.0 ++ other) begins (member_joins after.version after.mode before p tail within) kind fault

-- no line begins with nothing
nothing_begins : (version : ℕ) (p : Point) (rest : List ℕ) → BeginsWith version [] p rest → ⊥
nothing_begins version p rest begins = let n : 0 ≡ length (begins.line ++ 10 ∷ rest) = ap length begins.cut.whole in omega (arith, n, length-append begins.line (10 ∷ rest))

front_nil : (xs ys : List ℕ) → [] ≡ xs ++ ys → xs ≡ []
front_nil [] ys e = refl
front_nil (x ∷ xs) ys e = absurd (cc)

back_nil : (xs ys : List ℕ) → [] ≡ xs ++ ys → ys ≡ []
back_nil [] ys e = sym e
back_nil (x ∷ xs) ys e = absurd (cc)

-- where nothing is left, a reading that goes on goes on with nothing
ends : (version : ℕ) (other : List ℕ) (before after : List Point) → GoesOn version [] other before after → after ≡ before
ends version other before after on = go on.tail refl
  where
    go : (tail : List Point) → on.tail ≡ tail → after ≡ before
    go [] shape = on.points ∙ ap (λ ps. before ++ ps) shape ∙ append-nil before
    go (p ∷ tail) shape =
        let lines = subst (AreLines version on.lines) shape on.spelled in
        absurd (nothing_begins version p lines.0 (subst (λ text. BeginsWith version text p lines.0) (front_nil on.lines other on.bytes) lines.1))

pub one_list : (bytes : List ℕ) (before after : Points) → Spells bytes before → Spells bytes after → before ≡ after
one_list bytes before after spells reads =
    let two = fronts bytes bytes [] bytes [] before after (sym (append-nil bytes)) spells (sym (append-nil bytes)) reads in
    let lists : before.list ≡ after.list = elim two.either [ inl on ↦ sym (ends after.version [] before.list after.list on) | inr on ↦ ends before.version [] after.list before.list on ] in
    same_points before after two.heads lists

-- What `solve` answers, what goes out with each answer, and the certified solve.
use Rattle.std.specs.Prelude.{ℕ, ◌+◌, ◌*◌, ◌<◌, ◌≤◌, ◌≡◌, ◌⊎◌, List, [], ◌++◌, length, codes, decimal, sum_by, All}
use Rattle.std.specs.List.{AllZip}
use Rattle.accounting_text.specs.Given.{given_cell, number_at}
use Rattle.cell_lists.specs.Entries.{Accounts, IsTargetAndSource}
use Rattle.cert_text.specs.Certificate.{Certificate, SpellsCert, certificate_text, nth_line}
use Rattle.field_certificate.specs.FieldCertificate.{field_certificate}
use Rattle.cell_name.specs.Square.{Square}
use Rattle.letters.specs.declared.Letter.TheVariants.{V}
use Rattle.field_widths.specs.Bound.{IsSmallestSide, NoWider}
use Rattle.limits.specs.Limits.{grid_of, most_certificate, most_order}
use Rattle.near_field.specs.DirectSum.{direct_sum}
use Rattle.particle_text.specs.Faults.{FirstFault}
use Rattle.points.specs.Points.{place}
use Rattle.particle_text.specs.Text.{Spells}
use Rattle.points.specs.declared.Point.{Point}
use Rattle.points.specs.declared.Points.{Points}
use Rattle.particle_text.specs.declared.TextKind.{TextKind}
use Rattle.particle_text.specs.declared.TextKind.TheVariants.{Syntax, Range, Mixed, Many, Strength}
use Rattle.quadtree.specs.Faults.{HasTree, HasTooManyCells, IsFirstCrowded}
use Rattle.tree_field.specs.Field.{targets}
use Rattle.tree_field.specs.Lists.{TreeLists, AreTreeLists}
use Rattle.tree_field.specs.Work.{translations, pairs}
use Rattle.report_lines.specs.Counts.{CountsContain}
use Rattle.field_report.specs.FieldText.{field_text}
use Rattle.report_lines.specs.Report.{TargetLine, report_text}
use Rattle.fmm_program.specs.Endings.{Output}
use Rattle.fmm_program.specs.declared.status.Status.{Status}
use Rattle.fmm_program.specs.declared.status.Status.TheVariants.{Done, Refused}

-- the greatest number of bytes of an input
abbrev pub most_input : ℕ
most_input = 16777216

-- ---- the lines in place of a report
abbrev pub usage_line : List ℕ
usage_line = codes "usage: fmm solve ORDER CAP FILE [WORKERS] | check FILE | session ORDER CAP | sample SEED N ORDER CAP [WORKERS]\n"

abbrev pub kind_word : TextKind → List ℕ
kind_word Syntax = codes "syntax"
kind_word Range = codes "range"
kind_word Mixed = codes "mixed"
kind_word Many = codes "many"
kind_word Strength = codes "strength"

abbrev pub fault_line : ℕ → TextKind → List ℕ
fault_line line kind = codes "refused line " ++ decimal line ++ codes " " ++ kind_word kind ++ codes "\n"

-- level, column and row of the place, and how many points stand there
abbrev pub crowded_line : Square → ℕ → List ℕ
crowded_line c n = codes "refused depth crowded cell " ++ decimal c.level ++ codes " " ++ decimal c.i ++ codes " " ++ decimal c.j ++ codes " points " ++ decimal n ++ codes "\n"

-- ---- what each answer means for the bytes that came, and which bytes go out with it

-- the input is within its limit and spells the points
abbrev pub IsRead : List ℕ → Points → Type 0
IsRead input points = (length input ≤ most_input) × Spells input points

-- Why points have no tree, and the line that says so: too many stand at one place, and the line names the first such place by column and row, and how many they are;
-- or at none, and the tree has too many cells.
abbrev pub RefusesDepth : Points → ℕ → List ℕ → Type 0
RefusesDepth points cap line =
    ((cell : Square) × (n : ℕ) × IsFirstCrowded (grid_of points.version) points.list cell n × (line ≡ crowded_line cell n))
    ⊎ (HasTooManyCells (grid_of points.version) points.list cap × (line ≡ codes "refused depth cells\n"))

-- why the points of an input can't be read, and the line that says so: it is too long; or it is no text, and the line names its first fault
abbrev pub RefusesText : List ℕ → List ℕ → Type 0
RefusesText input line =
    ((most_input < length input) × (line ≡ codes "refused long\n"))
    ⊎ ((length input ≤ most_input) × ((number : ℕ) × (kind : TextKind) × FirstFault input number kind × (line ≡ fault_line number kind)))

-- Why an input is refused, and the line that says so: its points can't be read; or they are of a version that has no such order; or they are of one that has it,
-- but have no tree.
abbrev pub Refuses : ℕ → ℕ → List ℕ → List ℕ → Type 0
Refuses order cap input line =
    RefusesText input line
    ⊎ (((points : Points) × IsRead input points × (most_order (grid_of points.version) < order) × (line ≡ codes "refused order\n"))
    ⊎ ((points : Points) × IsRead input points × (order ≤ most_order (grid_of points.version)) × RefusesDepth points cap line))

-- the input is a text of a version that has the order, with no crowded place, whose tree has no more cells than a tree may have
pub record HasField (order cap : ℕ) (input : List ℕ) : Type 0 where
  pub points : Points
  pub read : IsRead input points
  pub has_order : order ≤ most_order (grid_of points.version)
  pub has_tree : HasTree (grid_of points.version) points.list cap

-- it is such a text, and what goes out are the certificate and the report of the field over the lists of its tree
pub record IsReported (order cap : ℕ) (input : List ℕ) (output : Output) : Type 0 where
  pub depth : HasField order cap input
  pub lists : TreeLists
  pub lists_are : AreTreeLists (grid_of depth.points.version) depth.points.list cap lists
  pub certificate : output.cert ≡ certificate_text (field_certificate depth.points cap order lists)
  pub report : output.out ≡ field_text depth.points order cap lists

-- the answer to this input, and what goes out with it
abbrev pub SolveAnswers : ℕ → ℕ → List ℕ → Status → Output → Type 0
SolveAnswers order cap input Done output = IsReported order cap input output
SolveAnswers order cap input Refused output = Refuses order cap input output.out × (output.cert ≡ [])
SolveAnswers order cap input _ output = ⊥

-- the answer to points that have no tree. No public contract cites it.
abbrev pub DepthAnswers : Points → ℕ → Status → Output → Type 0
DepthAnswers points cap Refused output = RefusesDepth points cap output.out × (output.cert ≡ [])
DepthAnswers points cap _ output = ⊥

-- ---- the certified solve, in its own words

-- a printed line for the target t: at its place, with counts that contain the exact direct sum
abbrev pub LineContains : Points → Point → TargetLine → Type 0
LineContains points t line = (line.x ≡ t.x) × (line.y ≡ t.y) × CountsContain points.mode line.counts (direct_sum (place t) points.list)

-- neither pair of printed counts is farther apart than the bound at this order, with the smallest side s
abbrev pub LineIsNarrow : ℕ → ℕ → List Point → TargetLine → Type 0
LineIsNarrow order s points line = NoWider order s points line.counts.first × NoWider order s points line.counts.second

-- The k-th entry line of a certificate accounts for a target and a source: the cells of the lines of its two nodes do.
abbrev pub LineAccounts : Certificate → ℕ → Point → Point → Type 0
LineAccounts c k target source = Accounts (cell_of 0) (cell_of 1) target source
  where
    cell_of : ℕ → Square
    cell_of end = given_cell c.head.version (nth_line c.nodes (number_at (nth_line c.entries k) end))

-- exactly one entry line does
pub record HasOneEntryLine (c : Certificate) (target source : Point) : Type 0 where
  pub number : ℕ
  pub written : number < length c.entries
  pub accounts : LineAccounts c number target source
  pub no_other : (k : ℕ) → k < length c.entries → LineAccounts c k target source → k ≡ number

-- The input is within its limit and spells points of a version that has the order. What went out are a certificate, which its text spells where it is short enough to be read and of whose
-- entry lines exactly one accounts for each target and source,
-- and a report with one line for each target, in order, whose counts contain the exact direct sum and are no farther apart than the bound; its counts of work are those of
-- the lists of the tree.
pub record IsCertified (order cap : ℕ) (input : List ℕ) (output : Output) : Type 0 where
  pub points : Points
  pub read : IsRead input points
  pub has_order : order ≤ most_order (grid_of points.version)
  pub lists : TreeLists
  pub lists_are : AreTreeLists (grid_of points.version) points.list cap lists
  pub certificate : Certificate
  pub cert_text : output.cert ≡ certificate_text certificate
  pub spelled : length output.cert ≤ most_certificate (grid_of points.version) → SpellsCert output.cert certificate
  pub one_entry : (target source : Point) → IsTargetAndSource points.list target source → HasOneEntryLine certificate target source
  pub lines : List TargetLine
  pub report : output.out ≡ report_text points.mode order cap lines (translations points.list lists) (pairs points.list lists)
  pub contain : AllZip (LineContains points) (targets points.list) lines
  pub narrow : (s : ℕ) → IsSmallestSide lists.cells s → All (LineIsNarrow order s points.list) lines
  pub few : translations points.list lists ≤ sum_by (λ b. length (lists.entries V b)) lists.cells + 2 * length lists.cells

-- The summary of a sample: its numbers, from the field of its points, in seven lines.
use Rattle.std.specs.Prelude.{ℕ, ◌==◌, ◌-ℤ◌, not, ◌||◌, max, unsigned_abs, List, ◌++◌, length, map, sum_by, codes, decimal}
use Rattle.std.specs.List.{count_by, fold}
use Rattle.exact_math.specs.Ends.{Ends}
use Rattle.letters.specs.declared.Letter.{Letter}
use Rattle.letters.specs.declared.Letter.TheVariants.{U, V, W, X}
use Rattle.report_lines.specs.Counts.{count_ends}
use Rattle.report_lines.specs.Report.{work_line}
use Rattle.points.specs.Points.{is_source}
use Rattle.points.specs.declared.Point.{Point}
use Rattle.quadtree.specs.Tree.{is_over}
use Rattle.tree_field.specs.Field.{targets, target_boxes}
use Rattle.tree_field.specs.Lists.{TreeLists}
use Rattle.tree_field.specs.Work.{translations, pairs}

-- how many entries of a letter there are
abbrev pub entry_count : TreeLists → Letter → ℕ
entry_count lists letter = sum_by (λ b. length (lists.entries letter b)) lists.cells

-- how far the printed counts of both ends of a part are apart
abbrev pub width : Ends → ℕ
width i = unsigned_abs ((count_ends i).hi -ℤ (count_ends i).lo)

-- The summary of the sample of a seed, from its points and their field with a leaf capacity at an order, over the lists of their tree: the lines
-- `sample SEED N order P cap CAP`, `points N sources S targets T`, `tree cells C leaves L`, `lists u NU v NV w NW x NX`,
-- `work translations A pairs B`, `widest re A im B` and `end`.
-- A leaf is a cell with no more points than a leaf may have, or of the last level; the widest part of no target has the width 0.
abbrev pub summary_text : ℕ → List Point → ℕ → ℕ → TreeLists → List ℕ
summary_text seed points P cap lists =
    codes "sample " ++ decimal seed ++ codes " " ++ decimal (length points) ++ codes " order " ++ decimal P ++ codes " cap " ++ decimal cap
    ++ codes "\npoints " ++ decimal (length points) ++ codes " sources " ++ decimal (count_by (λ p. is_source p.kind) points)
    ++ codes " targets " ++ decimal (length (targets points))
    ++ codes "\ntree cells " ++ decimal (length lists.cells)
    ++ codes " leaves " ++ decimal (count_by (λ c. not (is_over points cap c) || (c.level == c.grid)) lists.cells)
    ++ codes "\nlists u " ++ decimal (entry_count lists U) ++ codes " v " ++ decimal (entry_count lists V)
    ++ codes " w " ++ decimal (entry_count lists W) ++ codes " x " ++ decimal (entry_count lists X)
    ++ codes "\n" ++ work_line (translations points lists) (pairs points lists)
    ++ codes "widest re " ++ decimal (fold max 0 (map (λ b. width b.re) (target_boxes points cap P lists)))
    ++ codes " im " ++ decimal (fold max 0 (map (λ b. width b.im) (target_boxes points cap P lists))) ++ codes "\nend\n"

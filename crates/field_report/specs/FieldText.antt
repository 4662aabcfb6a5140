-- The report of the field of a list of points.
use Rattle.std.specs.Prelude.{ℕ, List, map, flat_map}
use Rattle.points.specs.Points.{place}
use Rattle.points.specs.declared.Mode.{Mode}
use Rattle.points.specs.declared.Point.{Point}
use Rattle.points.specs.declared.Points.{Points}
use Rattle.tree_field.specs.Field.{targets, target_box}
use Rattle.tree_field.specs.Lists.{TreeLists}
use Rattle.tree_field.specs.Work.{translations, pairs}
use Rattle.report_lines.specs.Counts.{target_counts}
use Rattle.report_lines.specs.Report.{TargetLine, report_text, target_line}

-- the line of a target: its place, and the counts of its box
abbrev pub field_line : Mode → List Point → ℕ → ℕ → TreeLists → Point → TargetLine
field_line mode points cap P lists t = record { x = t.x; y = t.y; counts = target_counts mode (target_box points cap P lists (place t)) }

-- the lines of the targets among some of the points. No public contract cites it.
abbrev pub target_text : Mode → List Point → ℕ → ℕ → TreeLists → List Point → List ℕ
target_text mode points cap P lists some = flat_map (target_line mode) (map (field_line mode points cap P lists) (targets some))

-- the report of the field at an order with a leaf capacity, over the lists of the tree
abbrev pub field_text : Points → ℕ → ℕ → TreeLists → List ℕ
field_text points order cap lists =
    let lines = map (field_line points.mode points.list cap order lists) (targets points.list) in
    report_text points.mode order cap lines (translations points.list lists) (pairs points.list lists)

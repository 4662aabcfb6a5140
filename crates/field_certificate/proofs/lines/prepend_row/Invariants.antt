use Rattle.std.proofs.Common.{◌≡◌, ◌+◌, ◌-◌, ◌*◌, ◌≤◌, length}
use Rattle.std.specs.List.{flat_map, range_with_len}
use Rattle.accounting_text.specs.Written.{box_numbers}
use Rattle.field_certificate.specs.Private.{numbers_before}
use Rattle.field_certificate.proofs.lines.prepend_row.Given as goal
use Rattle.row_recursions.specs.Rows.{row_of}

abbrev pub invariant-loop-k : goal.invariant-loop-k
invariant-loop-k g l = record {
  text : l.line ≡ numbers_before (flat_map (λ j. box_numbers (row_of l.row.cells.now j)) (range_with_len l.k (g.row.P - l.k))) l.initial.line;
  size : length l.line + 164 * l.k ≤ 164 * g.row.P + length l.initial.line;
  most : l.k ≤ g.row.P;
}

abbrev pub decreases-loop-k : goal.decreases-loop-k
decreases-loop-k g l = l.k

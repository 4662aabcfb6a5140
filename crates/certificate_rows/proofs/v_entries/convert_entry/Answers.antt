use Rattle.std.proofs.Common.{◌≡◌, ◌+◌, ◌*◌, ◌^◌, true, cond, List, ap, sym, ◌∙◌, subst, arith}
use Rattle.exact_math.specs.Ends.{zero_box}
use Rattle.cell_name.specs.Apart.{sides_between}
use Rattle.cell_name.specs.Cell.{square}
use Rattle.complex_box.specs.Box.{number}
use Rattle.complex_box.specs.declared.CBox.{CBox}
use Rattle.kernel_table.specs.Kernel.{kernel_entry}
use Rattle.letters.specs.declared.Letter.TheVariants.{V}
use Rattle.row_recursions.specs.Rows.{row_of, converted}
use Rattle.row_recursions.specs.Sizes.{RowWithin}
use Rattle.soundness.specs.Accounts.{is_letter}
use Rattle.soundness.proofs.RowTotals.{wider}
use Rattle.certificate_rows.specs.Given.{cell_at, multipole_at}
use Rattle.certificate_rows.proofs.SameRows.{from_zeros, converted_same, zeros_within}
use Rattle.certificate_rows.proofs.v_entries.convert_entry.Goals as goal

pub returns-then-is_v-clause-row : goal.returns-then-is_v-clause-row
returns-then-is_v-clause-row g c = λ k h.
    let P = g.row.P in
    let m = multipole_at c.args.cert.now c.args.entry.c in
    let kernel = kernel_entry (number c.sides_between.result) in
    let yes : is_letter V c.args.entry.letter ≡ true = sym c.is_v.ensures ∙ c.if-is_v.true in
    let apart : sides_between (square c.args.b) (cell_at c.args.cert.now c.args.entry.c) ≡ number c.sides_between.result = sym (c.sides_between.ensures ∙ ap (sides_between (square c.args.b)) c.node_at.ensures.cell) in
    ap (λ b. cond b (converted P (kernel_entry (sides_between (square c.args.b) (cell_at c.args.cert.now c.args.entry.c))) m k) zero_box) yes
    ∙ ap (λ z. converted P (kernel_entry z) m k) apart
    ∙ converted_same P kernel m (row_of c.multipole_row-row.result.now) c.multipole_row-row.ensures.row k
    ∙ ap (λ l. converted P kernel (row_of l) k) (sym c.new.ensures)
    ∙ from_zeros P c.clear.new.cells (converted P kernel (row_of c.new.result.cells.now)) (row_of c.convert.new.into) (c.clear.auto.cells ∙ c.requires.len) c.clear.ensures c.convert.ensures.adds k h

pub returns-then-is_v-clause-size : goal.returns-then-is_v-clause-size
returns-then-is_v-clause-size g c =
    let P = g.row.P in
    let Q : List CBox → Type 0 = λ l. RowWithin P (2 * 2 ^ 79) (row_of l) in
    wider P (0 + 3 * 2 ^ 79) (2 ^ 81) (row_of c.convert.new.into) (omega arith)
    (c.convert.ensures.size (2 ^ 79) 0 (subst Q (sym c.new.ensures) c.multipole_row-row.ensures.size) (zeros_within P 0 c.clear.new.cells (c.clear.auto.cells ∙ c.requires.len) c.clear.ensures))

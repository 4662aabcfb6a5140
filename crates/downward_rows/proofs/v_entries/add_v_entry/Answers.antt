use Rattle.std.proofs.Common.{◌≡◌, ◌^◌, ap, ◌∙◌, subst, sym, lit<}
use Rattle.exact_math.specs.Ends.{add_box}
use Rattle.complex_box.specs.Box.{number}
use Rattle.kernel_table.specs.Kernel.{IsKernelDistance}
use Rattle.field_basis.specs.Place.{place_at}
use Rattle.quadtree.specs.TreeModel.{square_of}
use Rattle.row_recursions.specs.Rows.{row_of}
use Rattle.field_basis.specs.Basis.{IsBasis}
use Rattle.downward_rows.proofs.VEntries.{place_read, distance_read, entry_small, entry_read}
use Rattle.cell_name.specs.Apart.{sides_between}
use Rattle.downward_rows.proofs.v_entries.add_v_entry.Goals as goal

pub convert-requires : goal.convert-requires
convert-requires g c =
    let b = c.args.basis.now in
    let s : IsBasis g.row.P b = subst (IsBasis g.row.P) c.basis.view_is c.basis.invariant in
    let e : number c.sides_between-e.result ≡ sides_between (square_of b.tree c.args.b) (square_of b.tree c.args.c) =
    distance_read b.tree c.cells-cells.result.now c.args.b c.args.c c.index-cells-b.result c.index-cells-c.result (number c.sides_between-e.result) (c.cells-cells.ensures.all ∙ ap (λ b. b.tree.cells) c.basis.view_is)
    c.requires.cell c.requires.entry.in_range c.index-cells-b.is c.index-cells-c.is c.sides_between-e.ensures in
    let read = c.row.ensures ∙ ap (λ p. p.row) (place_read c.args.up.now c.args.c c.index-up-c.result c.requires.row.0 c.index-up-c.is) in
    (lit< tt, (lit< tt, (s.order, (c.requires.len, (subst IsKernelDistance (sym e) c.requires.entry.distance, (entry_small g.row.P b s c.args.c (place_at c.args.up.now c.args.c) c.requires.row.1 c.row.result.cells.now read c.requires.entry.in_range, (c.requires.sum, c.requires.room)))))))

pub returns-clause-adds : goal.returns-clause-adds
returns-clause-adds g c = λ k h.
    let b = c.args.basis.now in
    let s : IsBasis g.row.P b = subst (IsBasis g.row.P) c.basis.view_is c.basis.invariant in
    let e : number c.sides_between-e.result ≡ sides_between (square_of b.tree c.args.b) (square_of b.tree c.args.c) =
    distance_read b.tree c.cells-cells.result.now c.args.b c.args.c c.index-cells-b.result c.index-cells-c.result (number c.sides_between-e.result) (c.cells-cells.ensures.all ∙ ap (λ b. b.tree.cells) c.basis.view_is)
    c.requires.cell c.requires.entry.in_range c.index-cells-b.is c.index-cells-c.is c.sides_between-e.ensures in
    let read = c.row.ensures ∙ ap (λ p. p.row) (place_read c.args.up.now c.args.c c.index-up-c.result c.requires.row.0 c.index-up-c.is) in
    c.convert.ensures.adds k h ∙ ap (add_box (row_of c.args.into.now k)) (entry_read g.row.P b s c.args.c (place_at c.args.up.now c.args.c) c.requires.row.1 c.row.result.cells.now read c.args.b (number c.sides_between-e.result) e k)

pub returns-clause-size : goal.returns-clause-size
returns-clause-size g c = λ n h.
    let b = c.args.basis.now in
    let s : IsBasis g.row.P b = subst (IsBasis g.row.P) c.basis.view_is c.basis.invariant in
    let read = c.row.ensures ∙ ap (λ p. p.row) (place_read c.args.up.now c.args.c c.index-up-c.result c.requires.row.0 c.index-up-c.is) in
    c.convert.ensures.size (2 ^ 79) n (entry_small g.row.P b s c.args.c (place_at c.args.up.now c.args.c) c.requires.row.1 c.row.result.cells.now read c.requires.entry.in_range) h

-- The ends stand behind the radius.
use Rattle.std.proofs.Common.{ℤ, List, drop, length, ap, sym, ◌∙◌, arith}
use Rattle.cert_text.specs.Rows.{row_at}
use Rattle.cert_text.proofs.StoredRows.{local_ends_at, local_length}
use Rattle.cert_text.proofs.local_rows.LocalRows.row.Goals as goal

pub row-requires : goal.row-requires
row-requires c =
    let count = local_length c.self.inside.radii.items c.self.inside.rows c.self.invariant in
    omega (arith, c.requires, ap (λ (l : List (List ℤ)). length l) c.self.view_is, count, c.self.invariant)

pub returns : goal.returns
returns c =
    c.row.ensures ∙ sym (local_ends_at c.self.inside.radii.items c.self.inside.rows c.args.n c.self.invariant) ∙ ap (λ (l : List (List ℤ)). drop 1 (row_at l c.args.n)) c.self.view_is

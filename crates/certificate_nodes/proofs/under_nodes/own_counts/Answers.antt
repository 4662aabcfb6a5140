-- One row more.
use Rattle.std.proofs.Common.{ℕ, [], ◌∷◌, ◌++◌, length, sym, ap, ap₂, ◌∙◌, arith}
use Rattle.std.proofs.lemmas.List.FromFn.{map-range_with_len_more}
use Rattle.certificate_nodes.specs.PointRows.{row_at}
use Rattle.certificate_nodes.proofs.under_nodes.own_counts.Goals as goal

pub loop-n-preserved : goal.loop-n-preserved
loop-n-preserved c =
    let own : ℕ → ℕ = λ n. length (row_at c.args.rows.now n) in
    c.in_ok-push.ensures.items ∙ ap₂ (λ xs x. xs ++ x ∷ []) c.loop-n.invariant (ap length c.row.ensures) ∙ sym (map-range_with_len_more own 0 c.loop-n.n c.loop-n.n (omega arith))

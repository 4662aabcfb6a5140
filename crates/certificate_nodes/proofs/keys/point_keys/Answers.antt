use Rattle.std.proofs.Common.{◌≡◌, [], ◌∷◌, ◌++◌, sym, ap, ap₂, ◌∙◌, unsigned_abs, arith}
use Rattle.std.proofs.lemmas.List.FromFn.{map-range_with_len_more}
use Rattle.accounting_text.specs.Given.{number_at}
use Rattle.cert_text.specs.Certificate.{nth_line, nth_number}
use Rattle.certificate_nodes.specs.AtNodes.{point_at}
use Rattle.certificate_nodes.specs.Keys.{key_at, point_key}
use Rattle.certificate_nodes.proofs.keys.point_keys.Goals as goal

pub loop-k-preserved : goal.loop-k-preserved
loop-k-preserved c =
    let p = point_at c.args.points.now c.loop-k.k in
    let node : number_at (nth_line c.args.cert.now.ats c.loop-k.k) 0 ≡ c.at-node.result = ap (λ zs. unsigned_abs (nth_number zs 0)) c.at-node.ensures.number in
    let key : c.point_key.result ≡ key_at c.args.cert.now c.args.sources c.args.points.now c.loop-k.k =
    c.point_key.ensures ∙ ap₂ (λ n o. point_key c.args.sources p n o) (sym node) c.cell_count-other.ensures.count in
    c.in_ok-push.ensures.items ∙ ap₂ (λ xs x. xs ++ x ∷ []) c.loop-k.invariant key
    ∙ sym (map-range_with_len_more (key_at c.args.cert.now c.args.sources c.args.points.now) 0 c.loop-k.k c.loop-k.k (omega arith))

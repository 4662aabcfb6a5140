use Rattle.std.proofs.Common.{ℕ, ◌<◌, ◌∙◌, ap, arith, get_or, length, subst}
use Rattle.std.specs.Prelude.{IsTrue, ◌↔◌}
use Rattle.accounting_text.specs.Given.{given_cell}
use Rattle.cell_name.specs.Cell.{square}
use Rattle.cell_name.specs.Square.{Holds}
use Rattle.cert_text.specs.Certificate.{nth_line}
use Rattle.certificate_lines.proofs.Lines.{no_point, place_read, held_same}
use Rattle.certificate_lines.proofs.point.is_held.Goals as goal

pub returns : goal.returns
returns c =
    let lt : c.args.k < length c.args.points.now.list = omega (arith, c.requires.point, c.requires.head.point_count) in
    held_same c.stands_in.result _ _ (get_or c.args.points.now.list c.args.k no_point) _
    (c.cell_of.ensures ∙ ap (λ (n : ℕ). given_cell c.args.cert.now.head.version (nth_line c.args.cert.now.nodes n)) c.node_of.ensures.node)
    (place_read c.args.points.now.list c.args.k lt)
    (subst (λ ps. let p = get_or ps c.args.k no_point in IsTrue c.stands_in.result ↔ Holds (square c.cell_of.result) p.x p.y) c.points-list.ensures c.stands_in.ensures)

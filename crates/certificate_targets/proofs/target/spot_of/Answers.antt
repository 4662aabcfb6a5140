-- Where a target is, by its point's line.
use Rattle.std.proofs.Common.{ℕ, ◌≡◌, ◌∙◌, ◌<◌, ap, sym, subst, get_or, List, to_z-of_z}
use Rattle.cert_text.specs.Certificate.{Certificate, nth_line}
use Rattle.certificate_nodes.specs.AtNodes.{no_point, point_at}
use Rattle.limits.proofs.Grids.{in_widest, version_has_grid}
use Rattle.limits.specs.Limits.{grid_of}
use Rattle.points.specs.declared.Point.{Point}
use Rattle.points.specs.declared.Points.{Points}
use Rattle.row_recursions.proofs.Points.{grid_fits}
use Rattle.certificate_targets.proofs.Targets.{spot_is}
use Rattle.certificate_targets.proofs.target.spot_of.Goals as goal

pub returns : goal.returns
returns c =
    let g = c.args.given.now in
    let n : ℕ = c.position-position.result in
    let at = c.position-position.ensures in
    let t : Point = get_or c.points-2.result.now n no_point in
    let read : t ≡ point_at g.points.list n = ap (λ (l : List Point). point_at l n) (c.points-2.ensures ∙ ap (λ (p : Points). p.list) c.points.ensures.points) in
    let numbers = sym (ap (λ (q : Certificate). (nth_line q.ats n).numbers) c.cert.ensures.certificate) ∙ c.at.ensures.number in
    let below = subst (λ (q : Certificate). c.at.result < q.head.cells) c.cert.ensures.certificate c.at.ensures.node in
    let is = spot_is g c.requires.presented c.requires.points c.args.k n c.at.result t at numbers below read in
    let f = grid_fits t.x t.y (in_widest (grid_of g.certificate.head.version) t.x t.y (version_has_grid g.certificate.head.version) is.in_grid) in
    let x = f.0 in
    let y = f.1 in
    simp to_z-of_z is

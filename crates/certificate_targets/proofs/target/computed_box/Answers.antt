-- The box from its parts.
use Rattle.std.proofs.Common.{◌≡◌, ◌∙◌, ◌+◌, ◌^◌, ◌≤◌, ℕ, ℤ, pos, ◌≤ℤ◌, drop, ap, ap₂, sym, subst, arith, to_z, of_z, to_z-of_z}
use Rattle.std.specs.Int.{w128}
use Rattle.std.proofs.lemmas.Int.{ints}
use Rattle.accounting_text.specs.Given.{given_cell}
use Rattle.cell_name.specs.Square.{Square, side}
use Rattle.cert_text.specs.Certificate.{Certificate, IsCertificate, nth_box, nth_line}
use Rattle.certificate_nodes.specs.Presented.{accounting_of}
use Rattle.row_recursions.specs.Rows.{local_value}
use Rattle.soundness.specs.Accounts.{Accounting}
use Rattle.soundness.specs.Computed.{local_at, multipoles_at, pairs_at, target_radius}
use Rattle.soundness.specs.Squares.{offset}
use Rattle.complex_box.proofs.Sizes.{add_box_within, box_wider, widen_box_within}
use Rattle.complex_box.specs.Box.{box_ends}
use Rattle.exact_math.specs.Ends.{BoxEndsWithin, add_box, widen_box}
use Rattle.exact_math.specs.Gaussian.{gaussian}
use Rattle.exact_math.specs.Within.{Within}
use Rattle.limits.proofs.Grids.{in_widest, version_has_grid}
use Rattle.limits.specs.Limits.{grid_of}
use Rattle.row_recursions.proofs.Points.{grid_fits}
use Rattle.certificate_targets.proofs.Targets.{far_from_all, pairs_same, values_same}
use Rattle.certificate_targets.proofs.target.computed_box.Goals as goal

pub row_value-value-requires-clause-certificate : goal.row_value-value-requires-clause-certificate
row_value-value-requires-clause-certificate g c = subst IsCertificate (sym c.cert.ensures.certificate) c.requires.presented.certificate

pub far_value-far-requires-clause-far : goal.far_value-far-requires-clause-far
far_value-far-requires-clause-far g c =
    let spot = c.spot_of-spot.result in
    let is = c.spot_of-spot.ensures in
    let version = c.args.given.now.certificate.head.version in
    let f = grid_fits spot.x spot.y (in_widest (grid_of version) spot.x spot.y (version_has_grid version) is.in_grid) in
    let x = f.0 in
    let y = f.1 in
    simp to_z-of_z (far_from_all c.args.given.now spot.leaf c.requires.presented c.args.k (gaussian spot.x spot.y) c.requires.target c.requires.entries is.leaf is.place)

pub near_value-near-requires-clause-in_grid : goal.near_value-near-requires-clause-in_grid
near_value-near-requires-clause-in_grid g c =
    let spot = c.spot_of-spot.result in
    let is = c.spot_of-spot.ensures in
    let version = c.args.given.now.certificate.head.version in
    let wide = in_widest (grid_of version) spot.x spot.y (version_has_grid version) is.in_grid in
    let f = grid_fits spot.x spot.y wide in
    let x = f.0 in
    let y = f.1 in
    simp to_z-of_z wide

pub add-requires : goal.add-requires
add-requires g c = box_wider _ _ _ (omega arith) (add_box_within (2 ^ 114) (2 ^ 113) (box_ends c.far_value-far.result) (box_ends c.near_value-near.result) c.far_value-far.ensures.size c.near_value-near.ensures.size)

pub add-requires-2 : goal.add-requires-2
add-requires-2 g c =
    let inner = subst (BoxEndsWithin (2 ^ 114 + 2 ^ 113)) (sym c.add.ensures.ends) (add_box_within (2 ^ 114) (2 ^ 113) (box_ends c.far_value-far.result) (box_ends c.near_value-near.result) c.far_value-far.ensures.size c.near_value-near.ensures.size) in
    box_wider _ _ _ (omega arith) (add_box_within (2 ^ 95) (2 ^ 114 + 2 ^ 113) (box_ends c.row_value-value.result) (box_ends c.add.result) c.row_value-value.ensures.size inner)

radius_fits : (r : ℤ) (n : ℕ) → r ≡ pos n → r ≤ℤ pos (2 ^ 114) → to_z w128 (of_z w128 r) ≡ pos n
radius_fits r n e le = omega (arith, ints, e, le)

pub widen-requires-clause-fits : goal.widen-requires-clause-fits
widen-requires-clause-fits g c =
    let n : ℕ = target_radius g.row.P (accounting_of c.args.given.now) c.spot_of-spot.result.leaf in
    let lost = radius_fits c.radius_of.result n c.radius_of.ensures.value c.radius_of.ensures.size in
    let small : n ≤ 2 ^ 114 = omega (arith, ints, c.radius_of.ensures.value, c.radius_of.ensures.size) in
    let little : Within (2 ^ 114) (pos n) = record { above = omega (arith, ints); below = omega (arith, ints, small) } in
    let inner = subst (BoxEndsWithin (2 ^ 114 + 2 ^ 113)) (sym c.add.ensures.ends) (add_box_within (2 ^ 114) (2 ^ 113) (box_ends c.far_value-far.result) (box_ends c.near_value-near.result) c.far_value-far.ensures.size c.near_value-near.ensures.size) in
    let whole = subst (BoxEndsWithin (2 ^ 95 + (2 ^ 114 + 2 ^ 113))) (sym c.add-2.ensures.ends) (add_box_within (2 ^ 95) (2 ^ 114 + 2 ^ 113) (box_ends c.row_value-value.result) (box_ends c.add.result) c.row_value-value.ensures.size inner) in
    subst (λ r. BoxEndsWithin (2 ^ 126) (widen_box (box_ends c.add-2.result) r)) (sym lost)
    (box_wider _ _ _ (omega arith) (widen_box_within (2 ^ 95 + (2 ^ 114 + 2 ^ 113)) (2 ^ 114) (box_ends c.add-2.result) _ whole little))

pub returns : goal.returns
returns g c =
    let spot = c.spot_of-spot.result in
    let is = c.spot_of-spot.ensures in
    let version = c.args.given.now.certificate.head.version in
    let f = grid_fits spot.x spot.y (in_widest (grid_of version) spot.x spot.y (version_has_grid version) is.in_grid) in
    let x = f.0 in
    let y = f.1 in
    let P : ℕ = g.row.P in
    let A : Accounting = accounting_of c.args.given.now in
    let n : ℕ = spot.leaf in
    let t = gaussian spot.x spot.y in
    let e = simp to_z-of_z at c.row_value-value.ensures.ends in
    let value : box_ends c.row_value-value.result ≡ local_at P A n t = e ∙ ap (λ (q : Certificate). let s : Square = given_cell q.head.version (nth_line q.nodes n) in local_value P (nth_box (drop 1 (nth_line q.locals n).numbers)) (side s) (offset s t)) c.cert.ensures.certificate in
    let d = simp to_z-of_z at c.far_value-far.ensures.ends in
    let far : box_ends c.far_value-far.result ≡ multipoles_at P A n t = d ∙ values_same c.args.given.now n P t in
    let b = simp to_z-of_z at c.near_value-near.ensures.ends in
    let near : box_ends c.near_value-near.result ≡ pairs_at P A n t = b ∙ pairs_same c.args.given.now n P t in
    let lost = radius_fits c.radius_of.result (target_radius P A n) c.radius_of.ensures.value c.radius_of.ensures.size in
    c.widen.ensures.ends
    ∙ ap₂ widen_box (c.add-2.ensures.ends ∙ ap₂ add_box value (c.add.ensures.ends ∙ ap₂ add_box far near)) lost
    ∙ ap₂ (λ n z. widen_box (add_box (local_at P A n z) (add_box (multipoles_at P A n z) (pairs_at P A n z))) (pos (target_radius P A n))) (sym is.leaf) (sym is.place)

-- The sum of the radius and of the losses fits.
use Rattle.std.proofs.Common.{ℕ, ◌≡◌, ◌∙◌, ◌+◌, ◌^◌, ◌≤◌, ℤ, pos, ◌+ℤ◌, to_z, of_z, ap, ap₂, arith}
use Rattle.std.specs.Int.{w128}
use Rattle.std.proofs.lemmas.Int.{ints}
use Rattle.accounting_text.specs.Given.{number_at}
use Rattle.cert_text.specs.Certificate.{Certificate, nth_line}
use Rattle.certificate_targets.proofs.Targets.{losses_same}
use Rattle.certificate_targets.proofs.target.radius_of.Goals as goal

lost_is : (radius : ℤ) (m n : ℕ) → radius ≡ pos m → m ≤ 2 ^ 90 → n ≤ 2 ^ 113 → to_z w128 (of_z w128 (to_z w128 (of_z w128 radius) +ℤ to_z w128 n)) ≡ pos (m + n)
lost_is radius m n e small few =
    let a : to_z w128 (of_z w128 radius) ≡ pos m = omega (arith, ints, e, small) in
    let b : to_z w128 n ≡ pos n = omega (arith, ints, few) in
    omega (arith, ints, a, b, small, few)

pub returns-clause-value : goal.returns-clause-value
returns-clause-value g c =
    let m : ℕ = number_at (nth_line c.cert.result.now.locals c.args.n) 0 in
    let small : m ≤ 2 ^ 90 = omega (arith, ints, c.radius_at.ensures.value, c.radius_at.ensures.size) in
    lost_is c.radius_at.result m c.far_loss.result c.radius_at.ensures.value small c.far_loss.ensures.size
    ∙ ap₂ (λ m n. pos (m + n)) (ap (λ (q : Certificate). number_at (nth_line q.locals c.args.n) 0) c.cert.ensures.certificate) (c.far_loss.ensures.loss ∙ losses_same c.args.given.now c.args.n g.row.P)

-- One point more: a source stands in the node of its line.
use Rattle.std.proofs.Common.{ℕ, ◌≡◌, ◌<◌, List, [], ◌∷◌, ◌++◌, length, get_or, drop, map, sym, ap, ◌∙◌, arith, append_assoc, unsigned_abs}
use Rattle.std.specs.Prelude.{pos, ◌+◌}
use Rattle.accounting_text.specs.Given.{given_sources, number_at}
use Rattle.cert_text.specs.Certificate.{nth_line, nth_number}
use Rattle.points.specs.Points.{is_source}
use Rattle.points.specs.declared.Kind.TheVariants.{Charge}
use Rattle.points.specs.declared.Point.{Point}
use Rattle.certificate_tiling.proofs.Given.{source-here, no_source-here}
use Rattle.certificate_tiling.proofs.lists.leaves.Goals as goal
use Rattle.certificate_tiling.proofs.lists.leaves.Goals.{then-is_source+in_ok-push, else-is_source}

-- what stands past the last point
abbrev no_point : Point
no_point = record { x = pos 0; y = pos 0; kind = Charge (pos 0) }

inside_points : (c : goal.Joined-is_source) → c.loop-k.k < length c.args.given.now.points.list
inside_points c = omega (arith, c.loop-k-test.true, ap length c.points-points.ensures, ap (λ ps. length ps.list) c.points.ensures.points)

inside_lines : (c : goal.Joined-is_source) → c.loop-k.k < length c.args.given.now.certificate.ats
inside_lines c = omega (arith, inside_points c, c.cert-cert.ensures.head.point_count, c.node_count-count.ensures.certificate.ats_are)

kind_is : (c : goal.Joined-is_source) → c.is_source.result ≡ is_source (get_or c.args.given.now.points.list c.loop-k.k no_point).kind
kind_is c = c.is_source.ensures ∙ ap (λ ps. is_source (get_or ps c.loop-k.k no_point).kind) (c.points-points.ensures ∙ ap (λ ps. ps.list) c.points.ensures.points)

pub loop-k-preserved : goal.loop-k-preserved
loop-k-preserved c =
    let g = c.args.given.now in
    let k = c.loop-k.k in
    let rest : List ℕ = map (λ x. x.leaf) (given_sources (drop (k + 1) g.points.list) (drop (k + 1) g.certificate.ats)) in
    elim c.if-is_source.branch [
      | then-is_source+in_ok-push w ↦
          let node : w.at.result ≡ number_at (nth_line g.certificate.ats k) 0 =
          sym (ap (λ zs. unsigned_abs (nth_number zs 0)) w.at.ensures.number) ∙ ap (λ x. number_at (nth_line x.ats k) 0) c.cert-cert.ensures.certificate in
          ap (λ v. v.items ++ rest) w.leaves-is ∙ ap (λ xs. xs ++ rest) w.in_ok-push.ensures.items ∙ append_assoc c.loop-k.leaves.items (w.at.result ∷ []) rest
          ∙ ap (λ n. c.loop-k.leaves.items ++ n ∷ rest) node
          ∙ ap (λ xs. c.loop-k.leaves.items ++ xs) (sym (source-here g.points.list g.certificate.ats k no_point (inside_points c) (inside_lines c) (sym (kind_is c) ∙ w.if-is_source.true)))
          ∙ c.loop-k.invariant
      | else-is_source w ↦
          ap (λ v. v.items ++ rest) w.leaves-is
          ∙ ap (λ xs. c.loop-k.leaves.items ++ xs) (sym (no_source-here g.points.list g.certificate.ats k no_point (inside_points c) (inside_lines c) (sym (kind_is c) ∙ w.if-is_source.false)))
          ∙ c.loop-k.invariant
    ]

-- The larger of two numbers has a parent, and a smaller one.
use Rattle.std.proofs.Common.{◌<◌, length, sym, ap, ◌∙◌, subst, arith}
use Rattle.std.specs.Prelude.{All}
use Rattle.std.proofs.lemmas.List.FromFn.{length-map-range_with_len}
use Rattle.certificate_nodes.specs.Presented.{accounting_of}
use Rattle.certificate_rules.proofs.Ranges.{root_parent, parent_less}
use Rattle.certificate_tiling.specs.Walk.{CoversMore, CoversBetween}
use Rattle.certificate_tiling.proofs.Answered.{way-start, way-end, way-room, way-enough, way-left, way-entered}
use Rattle.certificate_tiling.proofs.Given.{read_named, read_few, few_in_all, inside}
use Rattle.certificate_tiling.proofs.Over.{times_on}
use Rattle.certificate_tiling.proofs.Reach.{parent_inside}
use Rattle.certificate_tiling.proofs.Steps.{more-same}
use Rattle.certificate_tiling.proofs.walk.go_to.Goals as goal

pub loop-left-init : goal.loop-left-init
loop-left-init c = record { between = way-start (accounting_of c.args.given.now) c.args.from c.args.to c.args.cover.now c.requires.at; left_inside = c.requires.from; entered_inside = c.requires.to }

-- ---- leaving
pub leave-requires-clause-numbers : goal.leave-requires-clause-numbers
leave-requires-clause-numbers c = subst (λ x. All (λ e. e < x.head.entries) c.entries.result.now) (sym c.cert-cert.ensures.certificate) c.entries.ensures.range

pub leave-requires-clause-enough : goal.leave-requires-clause-enough
leave-requires-clause-enough c =
    let g = c.args.given.now in
    let is = c.cert-cert.ensures.lines in
    let l = c.loop-left in
    λ k. omega (
      arith,
      read_named g is c.cert-cert.result.now c.entries.result.now l.left c.cert-cert.ensures.certificate c.entries.ensures.numbers k,
      way-enough (accounting_of g) (root_parent g.certificate is) (parent_less g.certificate is) c.args.to l.left l.entered l.cover (omega arith) l.invariant.between k,
    )

pub loop-left-smaller-then-left-entered : goal.loop-left-smaller-then-left-entered
loop-left-smaller-then-left-entered c =
    let less = parent_less c.args.given.now.certificate c.cert-cert.ensures.lines c.loop-left.left (omega arith) in
    omega (arith, less, c.parent-left.ensures)

pub loop-left-preserved-then-left-entered : goal.loop-left-preserved-then-left-entered
loop-left-preserved-then-left-entered c =
    let g = c.args.given.now in
    let is = c.cert-cert.ensures.lines in
    let l = c.loop-left in
    let less = c.leave.ensures in
    let fewer : CoversMore c.leave.new.cover l.cover (times_on (accounting_of g) l.left) =
    more-same c.leave.new.cover l.cover _ _ less (read_named g is c.cert-cert.result.now c.entries.result.now l.left c.cert-cert.ensures.certificate c.entries.ensures.numbers) in
    record {
      between = subst (λ p. CoversBetween (accounting_of g) c.args.to p l.entered c.leave.new.cover) (sym c.parent-left.ensures)
          (way-left (accounting_of g) (root_parent g.certificate is) (parent_less g.certificate is) c.args.to l.left l.entered l.cover c.leave.new.cover (omega arith) l.invariant.between fewer);
      left_inside = omega (arith, c.parent-left.ensures, parent_inside (accounting_of g) (root_parent g.certificate is) (parent_less g.certificate is) l.left l.invariant.left_inside);
      entered_inside = l.invariant.entered_inside;
    }

-- ---- entering
pub enter-requires-clause-numbers : goal.enter-requires-clause-numbers
enter-requires-clause-numbers c =
    subst (λ x. All (λ e. e < x.head.entries) c.entries-else-left-entered.result.now) (sym c.cert-cert.ensures.certificate) c.entries-else-left-entered.ensures.range

pub enter-requires-clause-nodes : goal.enter-requires-clause-nodes
enter-requires-clause-nodes c =
    let A = accounting_of c.args.given.now in
    ap length c.loop-left.invariant.between.covers.parents ∙ length-map-range_with_len A.parent 0 A.nodes ∙ ap (λ x. x.head.cells) (sym c.cert-cert.ensures.certificate)

pub enter-requires-clause-covers : goal.enter-requires-clause-covers
enter-requires-clause-covers c = c.loop-left.invariant.between.covers.len ∙ ap (λ x. x.head.cells) (sym c.cert-cert.ensures.certificate)

pub enter-requires-clause-room : goal.enter-requires-clause-room
enter-requires-clause-room c =
    let g = c.args.given.now in
    let is = c.cert-cert.ensures.lines in
    let l = c.loop-left in
    omega (
      arith,
      read_few g is c.cert-cert.result.now c.entries-else-left-entered.result.now l.entered c.cert-cert.ensures.certificate c.entries-else-left-entered.ensures.numbers,
      way-room (accounting_of g) c.args.to l.left l.entered l.cover (inside g.points g.certificate is) l.invariant.between,
      few_in_all g.points g.certificate is,
    )

pub loop-left-smaller : goal.loop-left-smaller
loop-left-smaller c =
    let less = parent_less c.args.given.now.certificate c.cert-cert.ensures.lines c.loop-left.entered (omega arith) in
    omega (arith, less, c.parent-entered.ensures)

pub loop-left-preserved : goal.loop-left-preserved
loop-left-preserved c =
    let g = c.args.given.now in
    let is = c.cert-cert.ensures.lines in
    let l = c.loop-left in
    let more : CoversMore l.cover c.enter.new.cover (times_on (accounting_of g) l.entered) =
    more-same l.cover c.enter.new.cover _ _ c.enter.ensures (read_named g is c.cert-cert.result.now c.entries-else-left-entered.result.now l.entered c.cert-cert.ensures.certificate c.entries-else-left-entered.ensures.numbers) in
    record {
      between = subst (λ p. CoversBetween (accounting_of g) c.args.to l.left p c.enter.new.cover) (sym c.parent-entered.ensures)
          (way-entered (accounting_of g) (root_parent g.certificate is) (parent_less g.certificate is) c.args.to l.left l.entered l.cover c.enter.new.cover (omega arith) l.invariant.between more);
      left_inside = l.invariant.left_inside;
      entered_inside = omega (arith, c.parent-entered.ensures, parent_inside (accounting_of g) (root_parent g.certificate is) (parent_less g.certificate is) l.entered l.invariant.entered_inside);
    }

pub returns : goal.returns
returns c =
    let l = c.loop-left in
    way-end (accounting_of c.args.given.now) c.args.to l.left l.cover (subst (λ n. CoversBetween (accounting_of c.args.given.now) c.args.to l.left n l.cover) (sym c.loop-left-test.false) l.invariant.between)

-- A filled box is the field's.
use Rattle.std.proofs.Common.{◌<◌, length, sym, subst}
use Rattle.exact_math.specs.Units.{unit}
use Rattle.complex_box.specs.Box.{BoxContains, BoxWithin}
use Rattle.complex_box.specs.declared.CBox.{CBox}
use Rattle.field_basis.specs.Basis.{target_place}
use Rattle.field_basis.specs.FieldPlaces.{IsTargetBox}
use Rattle.limits.specs.Limits.{most_box}
use Rattle.near_field.specs.DirectSum.{direct_sum}
use Rattle.target_values.proofs.FieldBox.{box_contains, box_small}
use Rattle.row_board.specs.Parts.{BoardParts}
use Rattle.row_board.proofs.Values.{value_read}
use Rattle.row_board.proofs.board.Board.value.Goals as goal

pub returns-then-index-clause-field : goal.returns-then-index-clause-field
returns-then-index-clause-field g c =
    let k = c.args.k in
    let value : CBox = c.index-then-index.result.now in
    let lt = subst (λ (b : BoardParts). k < length b.basis.targets) (sym c.self.view_is) c.requires in
    let box = value_read g.row.P _ c.self.invariant k c.index.result.now value lt c.index.ensures c.if-index.true c.index-then-index.ensures in
    subst (λ (b : BoardParts). IsTargetBox g.row.P b.basis k value) c.self.view_is box

pub returns-then-index-clause-contains : goal.returns-then-index-clause-contains
returns-then-index-clause-contains g c =
    let k = c.args.k in
    let value : CBox = c.index-then-index.result.now in
    let lt = subst (λ (b : BoardParts). k < length b.basis.targets) (sym c.self.view_is) c.requires in
    let box = value_read g.row.P _ c.self.invariant k c.index.result.now value lt c.index.ensures c.if-index.true c.index-then-index.ensures in
    subst (λ (b : BoardParts). BoxContains unit value (direct_sum (target_place b.basis k) b.basis.points)) c.self.view_is (box_contains g.row.P _ c.self.invariant.basis_is k lt value box)

pub returns-then-index-clause-size : goal.returns-then-index-clause-size
returns-then-index-clause-size g c =
    let k = c.args.k in
    let value : CBox = c.index-then-index.result.now in
    let lt = subst (λ (b : BoardParts). k < length b.basis.targets) (sym c.self.view_is) c.requires in
    let box = value_read g.row.P _ c.self.invariant k c.index.result.now value lt c.index.ensures c.if-index.true c.index-then-index.ensures in
    subst (λ (b : BoardParts). BoxWithin (most_box b.basis.tree.grid) value) c.self.view_is (box_small g.row.P _ c.self.invariant.basis_is k lt value box)

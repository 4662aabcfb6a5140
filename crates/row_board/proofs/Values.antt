-- The boxes of the targets of a board.
use Rattle.std.proofs.Common.{ℕ, ◌≡◌, ◌<◌, length, get_or, map, Bool, false, true, sym, ap, ◌∙◌, subst, arith}
use Rattle.std.proofs.lemmas.List.{get_or_default, get_or-map, length-map, same_lists}
use Rattle.exact_math.specs.Ends.{BoxEnds}
use Rattle.complex_box.specs.Box.{box_ends}
use Rattle.complex_box.specs.Rows.{zero_cbox}
use Rattle.complex_box.specs.declared.CBox.{CBox}
use Rattle.field_basis.proofs.Positions.{targets_at}
use Rattle.field_basis.specs.Basis.{target_of}
use Rattle.field_basis.specs.FieldPlaces.{IsTargetBox, AreTargetBoxes}
use Rattle.field_basis.specs.Targets.{point_at}
use Rattle.points.specs.Points.{place}
use Rattle.points.specs.declared.Point.{Point}
use Rattle.tree_field.specs.Field.{targets, target_box}
use Rattle.row_board.specs.Board.{IsBoard}
use Rattle.row_board.specs.Names.{is_filled}
use Rattle.row_board.specs.Parts.{BoardParts}
use Rattle.row_board.specs.declared.name.Name.TheVariants.{Value}

module _ (P : ℕ) (b : BoardParts) (is : IsBoard P b) where
  -- a mark that was read
  value_mark : (k : ℕ) (mark : Bool) → k < length b.basis.targets → mark ≡ get_or b.has_value k mark → is_filled b (Value k) ≡ mark
  value_mark k mark lt e = get_or_default b.has_value k false mark (omega (arith, lt, is.value_marks)) ∙ sym e

  pub value_read : (k : ℕ) (mark : Bool) (value : CBox) → k < length b.basis.targets → mark ≡ get_or b.has_value k mark → mark ≡ true → value ≡ get_or b.values k value → IsTargetBox P b.basis k value
  value_read k mark value lt e t read =
      subst (IsTargetBox P b.basis k) (get_or_default b.values k zero_cbox value (omega (arith, lt, is.value_each)) ∙ sym read) (is.filled (Value k) (value_mark k mark lt e ∙ t))

  -- the targets of the list
  targets_are : map (point_at b.basis.points) b.basis.targets ≡ targets b.basis.points
  targets_are = ap (map (point_at b.basis.points)) is.basis_is.targets_are ∙ targets_at b.basis.points

  pub values_are : ((k : ℕ) → k < length b.basis.targets → is_filled b (Value k) ≡ true) → AreTargetBoxes P b.basis b.values
  values_are full lists are =
      let points = b.basis.points in
      let box : Point → BoxEnds = λ p. target_box points b.basis.cap P lists (place p) in
      let n = length-map b.basis.targets (point_at points) in
      same_lists (map box_ends b.values) (map box (map (point_at points) b.basis.targets)) (omega (arith, length-map b.values box_ends, length-map (map (point_at points) b.basis.targets) box, n, is.value_each))
      (λ k d lt.
      let inside : k < length b.values = omega (arith, lt, length-map b.values box_ends) in
      let here : k < length b.basis.targets = omega (arith, inside, is.value_each) in
      get_or-map box_ends b.values k zero_cbox d inside
      ∙ is.filled (Value k) (full k here) lists are
      ∙ ap box (sym (get_or-map (point_at points) b.basis.targets k 0 (target_of b.basis k) here))
      ∙ sym (get_or-map box (map (point_at points) b.basis.targets) k (target_of b.basis k) d (omega (arith, n, here))))
      ∙ ap (map box) targets_are

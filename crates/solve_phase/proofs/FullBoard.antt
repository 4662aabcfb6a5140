-- A full board holds what a solve of the same points gives, since both hold the field over the one tree of the points.
use Rattle.std.proofs.Common.{ℕ, ◌≡◌, ◌<◌, ◌∙◌, length, sym, ap, ap₂, subst, arith}
use Rattle.std.proofs.lemmas.Bool.{cases_Bool, true≢false}
use Rattle.std.proofs.lemmas.List.{length-map}
use Rattle.std.proofs.lemmas.List.Elements.{All-contains}
use mathlib.Core.Logic.{⊎_elim}
use Rattle.cell_name.specs.Cell.{square}
use Rattle.cell_name.specs.Square.{no_square}
use Rattle.field_basis.proofs.Sizes.{some_lists}
use Rattle.field_basis.specs.FieldPlaces.{AreAllMultipolePlaces, IsLocalPlace, HasNoRow}
use Rattle.field_basis.specs.Place.{place_at}
use Rattle.quadtree.proofs.Ascending.{same_list}
use Rattle.quadtree.specs.Tree.{IsTreeCell, has_target, AreExactly}
use Rattle.quadtree.specs.TreeModel.{squares, size, square_of, node_of}
use Rattle.row_board.proofs.FullBoard.{holds_field}
use Rattle.row_board.specs.Board.{IsBoard}
use Rattle.row_board.specs.Laws.{IsFull, HoldsWholeField}
use Rattle.row_board.specs.Parts.{BoardParts}
use Rattle.row_recursions.specs.Rows.{row_of, AreSameRows}
use Rattle.std.specs.Prelude.{slice_index_or, IsTrue}
use Rattle.tree_field.specs.Field.{multipole_row, local_row, local_radius}
use Rattle.tree_field.specs.Lists.{TreeLists, AreTreeLists}
use Rattle.field_solve.specs.Field.{IsSolved}
use Rattle.solve_phase.specs.Laws.{HoldsSame}
use Rattle.field_solve.specs.Parts.{FieldParts}

module _ (P : ℕ) (b : BoardParts) (f : FieldParts) (is : IsBoard P b) (full : IsFull b) (solved : IsSolved b.basis.points b.basis.cap P f) (grids : f.basis.tree.grid ≡ b.basis.tree.grid) where
  whole : HoldsWholeField P b
  whole = holds_field P b is full

  -- ---- one tree
  cells_of_field : AreExactly (IsTreeCell b.basis.tree.grid b.basis.points b.basis.cap) (squares f.basis.tree)
  cells_of_field = subst (λ grid. AreExactly (IsTreeCell grid b.basis.points b.basis.cap) (squares f.basis.tree)) grids solved.is_tree.cells_are

  same_cells : squares b.basis.tree ≡ squares f.basis.tree
  same_cells =
      let these = is.basis_is.is_tree.cells_are in
      let others = cells_of_field in
      same_list (squares b.basis.tree) (squares f.basis.tree) these.ascending others.ascending
      (λ c h. others.whole c (All-contains (IsTreeCell b.basis.tree.grid b.basis.points b.basis.cap) (squares b.basis.tree) c these.each h))
      (λ c h. these.whole c (All-contains (IsTreeCell b.basis.tree.grid b.basis.points b.basis.cap) (squares f.basis.tree) c others.each h))

  same_square : (n : ℕ) → square_of b.basis.tree n ≡ square_of f.basis.tree n
  same_square n = ap (λ cells. slice_index_or cells n no_square) same_cells

  same_number : (n : ℕ) → n < size b.basis.tree → n < size f.basis.tree
  same_number n lt = omega (arith, lt, length-map b.basis.tree.cells square, length-map f.basis.tree.cells square, ap length same_cells)

  -- lists of the board's tree are lists of the field's
  lists_of_solved : (lists : TreeLists) → AreTreeLists b.basis.tree.grid b.basis.points b.basis.cap lists → AreTreeLists f.basis.tree.grid b.basis.points b.basis.cap lists
  lists_of_solved lists are = subst (λ grid. AreTreeLists grid b.basis.points b.basis.cap lists) (sym grids) are

  lists_of_kept : (lists : TreeLists) → AreTreeLists b.basis.tree.grid b.basis.points b.basis.cap lists → AreTreeLists f.basis.tree.grid f.basis.points f.basis.cap lists
  lists_of_kept lists are = rw (solved.points_are, solved.cap_is) (lists_of_solved lists are)

  module _ (n : ℕ) (lt : n < size b.basis.tree) where
    -- ---- multipole rows
    places_of_field : AreAllMultipolePlaces P b.basis.points f.basis.tree f.up
    places_of_field = subst (λ points. AreAllMultipolePlaces P points f.basis.tree f.up) solved.points_are solved.up_are

    same_multipole : AreSameRows P (row_of (place_at b.up n).row) (row_of (place_at f.up n).row)
    same_multipole k h =
        (whole.up_are.each n lt).row_is b.basis.cap is.basis_is.is_tree k h
        ∙ ap (λ c. multipole_row b.basis.points b.basis.cap c k) (same_square n)
        ∙ sym ((places_of_field.each n (same_number n lt)).row_is b.basis.cap solved.is_tree k h)

    -- ---- local rows and radii
    here : IsLocalPlace P b.basis n (place_at b.local n)
    here = whole.local_are.each n lt

    there : IsLocalPlace P f.basis n (place_at f.local n)
    there = solved.local_are.each n (same_number n lt)

    -- a target in the cell of the one tree is one in the cell of the other
    target_there : IsTrue (has_target b.basis.points (square_of b.basis.tree n)) → IsTrue (has_target f.basis.points (square_of f.basis.tree n))
    target_there t = subst (λ c. IsTrue (has_target f.basis.points c)) (same_square n) (subst (λ points. IsTrue (has_target points (square_of b.basis.tree n))) (sym solved.points_are) t)

    target_back : IsTrue (has_target f.basis.points (square_of f.basis.tree n)) → IsTrue (has_target b.basis.points (square_of b.basis.tree n))
    target_back t = subst (λ c. IsTrue (has_target b.basis.points c)) (sym (same_square n)) (subst (λ points. IsTrue (has_target points (square_of f.basis.tree n))) solved.points_are t)

    abbrev AreSame : Type 0
    AreSame = AreSameRows P (row_of (place_at b.local n).row) (row_of (place_at f.local n).row) × ((place_at b.local n).radius ≡ (place_at f.local n).radius)

    with_target : IsTrue (has_target b.basis.points (square_of b.basis.tree n)) → AreSame
    with_target t =
        let lists = some_lists P b.basis is.basis_is in
        let ours = here.with_target t lists.0 lists.1 in
        let theirs = there.with_target (target_there t) lists.0 (lists_of_kept lists.0 lists.1) in (
          λ k h.
              ours.row_is k h
              ∙ ap (λ c. local_row b.basis.points b.basis.cap P lists.0 c k) (same_square n)
              ∙ sym (ap₂ (λ points cap. local_row points cap P lists.0 (square_of f.basis.tree n) k) solved.points_are solved.cap_is)
              ∙ sym (theirs.row_is k h),
          ours.radius_is
              ∙ ap (λ c. local_radius b.basis.points b.basis.cap P lists.0 c) (same_square n)
              ∙ sym (ap₂ (λ points cap. local_radius points cap P lists.0 (square_of f.basis.tree n)) solved.points_are solved.cap_is)
              ∙ sym theirs.radius_is,
        )

    without_target : (IsTrue (has_target b.basis.points (square_of b.basis.tree n)) → ⊥) → AreSame
    without_target none =
        let ours : HasNoRow P (place_at b.local n) = here.without none in
        let theirs : HasNoRow P (place_at f.local n) = there.without (λ t. none (target_back t)) in
        (λ k h. ours.row_is k h ∙ sym (theirs.row_is k h), ours.radius_is ∙ sym theirs.radius_is)

    same_local : AreSame
    same_local =
        let node = is.basis_is.is_tree.nodes_are n lt in
        ⊎_elim (λ t. with_target (node.target.0 t)) (λ none. without_target (λ t. true≢false (sym (node.target.1 t) ∙ none))) (cases_Bool (node_of b.basis.tree n).has_target)

  pub holds_same : HoldsSame P b f
  holds_same =
      let lists = some_lists P b.basis is.basis_is in
      record {
        cells = same_cells;
        up = same_multipole;
        local = λ n lt. (same_local n lt).0;
        radii = λ n lt. (same_local n lt).1;
        values = whole.values_are lists.0 lists.1 ∙ sym (solved.over lists.0 (lists_of_solved lists.0 lists.1)).values_are;
      }

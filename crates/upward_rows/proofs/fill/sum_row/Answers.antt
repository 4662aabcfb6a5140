-- One child more.
use Rattle.std.proofs.Common.{◌≡◌, ℕ, ◌+◌, ◌*◌, ◌^◌, ◌<◌, List, [], ◌∷◌, length, get_or, take, true, ap, ap₂, lit<, sym, subst, ◌∙◌, arith, length-append}
use Rattle.exact_math.specs.Ends.{BoxEndsWithin, add_box}
use Rattle.exact_math.proofs.Orders.{order_bounds}
use Rattle.complex_box.specs.Counts.{Counts}
use Rattle.complex_box.proofs.Sizes.{box_wider}
use Rattle.cell_lists.proofs.TreeNumbers.{read_at}
use Rattle.cell_name.specs.Cell.{square}
use Rattle.cell_name.specs.Square.{Square}
use Rattle.field_basis.specs.Counts.{translated}
use Rattle.points.specs.Limits.{AreWithin}
use Rattle.quadtree.proofs.TreeChildren.{tree_cell_at}
use Rattle.quadtree.specs.TreeModel.{square_of, node_of}
use Rattle.row_recursions.specs.Cells.{quadrant_of}
use Rattle.row_recursions.specs.Rows.{row_of, shifted_up}
use Rattle.soundness.specs.Computed.{total_row}
use Rattle.soundness.specs.Squares.{quadrant}
use Rattle.tree_field.specs.Field.{leaf_row, multipole_row}
use Rattle.tree_field.specs.Program.{with_source}
use Rattle.upward_rows.proofs.Behind.{row_behind}
use Rattle.upward_rows.proofs.Children.{child_at, child_behind, children_few, kept_few, kept_whole, shifts_of_cell}
use Rattle.upward_rows.proofs.Counts.{raised_by}
use Rattle.upward_rows.proofs.FieldRows.{shifted_row, row_of_inner}
use Rattle.upward_rows.proofs.Totals.{total_row-more, shifted_same}
use Rattle.upward_rows.proofs.Trees.{quadrant_is, kept_more, kept_same, row_of_leaf}
use Rattle.upward_rows.proofs.fill.sum_row.Goals as goal
use Rattle.upward_rows.proofs.fill.sum_row.Goals.{then-has_source, else-has_source}

pub has_source-requires : goal.has_source-requires
has_source-requires g c = (child_at _ _ c.requires.tree _ c.requires.cell _ _ c.children-children.ensures c.loop-child-test.true).in_range

pub overflow_sub-m : goal.overflow_sub-m
overflow_sub-m g c =
    let here = child_behind _ _ c.requires.tree _ c.requires.cell _ _ c.children-children.ensures c.loop-child-test.true _ _ c.requires.behind (sym c.has_source.ensures ∙ c.if-has_source.true) in
    omega (arith, here.is_behind, ap length c.cells-cells.ensures.all)

pub bounds-behind-m : goal.bounds-behind-m
bounds-behind-m g c =
    let child = child_at _ _ c.requires.tree _ c.requires.cell _ _ c.children-children.ensures c.loop-child-test.true in
    let few = c.requires.behind.few in
    omega (arith, child.in_range, few, overflow_sub-m g c, ap length c.cells-cells.ensures.all)

pub quadrant-q-requires : goal.quadrant-q-requires
quadrant-q-requires g c =
    let child = child_at _ _ c.requires.tree _ c.requires.cell _ _ c.children-children.ensures c.loop-child-test.true in
    let here = read_at c.args.tree.now c.cells-cells.result.now (get_or c.children-children.result.now c.loop-child.child-index 0) c.index-cells-m.result c.cells-cells.ensures.all child.in_range c.index-cells-m.is in
    omega (arith, child.level_is, ap (λ (s : Square). s.level) here)

pub shift_up-requires : goal.shift_up-requires
shift_up-requires g c =
    let P = g.row.P in
    let tree = c.args.tree.now in
    let child = child_at _ _ c.requires.tree _ c.requires.cell _ _ c.children-children.ensures c.loop-child-test.true in
    let here = child_behind _ _ c.requires.tree _ c.requires.cell _ _ c.children-children.ensures c.loop-child-test.true _ _ c.requires.behind (sym c.has_source.ensures ∙ c.if-has_source.true) in
    let read = row_behind P _ _ _ _ child.in_range c.requires.tree (order_bounds P c.requires.order).1 here c.requires.behind.few _ _ _ (ap length c.cells-cells.ensures.all) c.index-behind-m.is c.row.ensures in
    let few = children_few _ _ c.requires.tree _ c.requires.cell (sym c.is_leaf.ensures ∙ c.if-is_leaf.false) in
    let as_many = ap length c.children-children.ensures in
    let before : c.loop-child.child-index < 4 = omega (arith, c.loop-child-test.true, as_many, few) in
    let kept = kept_few tree c.children-children.result.now c.loop-child.child-index in
    let raised = ap (λ (w : Counts). w.translations) c.loop-child.invariant.work in
    let as_long = c.requires.len in
    let room = c.requires.room in
    let order = c.requires.order in (
      lit< tt,
      (
        order,
        (
          omega (arith, c.loop-child.auto.row, c.clear.auto.cells, as_long),
          (
            λ k h. box_wider (2 ^ 76) (2 ^ 80) _ (omega arith) (read.small k h),
            (λ k h. box_wider (2 ^ 76 * c.loop-child.child-index) (2 ^ 80) _ (omega (arith, before)) (c.loop-child.invariant.size k h), omega (arith, raised, kept, room, before)),
          ),
        ),
      ),
    )

pub loop-child-preserved : goal.loop-child-preserved
loop-child-preserved g c =
    let P = g.row.P in
    let tree = c.args.tree.now in
    let points = c.args.points.now in
    let xs : List ℕ = c.children-children.result.now in
    let k = c.loop-child.child-index in
    let lt = c.loop-child-test.true in
    let m : ℕ = get_or xs k 0 in
    let child = child_at _ _ c.requires.tree _ c.requires.cell _ _ c.children-children.ensures c.loop-child-test.true in
    let kept : List ℕ = with_source tree (take k xs) in
    elim c.if-has_source.branch [
      | then-has_source w ↦
          let source : (node_of tree m).has_source ≡ true = sym c.has_source.ensures ∙ w.if-has_source.true in
          let place = child_behind _ _ c.requires.tree _ c.requires.cell _ _ c.children-children.ensures c.loop-child-test.true _ _ c.requires.behind source in
          let read = row_behind P _ _ _ _ child.in_range c.requires.tree (order_bounds P c.requires.order).1 place c.requires.behind.few _ _ _ (ap length c.cells-cells.ensures.all) w.index-behind-m.is w.row.ensures in
          let here : square w.index-cells-m.result ≡ square_of tree m = read_at tree c.cells-cells.result.now m w.index-cells-m.result c.cells-cells.ensures.all child.in_range w.index-cells-m.is in
          let turned : quadrant (square_of tree m) ≡ quadrant_of w.quadrant-q.result = ap quadrant (sym here) ∙ quadrant_is (square w.index-cells-m.result) w.quadrant-q.result w.quadrant-q.ensures in
          let more = kept_more (λ j. (node_of tree j).has_source) xs k lt source in
          let longer = ap length more ∙ length-append kept (m ∷ []) in
          let before = c.loop-child.invariant.work in
          record {
            row = λ cap is j h.
                ap (λ l. row_of l j) w.row-is
                ∙ w.shift_up.ensures.adds j h
                ∙ ap₂ add_box (c.loop-child.invariant.row cap is j h) (
                shifted_same P (row_of w.row.result.cells.now) (multipole_row points cap (square_of tree m)) (quadrant_of w.quadrant-q.result) (read.row_is cap is) j h
                ∙ ap (λ z. shifted_up (multipole_row points cap (square_of tree m)) z j) (sym turned))
                ∙ sym (total_row-more (shifted_row points cap tree) kept m j)
                ∙ ap (λ l. total_row (shifted_row points cap tree) l j) (sym more);
            size = λ j h.
                subst (λ l. BoxEndsWithin (2 ^ 76 * (k + 1)) (row_of l j)) (sym w.row-is)
                (box_wider (2 ^ 76 * k + 2 ^ 76) (2 ^ 76 * (k + 1)) _ (omega arith)
                (w.shift_up.ensures.size (2 ^ 76 * k) (2 ^ 76) c.loop-child.invariant.size read.small j h));
            work = w.work-is ∙ raised_by (length (with_source tree (take (k + 1) xs))) w.shift_up.new.work c.args.work.now
                (omega (arith, w.shift_up.ensures.work.translations, ap (λ (v : Counts). v.translations) before, longer))
                (w.shift_up.ensures.work.pairs ∙ ap (λ (v : Counts). v.pairs) before);
          }
      | else-has_source w ↦
          let same = kept_same (λ j. (node_of tree j).has_source) xs k lt (sym c.has_source.ensures ∙ w.if-has_source.false) in
          record {
            row = λ cap is j h. ap (λ l. row_of l j) w.row-is ∙ c.loop-child.invariant.row cap is j h ∙ ap (λ l. total_row (shifted_row points cap tree) l j) (sym same);
            size = λ j h. subst (λ l. BoxEndsWithin (2 ^ 76 * (k + 1)) (row_of l j)) (sym w.row-is) (box_wider (2 ^ 76 * k) (2 ^ 76 * (k + 1)) _ (omega arith) (c.loop-child.invariant.size j h));
            work = w.work-is ∙ c.loop-child.invariant.work ∙ ap (λ (l : List ℕ). translated (length l) c.args.work.now) (sym same);
          }
    ]

-- ---- a leaf
pub sum_sources-requires-clause-within : goal.sum_sources-requires-clause-within
sum_sources-requires-clause-within g c =
    let tree = c.args.tree.now in
    let points = c.args.points.now in
    let here = read_at tree c.cells-cells.result.now c.args.n c.index-cells-n.result c.cells-cells.ensures.all c.requires.cell c.index-cells-n.is in
    let same = ap (λ (s : Square). s.grid) here ∙ (tree_cell_at tree points c.requires.tree.cap c.args.n c.requires.tree.is_tree c.requires.cell).of_grid in
    subst (λ grid. AreWithin grid points) (sym same) c.requires.tree.within

pub returns-then-is_leaf-clause-row : goal.returns-then-is_leaf-clause-row
returns-then-is_leaf-clause-row g c = λ cap is k h.
    let tree = c.args.tree.now in
    let points = c.args.points.now in
    c.sum_sources.ensures k h
    ∙ ap (λ s. leaf_row points s k) (read_at tree c.cells-cells.result.now c.args.n c.index-cells-n.result c.cells-cells.ensures.all c.requires.cell c.index-cells-n.is)
    ∙ sym (row_of_leaf tree points cap is c.args.n c.requires.cell (sym c.is_leaf.ensures ∙ c.if-is_leaf.true) k)

-- ---- another cell
pub returns-after-loop-child-clause-row : goal.returns-after-loop-child-clause-row
returns-after-loop-child-clause-row g c = λ cap is k h.
    let tree = c.args.tree.now in
    let points = c.args.points.now in
    c.loop-child.invariant.row cap is k h
    ∙ ap (λ l. total_row (shifted_row points cap tree) l k) (kept_whole _ _ c.requires.tree _ c.requires.cell c.children-children.result.now c.loop-child.child-index c.children-children.ensures (omega (arith, c.loop-child-test.false)))
    ∙ row_of_inner tree points c.requires.tree cap is c.args.n c.requires.cell (sym c.is_leaf.ensures ∙ c.if-is_leaf.false) k

pub returns-after-loop-child-clause-work : goal.returns-after-loop-child-clause-work
returns-after-loop-child-clause-work g c =
    let kept = kept_whole _ _ c.requires.tree _ c.requires.cell c.children-children.result.now c.loop-child.child-index c.children-children.ensures (omega (arith, c.loop-child-test.false)) in
    c.loop-child.invariant.work ∙ ap (λ (count : ℕ). translated count c.args.work.now) (ap length kept ∙ shifts_of_cell _ _ c.requires.tree _ c.requires.cell (sym c.is_leaf.ensures ∙ c.if-is_leaf.false))

pub is_leaf-requires : goal.is_leaf-requires
is_leaf-requires g c = c.requires.cell

pub members-requires : goal.members-requires
members-requires g c = c.requires.cell

pub children-children-requires : goal.children-children-requires
children-children-requires g c = c.requires.cell

pub bounds-cells-n : goal.bounds-cells-n
bounds-cells-n g c = omega (arith, c.requires.cell, ap length c.cells-cells.ensures.all)

pub sum_sources-requires-clause-order : goal.sum_sources-requires-clause-order
sum_sources-requires-clause-order g c = c.requires.order

pub sum_sources-requires-clause-len : goal.sum_sources-requires-clause-len
sum_sources-requires-clause-len g c = c.requires.len

pub overflow_sub-first : goal.overflow_sub-first
overflow_sub-first g c = omega (arith, c.requires.behind.few, ap length c.cells-cells.ensures.all)

pub bounds-children-child-index : goal.bounds-children-child-index
bounds-children-child-index g c = c.loop-child-test.true

pub bounds-cells-m : goal.bounds-cells-m
bounds-cells-m g c =
    let child = child_at _ _ c.requires.tree _ c.requires.cell _ _ c.children-children.ensures c.loop-child-test.true in
    omega (arith, child.in_range, ap length c.cells-cells.ensures.all)

pub offset_bounds-behind-m : goal.offset_bounds-behind-m
offset_bounds-behind-m g c =
    let child = child_at _ _ c.requires.tree _ c.requires.cell _ _ c.children-children.ensures c.loop-child-test.true in
    omega (arith, child.in_range, c.requires.behind.few, ap length c.cells-cells.ensures.all)

pub row-requires : goal.row-requires
row-requires g c = let few = order_bounds g.row.P c.requires.order in (omega (arith, few), lit< tt)

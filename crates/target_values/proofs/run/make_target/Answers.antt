-- The place of one target.
use Rattle.std.proofs.Common.{rules, ◌∙◌, ap, sym, subst, arith, get_or}
use Rattle.exact_math.proofs.Orders.{order_bounds}
use Rattle.exact_math.specs.Units.{unit}
use Rattle.cell_lists.specs.ListAt.{list_at}
use Rattle.complex_box.specs.Box.{box_ends, BoxContains, BoxWithin}
use Rattle.field_basis.proofs.Sizes.{inside}
use Rattle.field_basis.specs.Basis.{IsBasis, target_leaf, target_place}
use Rattle.letters.specs.declared.Letter.TheVariants.{W}
use Rattle.limits.specs.Limits.{most_box}
use Rattle.near_field.specs.DirectSum.{direct_sum}
use Rattle.target_values.proofs.FieldBox.{leaf_is}
use Rattle.target_values.proofs.run.make_target.Goals as goal

pub target_value-value-requires : goal.target_value-value-requires
target_value-value-requires g c =
    let b = c.args.basis.now in
    let is : IsBasis g.row.P b = subst (IsBasis g.row.P) c.basis.view_is c.basis.invariant in
    let leaf = target_leaf b c.args.k in
    let in_tree = (leaf_is g.row.P b is c.args.k c.requires.index).in_range in
    let below = (is.lists_are.each b.points b.cap (inside g.row.P b is) is.is_tree W leaf in_tree).numbers in
    let orders = order_bounds g.row.P is.order in (
      search rules,
      (
        omega (arith, orders),
        (
          c.requires.index,
          (
            λ i d l. (omega (arith, below i d l, c.requires.up.as_many), c.requires.up.each (get_or (list_at b.lists.w leaf) i d) (below i d l)),
            (record { in_range = omega (arith, in_tree, c.requires.local.as_many); place_is = c.requires.local.each leaf in_tree }, omega (arith, c.new-work.ensures.pairs)),
          ),
        ),
      ),
    )

pub returns : goal.returns
returns g c =
    let b = c.args.basis.now in
    let counted = ap (λ w. w.pairs) c.target_value-value.ensures.work in
    record {
      value_is = λ lists are. ap box_ends c.of.ensures.value ∙ c.target_value-value.ensures.value lists are;
      contains = subst (λ v. BoxContains unit v (direct_sum (target_place b c.args.k) b.points)) (sym c.of.ensures.value) c.target_value-value.ensures.contains;
      small = subst (BoxWithin (most_box b.tree.grid)) (sym c.of.ensures.value) c.target_value-value.ensures.size;
      pairs_are = omega (arith, c.of.ensures.pairs, c.pairs.ensures, counted, c.new-work.ensures.pairs);
    }

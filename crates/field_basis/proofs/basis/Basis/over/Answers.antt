-- What was made is a basis, of points that were copied.
use Rattle.std.proofs.Common.{◌∙◌, List, ap, sym, subst}
use Rattle.points.specs.Limits.{AreWithin}
use Rattle.points.specs.declared.Point.{Point}
use Rattle.quadtree.specs.TreeModel.{IsTreeOf}
use Rattle.field_basis.specs.Targets.{target_positions}
use Rattle.field_basis.specs.Weights.{AreWeights}
use Rattle.field_basis.proofs.basis.Basis.over.Goals as goal

pub invariant_of-result : goal.invariant_of-result
invariant_of-result g c =
    let counted = c.in_ok-beside.ensures.counted in
    let copied = sym counted.points_are in
    record {
      order = c.requires.order;
      within = subst (λ (l : List Point). AreWithin c.args.tree.grid l) copied c.requires.within;
      capacity = c.requires.capacity;
      is_tree = subst (λ (l : List Point). IsTreeOf c.args.tree l c.args.cap) copied c.requires.tree;
      lists_are = c.in_ok-beside.ensures.lists;
      short = c.in_ok-beside.ensures.short;
      weight_each = counted.weight_each;
      weights_are = subst (λ (l : List Point). AreWeights l g.row.P c.args.tree c.in_ok-beside.beside.counted.weights.items) copied counted.weights_are;
      weights_small = counted.weights_small;
      targets_are = counted.targets_are ∙ ap target_positions copied;
    }

pub returns-clause-stands : goal.returns-clause-stands
returns-clause-stands g c = invariant_of-result g c

use Rattle.std.proofs.Common.{refl, sym, subst₂}
use Rattle.path_cover.specs.Kept.{IsKept}
use Rattle.path_cover.proofs.Keeping.{kept-none, same_kept}
use Rattle.path_cover.proofs.cover.Cover.with_sizes.Goals as goal

pub invariant_of-result : goal.invariant_of-result
invariant_of-result c =
    let ps = c.args.parents.now in
    let leaves = c.args.leaves.now in
    let covers = c.in_ok-covers.covers.items in
    let below = c.in_ok-below.below.items in
    subst₂ (λ p l. IsKept (record { parents = p; leaves = l; covers = covers }) c.args.sizes.items below 0 0) (sym c.in_ok-own_parents.ensures.items) (sym c.in_ok-own_leaves.ensures.items)
    (same_kept ps leaves c.args.sizes.items (kept-none ps leaves c.args.sizes.items c.requires.parents c.requires.few c.requires.len c.requires.sizes)
    (sym (c.in_ok-covers.ensures.items_if_clones_equal (λ y e. e))) (sym (c.in_ok-below.ensures.items_if_clones_equal (λ y e. e))) refl refl)

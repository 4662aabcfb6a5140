use Rattle.std.proofs.Common.{ℕ, ◌≡◌, ◌+◌, ◌-◌, ◌*◌, ◌<◌, ◌≤◌, cond, List, length, subst, sym, ◌∙◌, ap, ap₂, arith, refl}
use Rattle.std.specs.Prelude.{slice_set}
use Rattle.node_sums.specs.Sums.{value_at}
use Rattle.path_cover.specs.Covers.{times_above}
use Rattle.path_cover.specs.Kept.{strictly_under}
use Rattle.path_cover.proofs.Keeping.{kept-less, size-below, squares-below, each-below, same_kept, written_is}
use Rattle.path_cover.proofs.Taking.{taking, taken_back}
use Rattle.path_cover.proofs.cover.Cover.take.Goals as goal

pub lower_ancestors-requires-clause-enough : goal.lower_ancestors-requires-clause-enough
lower_ancestors-requires-clause-enough c =
    let s = c.self.inside in
    let t = taking s.parents.items s.leaves.items s.covers.items s.sizes.items s.below.items s.total s.squares c.args.c c.index_mut.result.now c.index-size.result.now c.index.result.now c.self.invariant
    (subst (λ m. 0 < value_at m.covers c.args.c) (sym c.self.view_is) c.requires) c.index_mut.ensures.value c.index-size.ensures c.index.ensures in
    let enough : (n : ℕ) → n < length s.below.items → cond (strictly_under s.parents.items c.args.c n) (value_at s.sizes.items c.args.c) 0 ≤ value_at s.below.items n =
    each-below _ s.sizes.items s.below.items s.total s.squares c.args.c t.before t.inside in
    simp (c.deref-3.ensures.value, c.deref_mut.ensures.value, t.size_is) enough

pub overflow_sub-self : goal.overflow_sub-self
overflow_sub-self c =
    let s = c.self.inside in
    let t = taking s.parents.items s.leaves.items s.covers.items s.sizes.items s.below.items s.total s.squares c.args.c c.index_mut.result.now c.index-size.result.now c.index.result.now c.self.invariant
    (subst (λ m. 0 < value_at m.covers c.args.c) (sym c.self.view_is) c.requires) c.index_mut.ensures.value c.index-size.ensures c.index.ensures in
    let least = size-below _ s.sizes.items s.below.items s.total s.squares c.args.c t.before t.inside in
    let size_is = t.size_is in
    omega arith

pub overflow_sub-self-2 : goal.overflow_sub-self-2
overflow_sub-self-2 c =
    let s = c.self.inside in
    let t = taking s.parents.items s.leaves.items s.covers.items s.sizes.items s.below.items s.total s.squares c.args.c c.index_mut.result.now c.index-size.result.now c.index.result.now c.self.invariant
    (subst (λ m. 0 < value_at m.covers c.args.c) (sym c.self.view_is) c.requires) c.index_mut.ensures.value c.index-size.ensures c.index.ensures in
    let fewer : List ℕ = slice_set s.covers.items c.args.c (c.index_mut.result.now - 1) in
    let meet : c.meeting-meet.result ≡ value_at s.sizes.items c.args.c * times_above s.parents.items (value_at fewer) (length fewer) c.args.c + value_at s.below.items c.args.c =
    simp (c.deref.ensures.value, c.deref-2.ensures.value, t.size_is, t.below_is) at c.meeting-meet.ensures.value in
    subst (λ v. v ≤ s.squares) (ap₂ (λ a b. 2 * a + b) (sym meet) (sym (c.from-2.ensures ∙ t.size_is))) (squares-below _ s.sizes.items s.below.items s.total s.squares c.args.c t.before t.inside)

pub invariant_of-self : goal.invariant_of-self
invariant_of-self c =
    let s = c.self.inside in
    let t = taking s.parents.items s.leaves.items s.covers.items s.sizes.items s.below.items s.total s.squares c.args.c c.index_mut.result.now c.index-size.result.now c.index.result.now c.self.invariant
    (subst (λ m. 0 < value_at m.covers c.args.c) (sym c.self.view_is) c.requires) c.index_mut.ensures.value c.index-size.ensures c.index.ensures in
    let fewer : List ℕ = slice_set s.covers.items c.args.c (c.index_mut.result.now - 1) in
    let meet : c.meeting-meet.result ≡ value_at s.sizes.items c.args.c * times_above s.parents.items (value_at fewer) (length fewer) c.args.c + value_at s.below.items c.args.c =
    simp (c.deref.ensures.value, c.deref-2.ensures.value, t.size_is, t.below_is) at c.meeting-meet.ensures.value in
    let lowered : (n : ℕ) → n < length s.below.items → value_at s.below.items n ≡ value_at c.lower_ancestors.new.below n + cond (strictly_under s.parents.items c.args.c n) (value_at s.sizes.items c.args.c) 0 =
    simp (c.deref-3.ensures.value, c.deref_mut.ensures.value, t.size_is) at c.lower_ancestors.ensures in
    let len : length c.lower_ancestors.new.below ≡ length s.below.items = c.lower_ancestors.auto.below ∙ ap length c.deref_mut.ensures.value in
    let less = kept-less (record { parents = s.parents.items; leaves = s.leaves.items; covers = fewer }) s.sizes.items s.below.items s.total s.squares c.args.c t.before t.inside c.lower_ancestors.new.below
    (s.total - c.from.result) (s.squares - (2 * c.meeting-meet.result + c.from-2.result)) len lowered
    (taken_back s.total c.from.result (value_at s.sizes.items c.args.c) (c.from.ensures ∙ t.size_is) (size-below _ s.sizes.items s.below.items s.total s.squares c.args.c t.before t.inside))
    (taken_back s.squares _ _ (ap₂ (λ a b. 2 * a + b) meet (c.from-2.ensures ∙ t.size_is)) (squares-below _ s.sizes.items s.below.items s.total s.squares c.args.c t.before t.inside)) in
    same_kept s.parents.items s.leaves.items s.sizes.items less refl (written_is _ _ _ (c.lower_ancestors.auto.below ∙ c.deref_mut.ensures.len)) refl refl

pub returns : goal.returns
returns c =
    let s = c.self.inside in
    let t = taking s.parents.items s.leaves.items s.covers.items s.sizes.items s.below.items s.total s.squares c.args.c c.index_mut.result.now c.index-size.result.now c.index.result.now c.self.invariant
    (subst (λ m. 0 < value_at m.covers c.args.c) (sym c.self.view_is) c.requires) c.index_mut.ensures.value c.index-size.ensures c.index.ensures in
    let same : record { parents = s.parents.items; leaves = s.leaves.items; covers = s.covers.items } ≡ c.args.self.now = c.self.view_is in
    sym same ∙ ap (λ xs. record { parents = s.parents.items; leaves = s.leaves.items; covers = xs }) (sym t.back)

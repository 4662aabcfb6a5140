use Rattle.std.proofs.Common.{ℕ, ◌≡◌, ◌+◌, ◌*◌, ◌<◌, ◌^◌, cond, length, subst, sym, ◌∙◌, ap, ap₂, arith}
use Rattle.std.specs.Prelude.{sum, slice_set}
use Rattle.std.proofs.lemmas.List.{get_or_read}
use Rattle.node_sums.specs.Sums.{value_at}
use Rattle.path_cover.specs.Covers.{times_above}
use Rattle.path_cover.specs.Kept.{strictly_under}
use Rattle.path_cover.proofs.Bounds.{size-fits, below-fits, total-fits, squares-fits}
use Rattle.path_cover.proofs.Keeping.{kept-more, same_kept, written_is}
use Rattle.path_cover.proofs.cover.Cover.add.Goals as goal

pub raise_ancestors-requires-clause-room : goal.raise_ancestors-requires-clause-room
raise_ancestors-requires-clause-room c = λ n l.
    let s = c.self.inside in
    let node : c.args.c < length s.parents.items = subst (λ m. c.args.c < length m.parents) (sym c.self.view_is) c.requires.node in
    let kept = c.self.invariant in
    let size_is : c.index-size.result.now ≡ value_at s.sizes.items c.args.c = get_or_read s.sizes.items c.args.c c.index-size.result.now (let e = kept.sizes_len in omega arith) c.index-size.ensures 0 in
    let below_is : value_at c.deref_mut.result.now n ≡ value_at s.below.items n = ap (λ xs. value_at xs n) c.deref_mut.ensures.value in
    let len : length c.deref_mut.result.now ≡ length s.below.items = ap length c.deref_mut.ensures.value in
    let a = size-fits _ _ _ _ _ kept c.args.c node in
    let b = below-fits _ _ _ _ _ kept n (let e = kept.below_len in omega arith) in
    omega arith

pub overflow_add-self : goal.overflow_add-self
overflow_add-self c = let a = total-fits _ _ _ _ _ c.self.invariant in omega arith

pub overflow_add-self-3 : goal.overflow_add-self-3
overflow_add-self-3 c = let a = squares-fits _ _ _ _ _ c.self.invariant in omega arith

pub invariant_of-self : goal.invariant_of-self
invariant_of-self c =
    let s = c.self.inside in
    let kept = c.self.invariant in
    let node : c.args.c < length s.parents.items = subst (λ m. c.args.c < length m.parents) (sym c.self.view_is) c.requires.node in
    let room : sum s.covers.items < 2 ^ 31 = subst (λ m. sum m.covers < 2 ^ 31) (sym c.self.view_is) c.requires.room in
    let size_is : c.index-size.result.now ≡ value_at s.sizes.items c.args.c = get_or_read s.sizes.items c.args.c c.index-size.result.now (let e = kept.sizes_len in omega arith) c.index-size.ensures 0 in
    let below_is : c.index.result.now ≡ value_at s.below.items c.args.c = get_or_read s.below.items c.args.c c.index.result.now (let e = kept.below_len in omega arith) c.index.ensures 0 in
    let cover_is : c.index_mut.result.now ≡ value_at s.covers.items c.args.c = get_or_read s.covers.items c.args.c c.index_mut.result.now (let e = kept.covers_len in omega arith) c.index_mut.ensures.value 0 in
    let raised : (n : ℕ) → n < length s.below.items → value_at c.raise_ancestors.new.below n ≡ value_at s.below.items n + cond (strictly_under s.parents.items c.args.c n) (value_at s.sizes.items c.args.c) 0 =
    simp (c.deref-3.ensures.value, c.deref_mut.ensures.value, size_is) at c.raise_ancestors.ensures in
    let meet : c.meeting-meet.result ≡ value_at s.sizes.items c.args.c * times_above s.parents.items (value_at s.covers.items) (length s.covers.items) c.args.c + value_at s.below.items c.args.c =
    simp (c.deref.ensures.value, c.deref-2.ensures.value, size_is, below_is) at c.meeting-meet.ensures.value in
    let len : length c.raise_ancestors.new.below ≡ length s.below.items = c.raise_ancestors.auto.below ∙ ap length c.deref_mut.ensures.value in
    same_kept s.parents.items s.leaves.items s.sizes.items
    (kept-more _ s.sizes.items s.below.items c.raise_ancestors.new.below s.total s.squares c.args.c kept node room len raised)
    (ap (λ v. slice_set s.covers.items c.args.c (v + 1)) (sym cover_is))
    (written_is _ _ _ (c.raise_ancestors.auto.below ∙ c.deref_mut.ensures.len))
    (ap (λ v. s.total + v) (sym (c.from.ensures ∙ size_is)))
    (ap₂ (λ a b. s.squares + (2 * a + b)) (sym meet) (sym (c.from-2.ensures ∙ size_is)))

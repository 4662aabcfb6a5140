use Rattle.std.proofs.Common.{◌≡◌, ◌∙◌, sym, ap₂, ◌*ℤ◌, arith, to_z-of_z}
use Rattle.std.proofs.lemmas.Int.{ints}
use Rattle.std.specs.Int.{int_min}
use Rattle.fixed_interval.proofs.Order.{settled, ends_up, ends_down, ends_across}
use Rattle.local_expansion.proofs.NarrowEnds.{wider, narrow_fits, narrow_cast, product_cast, product_of, least_of}
use Rattle.local_expansion.proofs.narrow.lower_end.Goals as goal

pub product-requires-clause-left : goal.product-requires-clause-left
product-requires-clause-left c = narrow_cast _ c.end_below.ensures.size

pub product-requires-clause-right : goal.product-requires-clause-right
product-requires-clause-right c = narrow_cast _ c.args.y.low_end

pub returns-then-x-ge0-clause-size : goal.returns-then-x-ge0-clause-size
returns-then-x-ge0-clause-size c = product_cast _ c.product.ensures.size

pub returns-then-x-ge0-clause-value : goal.returns-then-x-ge0-clause-value
returns-then-x-ge0-clause-value c =
    let x = c.args.x in
    let y = c.args.y in
    let f = narrow_fits y.lo y.low_end in
    let e = ends_up x.lo x.hi y.lo y.hi (omega (arith, ints)) x.ordered y.ordered in
    let p = product_of _ _ _ c.end_below.ensures.size y.low_end c.product.ensures.value in
    let q : c.end_below.result *ℤ y.lo ≡ int_min (x.lo *ℤ y.lo) (x.hi *ℤ y.lo) = simp to_z-of_z at c.end_below.ensures.product in
    settled _ _ (wider _ c.product.ensures.size) (p ∙ (q ∙ sym e.least))

pub product-requires-then-x-le0-clause-left : goal.product-requires-then-x-le0-clause-left
product-requires-then-x-le0-clause-left c = narrow_cast _ c.end_below-then-x-le0.ensures.size

pub product-requires-then-x-le0-clause-right : goal.product-requires-then-x-le0-clause-right
product-requires-then-x-le0-clause-right c = narrow_cast _ c.args.y.high_end

pub returns-then-x-le0-clause-size : goal.returns-then-x-le0-clause-size
returns-then-x-le0-clause-size c = product_cast _ c.product-then-x-le0.ensures.size

pub returns-then-x-le0-clause-value : goal.returns-then-x-le0-clause-value
returns-then-x-le0-clause-value c =
    let x = c.args.x in
    let y = c.args.y in
    let f = narrow_fits y.hi y.high_end in
    let e = ends_down x.lo x.hi y.lo y.hi (omega (arith, ints)) x.ordered y.ordered in
    let p = product_of _ _ _ c.end_below-then-x-le0.ensures.size y.high_end c.product-then-x-le0.ensures.value in
    let q : c.end_below-then-x-le0.result *ℤ y.hi ≡ int_min (x.lo *ℤ y.hi) (x.hi *ℤ y.hi) = simp to_z-of_z at c.end_below-then-x-le0.ensures.product in
    settled _ _ (wider _ c.product-then-x-le0.ensures.size) (p ∙ (q ∙ sym e.least))

pub product-requires-2-clause-left : goal.product-requires-2-clause-left
product-requires-2-clause-left c = narrow_cast _ c.args.x.low_end

pub product-requires-2-clause-right : goal.product-requires-2-clause-right
product-requires-2-clause-right c = narrow_cast _ c.args.y.high_end

pub product-requires-3-clause-left : goal.product-requires-3-clause-left
product-requires-3-clause-left c = narrow_cast _ c.args.x.high_end

pub product-requires-3-clause-right : goal.product-requires-3-clause-right
product-requires-3-clause-right c = narrow_cast _ c.args.y.low_end

pub returns-clause-size : goal.returns-clause-size
returns-clause-size c = product_cast _ (least_of _ _ _ c.product-2.ensures.size c.product-3.ensures.size c.min.ensures.value).size

pub returns-clause-value : goal.returns-clause-value
returns-clause-value c =
    let x = c.args.x in
    let y = c.args.y in
    let e = ends_across x.lo x.hi y.lo y.hi (omega (arith, ints)) (omega (arith, ints)) y.ordered in
    let p = product_of _ _ _ x.low_end y.high_end c.product-2.ensures.value in
    let q = product_of _ _ _ x.high_end y.low_end c.product-3.ensures.value in
    let r = least_of _ _ _ c.product-2.ensures.size c.product-3.ensures.size c.min.ensures.value in
    settled _ _ (wider _ r.size) (r.is ∙ (ap₂ int_min p q ∙ sym e.least))

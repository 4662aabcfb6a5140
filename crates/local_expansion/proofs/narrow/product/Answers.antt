use Rattle.std.proofs.Common.{to_z-of_z}
use Rattle.local_expansion.proofs.NarrowEnds.{product_size}
use Rattle.local_expansion.proofs.narrow.product.Goals as goal

pub returns-clause-size : goal.returns-clause-size
returns-clause-size c =
    let a = c.ranges.a in
    let b = c.ranges.b in
    product_size c.args.a c.args.b c.from.result c.from-2.result c.requires.left c.requires.right (simp to_z-of_z at c.from.ensures) (simp to_z-of_z at c.from-2.ensures)

use Rattle.std.proofs.Common.{◌≡◌, ◌∙◌, ◌+◌, ◌*◌, ap₂, arith, unsigned_abs}
use Rattle.std.proofs.lemmas.Int.{ints}
use Rattle.std.specs.Int.{div_ceil}
use Rattle.truncation.specs.Tails.{single_tail as the_tail, single_loss}
use Rattle.error_ledger.proofs.Losses.{makes_up}
use Rattle.error_ledger.proofs.ledger.Ledger.add_single.Goals as goal

pub returns-clause-bounds : goal.returns-clause-bounds
returns-clause-bounds c =
    let weight : c.unsigned_abs.result ≡ unsigned_abs c.args.weight = let v = c.unsigned_abs.ensures.value in omega (arith, ints, v) in
    let tail : c.unsigned_abs-tail.result ≡ the_tail c.args.order = let u = c.unsigned_abs-tail.ensures.value in let v = c.single_tail.ensures.value in omega (arith, ints, u, v) in
    let side : c.unsigned_abs-2.result ≡ unsigned_abs c.args.side = let v = c.unsigned_abs-2.ensures.value in omega (arith, ints, v) in
    let added : c.add.new.self ≡ c.args.self.now + single_loss c.args.order (unsigned_abs c.args.weight) (unsigned_abs c.args.side) =
    c.add.ensures ∙ ap₂ (λ m n. c.args.self.now + div_ceil m n) (ap₂ (λ w t. w * t) weight tail) side in
    makes_up _ _ _ (omega (arith, ints)) (omega (arith, added))
